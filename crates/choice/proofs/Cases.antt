-- The two cases of a choice, and the cases of a number below 2 or 4, one by one.
use Rattle.std.proofs.Common.{◌≡◌, ℕ, zero, suc, ◌<◌, Bool, true, false, refl, le_of_suc-le-suc, not-suc-le-zero}
use Rattle.choice.specs.Choice.{when◌then◌else◌}

-- what both cases have, the choice has
pub choose : {A : Type 0} (P : A → Type 0) (test : Bool) (x y : A) → (test ≡ true → P x) → (test ≡ false → P y) → P (when test then x else y)
choose P true x y p q = p refl
choose P false x y p q = q refl

pub below2 : (P : ℕ → Type 0) → P 0 → P 1 → (d : ℕ) → d < 2 → P d
below2 P p0 p1 zero h = p0
below2 P p0 p1 (suc zero) h = p1
below2 P p0 p1 (suc (suc d)) h = absurd (not-suc-le-zero (le_of_suc-le-suc (le_of_suc-le-suc h)))

pub below4 : (P : ℕ → Type 0) → P 0 → P 1 → P 2 → P 3 → (d : ℕ) → d < 4 → P d
below4 P p0 p1 p2 p3 zero h = p0
below4 P p0 p1 p2 p3 (suc zero) h = p1
below4 P p0 p1 p2 p3 (suc (suc d)) h = below2 (λ x. P (suc (suc x))) p2 p3 d (le_of_suc-le-suc (le_of_suc-le-suc h))
