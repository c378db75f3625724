-- The digits of any number, past 64 bits too: those before the last are the digits of a tenth, and a digit more in a buffer is one more of the number.
use Rattle.std.proofs.Common.{ℕ, zero, suc, ◌+◌, ◌/◌, ◌%◌, ◌<◌, ◌≤◌, List, [], ◌∷◌, ◌++◌, Bool, true, false, length, take, ◌≡◌, refl, ap, ◌∙◌, arith}
use Rattle.std.proofs.Math.Nat.{not-suc-le-zero}
use Rattle.std.proofs.Math.ListN.{set}
use Rattle.std.proofs.Math.Numerals.{add-one}
use Rattle.std.proofs.lemmas.List.{length_push, take_more_set}
use Rattle.std.proofs.lemmas.Bool.{lt-ltb, le-ltb, ltb-false}
use Rattle.choice.specs.Choice.{when◌then◌else◌, ◌<?◌}
use Rattle.lines.specs.Lines.{digit, hex_digit, decimal_below}

-- the digits are the same under any bound
pub any_bound : (j k n : ℕ) → n < j → n < k → decimal_below j n ≡ decimal_below k n
unfolding decimal_below
any_bound zero k n h l = absurd (not-suc-le-zero h)
any_bound (suc j) zero n h l = absurd (not-suc-le-zero l)
any_bound (suc j) (suc k) n h l = go (n <? 10) refl (λ e. any_bound j k (n / 10) (omega (arith, ltb-false n 10 e)) (omega (arith, ltb-false n 10 e)))
  where
    go : (b : Bool) → (n <? 10) ≡ b
        → ((n <? 10) ≡ false → decimal_below j (n / 10) ≡ decimal_below k (n / 10))
        → (when b then [] else decimal_below j (n / 10)) ++ (digit (n % 10) ∷ []) ≡ (when b then [] else decimal_below k (n / 10)) ++ (digit (n % 10) ∷ [])
    go true e f = refl
    go false e f = ap (λ l. l ++ (digit (n % 10) ∷ [])) (f e)

pub one_digit : (n : ℕ) → n < 10 → decimal_below (n + 1) n ≡ digit (n % 10) ∷ []
unfolding decimal_below
one_digit n h = rw (add-one n, lt-ltb n 10 h) refl

pub more_digits : (n : ℕ) → 10 ≤ n → decimal_below (n + 1) n ≡ decimal_below (n / 10 + 1) (n / 10) ++ (digit (n % 10) ∷ [])
unfolding decimal_below
more_digits n h =
    rw (any_bound (n / 10 + 1) n (n / 10) (omega arith) (omega arith), add-one n, le-ltb n 10 h) refl

pub one_digit-length : (n : ℕ) → n < 10 → length (decimal_below (n + 1) n) ≡ 1
one_digit-length n h = ap length (one_digit n h)

pub more_digits-length : (n : ℕ) → 10 ≤ n → length (decimal_below (n + 1) n) ≡ length (decimal_below (n / 10 + 1) (n / 10)) + 1
more_digits-length n h = ap length (more_digits n h) ∙ length_push _ _

-- the last digit behind those before it
pub last_digit : (digits : List ℕ) (n last v : ℕ) → last < length digits → v ≡ hex_digit (n % 10)
    → take last digits ++ (digit (n % 10) ∷ []) ≡ decimal_below (n + 1) n → take (last + 1) (set digits last v) ≡ decimal_below (n + 1) n
last_digit digits n last v h e d =
    let low : n % 10 % 16 ≡ n % 10 = omega arith in
    take_more_set digits last v h ∙ rw (e, low) d
