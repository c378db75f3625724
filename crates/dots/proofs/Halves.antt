-- The dots of the halves of a byte.
use Rattle.std.proofs.Common.{ℕ, ◌+◌, ◌*◌, ◌/◌, ◌%◌, ◌<◌, List, [], ◌∷◌, get_or, true, ◌≡◌, refl, arith}
use Rattle.std.specs.Str.{bytes_eq}
use Rattle.std.proofs.lemmas.Bool.{agree_below_at}
use Rattle.std.proofs.lemmas.Slice.Eq.{bytes_eq-Decides}
use Rattle.choice.proofs.Cases.{below4}
use Rattle.dots.specs.declared.expanding.TheConstants.{HALVES}
use Rattle.dots.specs.Tables.{table}
use Rattle.dots.specs.Bytes.{dot_of}

-- an entry of the table is the dots of that half
pub half_dots : (h : ℕ) → h < 16 → get_or HALVES h [] ≡ table 4 (dot_of 1 (h * 16))
unfolding table dot_of
half_dots h lt = (bytes_eq-Decides _ _).0 (agree_below_at (λ h. bytes_eq (get_or HALVES h []) (table 4 (dot_of 1 (h * 16)))) (λ _. true) 16 h refl lt)

-- the dots of the halves are a byte's first four and its last four
half_of : (b j : ℕ) → j < 4 → (dot_of 1 (b / 16 * 16) j ≡ dot_of 1 b (0 + j)) × (dot_of 1 (b % 16 * 16) j ≡ dot_of 1 b (4 + j))
unfolding dot_of
half_of b =
    below4 (λ j. (dot_of 1 (b / 16 * 16) j ≡ dot_of 1 b (0 + j)) × (dot_of 1 (b % 16 * 16) j ≡ dot_of 1 b (4 + j)))
    (omega arith) (omega arith) (omega arith) (omega arith)

-- both halves' dots are the byte's
pub both_halves : (b : ℕ) {ys zs : List ℕ} → ys ≡ table 4 (dot_of 1 (b / 16 * 16)) → zs ≡ table 4 (dot_of 1 (b % 16 * 16))
    → get_or ys 0 0 ∷ get_or ys 1 0 ∷ get_or ys 2 0 ∷ get_or ys 3 0 ∷ get_or zs 0 0 ∷ get_or zs 1 0 ∷ get_or zs 2 0 ∷ get_or zs 3 0 ∷ [] ≡ table 8 (dot_of 1 b)
unfolding table
both_halves b y z =
    let d = half_of b in
    rw (y, z, (d 0 (omega arith)).0, (d 1 (omega arith)).0, (d 2 (omega arith)).0, (d 3 (omega arith)).0, (d 0 (omega arith)).1, (d 1 (omega arith)).1, (d 2 (omega arith)).1, (d 3 (omega arith)).1) refl
