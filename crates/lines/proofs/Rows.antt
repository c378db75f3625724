-- A row's bytes, and how they come into a buffer one by one.
use Rattle.std.proofs.Common.{ℕ, zero, suc, ◌+◌, ◌<◌, ◌≤◌, List, [], ◌∷◌, length, get_or, ◌≡◌, refl, sym, arith}
use Rattle.std.proofs.Math.ListN.{set}
use Rattle.std.proofs.Math.Nat.{le_of_suc-le-suc, not-suc-le-zero}
use Rattle.std.proofs.Math.Seq.{paste}
use Rattle.std.proofs.lemmas.List.Edits.{paste_more, paste_all}
use Rattle.std.proofs.lemmas.Bool.{le-leb}
use Rattle.std.proofs.lemmas.Grind.{common_steps}
use Rattle.lines.specs.Lines.{hex_digit, row_line, appended}
pub use Rattle.lines.proofs.Lengths.{row-length}

pub row_dot : (dots : List ℕ) (k : ℕ) → k < length dots → get_or (row_line dots) k 0 ≡ hex_digit (get_or dots k 0)
unfolding row_line
row_dot [] k h = absurd (not-suc-le-zero h)
row_dot (x ∷ xs) zero h = refl
row_dot (x ∷ xs) (suc k) h = row_dot xs k (le_of_suc-le-suc h)

row_end : (dots : List ℕ) → get_or (row_line dots) (length dots) 0 ≡ 0xA
unfolding row_line
row_end [] = refl
row_end (x ∷ xs) = row_end xs

-- one byte more
pub stored : (buffer dots : List ℕ) (used k v : ℕ) → used + length dots < length buffer → k ≤ length dots → v ≡ get_or (row_line dots) k 0
    → set (paste buffer used (row_line dots) k) (used + k) v ≡ paste buffer used (row_line dots) (k + 1)
stored buffer dots used k v fits h e = grind (arith, common_steps, row-length dots, paste_more buffer used (row_line dots) k 0)

-- the line's end, and with it the whole line
pub ended : (buffer dots : List ℕ) (used k end : ℕ) → end < length buffer → end ≡ used + length dots → k ≡ length dots
    → set (paste buffer used (row_line dots) k) end 0xA ≡ appended buffer used (row_line dots)
ended buffer dots used k end fits at e =
    let l = row-length dots in
    let room : used + length dots < length buffer = rw at at fits in
    let all = paste_all buffer used (row_line dots) (length dots + 1) (sym l) in
    let fit : used + length (row_line dots) ≤ length buffer = omega arith in
    rw (e, at, stored buffer dots used (length dots) 0xA room (omega arith) (sym (row_end dots)), all, le-leb _ _ fit, l) refl

-- what a loop that writes a row needs
pub ruleset row_steps = (row-length, row_dot, stored, ended)
