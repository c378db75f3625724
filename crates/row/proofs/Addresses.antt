-- Addresses modulo 65,536, and what is fetched there.
use Rattle.std.proofs.Common.{◌≡◌, ℕ, ◌+◌, ◌%◌, ◌<◌, ◌≤◌, List, length, get_or, take, drop, sym, ap, ◌∙◌, mod-eq_of_lt, arith, length-drop, length-take-le, get_or-drop, get_or-take}
use Rattle.dots.specs.Tables.{table}
use Rattle.dots.proofs.Tables.{is_table}
use Rattle.row.specs.Glyphs.{fetch}

-- addresses that are equal modulo 65,536 fetch the same byte
pub fetch_at : (memory : List ℕ) (a b : ℕ) → a % 65536 ≡ b % 65536 → fetch memory a ≡ fetch memory b
unfolding fetch
fetch_at memory a b e = ap (λ (x : ℕ). get_or memory x 0) e

pub fetch_mod : (memory : List ℕ) (a : ℕ) → fetch memory (a % 65536) ≡ fetch memory a
fetch_mod memory a = fetch_at memory (a % 65536) a (omega arith)

-- bytes copied from a part of memory
pub bytes_copied : (memory line src : List ℕ) (at : ℕ) → at + length line ≤ length memory → length memory ≤ 65536 → src ≡ take (length line) (drop at memory)
    → src ≡ table (length line) (λ c. fetch memory (at + c))
unfolding fetch
bytes_copied memory line src at room small e =
    is_table (length line) _ src len (λ k lt.
    ap (λ (l : List ℕ). get_or l k 0) e ∙ get_or-take (length line) (drop at memory) k 0 lt ∙ get_or-drop at memory k 0
    ∙ ap (λ (x : ℕ). get_or memory x 0) (sym (mod-eq_of_lt (below k lt))))
  where
    below : (k : ℕ) → k < length line → at + k < 65536
    below k lt = omega arith

    len : length src ≡ length line
    len = ap (λ (l : List ℕ). length l) e ∙ length-take-le (length line) (drop at memory) (rw length-drop (omega arith))
