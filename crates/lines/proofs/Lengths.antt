-- How long lines are.
use Rattle.std.proofs.Common.{ℕ, ◌+◌, ◌*◌, ◌^◌, ◌<◌, ◌≤◌, List, [], ◌∷◌, ◌++◌, length, ◌≡◌, arith, length-append}
use Rattle.std.proofs.lemmas.List.{length-map}
use Rattle.lines.specs.Lines.{decimal, row_line, longest_line}
use Rattle.lines.proofs.Digits.{number_length}
use Rattle.lines.specs.Pieces.{with_numbers}

-- numbers of 64 bits
abbrev pub Small : List ℕ → Type 0
Small [] = Unit {0}
Small (n ∷ ns) = (n < 2 ^ 64) × Small ns

numbers-length : (text ns : List ℕ) → Small ns → length (with_numbers text ns) ≤ length text + 21 * length ns
numbers-length text [] h = omega arith
numbers-length text (n ∷ ns) h =
    omega (arith, numbers-length (text ++ decimal n) ns h.1, length-append text (decimal n), number_length n h.0)

pub row-length : (dots : List ℕ) → length (row_line dots) ≡ length dots + 1
unfolding row_line
row-length dots = rw (length-append, length-map)

-- a line with its name, at most four numbers and an end is no longer than the longest
pub line-length : (name ns end : List ℕ) → Small ns → (length name ≤ 7) × (length ns ≤ 4) × (length end ≤ 4) → length (with_numbers name ns ++ end) ≤ longest_line
line-length name ns end small short =
    omega (arith, numbers-length name ns small, length-append (with_numbers name ns) end, short.0, short.1, short.2)
