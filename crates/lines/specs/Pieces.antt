-- What the code puts a line together from. No line's definition cites it.
use Rattle.std.specs.Prelude.{ℕ, List, [], ◌∷◌, ◌++◌}
use Rattle.lines.specs.Lines.{decimal}

-- a text with numbers behind it
abbrev pub with_numbers : List ℕ → List ℕ → List ℕ
with_numbers text [] = text
with_numbers text (n ∷ ns) = with_numbers (text ++ decimal n) ns
