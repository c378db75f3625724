-- Reference, 'Codes and counts'; 01, 'What the model is': a stored code n stands for the count [n] = n + 1.
use Rattle.std.specs.Prelude.{ℕ, ◌+◌}
use Rattle.registers.specs.declared.Code.{Code}
use Rattle.registers.specs.declared.Count.{Count}

abbrev pub code_of : ℕ → Code
code_of n = record { 0 = n }

-- [n]
abbrev pub count : Code → Count
count n = record { 0 = n.0 + 1 }

-- [n] as a number
abbrev pub ⁅◌⁆ : Code → ℕ
⁅ n ⁆ = (count n).0
