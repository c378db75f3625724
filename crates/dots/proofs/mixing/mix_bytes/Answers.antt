use Rattle.std.proofs.Common.{rules}
use Rattle.dots.specs.MixedBytes.{mix_byte}
use Rattle.dots.proofs.Tables.{is_table}
use Rattle.dots.proofs.mixing.mix_bytes.Goals as goal

pub returns-in-Or : goal.returns-in-Or
unfolding mix_byte
returns-in-Or c = is_table _ _ _ c.mix_with.auto.line (λ k h. let e = c.mix_with.ensures k h in search rules)

pub returns-in-Xor : goal.returns-in-Xor
unfolding mix_byte
returns-in-Xor c = is_table _ _ _ c.mix_with-in-Xor.auto.line (λ k h. let e = c.mix_with-in-Xor.ensures k h in search rules)

pub returns-in-And : goal.returns-in-And
unfolding mix_byte
returns-in-And c = is_table _ _ _ c.mix_with-in-And.auto.line (λ k h. let e = c.mix_with-in-And.ensures k h in search rules)
