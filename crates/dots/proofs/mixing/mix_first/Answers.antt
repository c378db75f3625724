use Rattle.std.proofs.Common.{rules}
use Rattle.dots.specs.MixedBytes.{first_byte}
use Rattle.dots.proofs.Tables.{is_table}
use Rattle.dots.proofs.mixing.mix_first.Goals as goal

pub returns-in-One : goal.returns-in-One
unfolding first_byte
returns-in-One c = is_table _ _ _ c.mix_with.auto.line (λ k h. let e = c.mix_with.ensures k h in search rules)

pub returns-in-Two : goal.returns-in-Two
unfolding first_byte
returns-in-Two c = is_table _ _ _ c.mix_with-in-Two.auto.line (λ k h. let e = c.mix_with-in-Two.ensures k h in search rules)

pub returns-in-Four : goal.returns-in-Four
unfolding first_byte
returns-in-Four c = is_table _ _ _ c.mix_with-in-Four.auto.line (λ k h. let e = c.mix_with-in-Four.ensures k h in search rules)
