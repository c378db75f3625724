use Rattle.std.proofs.Common.{arith}
use Rattle.dots.proofs.Tables.{is_table}
use Rattle.dots.proofs.expanding.spread.Goals as goal

pub returns : goal.returns
returns g c = is_table _ _ _ c.loop-j.auto.out (λ k h. c.loop-j.invariant k (omega arith))
