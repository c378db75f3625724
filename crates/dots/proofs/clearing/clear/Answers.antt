use Rattle.std.proofs.Common.{refl, arith}
use Rattle.dots.proofs.InPlace.{none_replaced, one_more, all_replaced}
use Rattle.dots.proofs.clearing.clear.Goals as goal

pub loop-byte-init : goal.loop-byte-init
loop-byte-init c = none_replaced _ _

pub loop-byte-preserved : goal.loop-byte-preserved
loop-byte-preserved c = one_more _ _ _ _ _ c.loop-byte.invariant (omega arith) refl

pub returns : goal.returns
returns c = all_replaced _ _ _ _ c.loop-byte.invariant (omega arith)
