use Rattle.std.proofs.Common.{arith}
use Rattle.model.proofs.Strides.{back}
use Rattle.model.proofs.memory.fitting.Goals as goal

pub returns : goal.returns
returns c = back {step = c.wrapping_neg.result} (omega arith) (omega arith) (omega arith) c.in_room-2.ensures
