use Rattle.std.proofs.Common.{◌≡◌, length, take, zero-add, arith, length-take-le}
use Rattle.model.proofs.Strides.{adjacent, put_back}
use Rattle.model.proofs.memory.store_adjacent.Goals as goal

pub returns : goal.returns
returns c =
    let a = c.args in
    let n = c.min-n.result in
    let size : length (take n a.bytes.now) ≡ n = length-take-le _ _ (omega arith) in
    rw (c.copy_from_slice.ensures.after, c.from-at.ensures, put_back a.memory.now (take n a.bytes.now) a.address n size (omega arith))
    (rw zero-add at (adjacent 0 a.address n a.memory.now a.bytes.now (omega arith) (omega (arith, c.from-at.ensures, c.min-n.ensures))))
