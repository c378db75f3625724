use Rattle.std.proofs.Common.{◌≡◌, drop, ◌∙◌, arith, length-drop, length-take-le}
use Rattle.model.proofs.Strides.{none_stored}
use Rattle.model.proofs.memory.store_strided.Goals as goal

pub returns : goal.returns
returns c =
    let l = c.loop-byte in
    let f = c.fitting-count in
    let a = c.args in
    let e : f.result ≡ l.byte-index = omega (arith, length-take-le f.result a.bytes.now f.ensures.within) in
    rw e
    (none_stored a.stride l.byte-index l.next l.memory (drop l.byte-index a.bytes.now)
    (λ h. let o = rw e at (f.ensures.outside (omega (arith, length-drop l.byte-index a.bytes.now))) in omega arith)
    ∙ l.invariant.0)
