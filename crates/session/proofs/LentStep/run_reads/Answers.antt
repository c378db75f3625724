use Rattle.std.proofs.Common.{◌≡◌, ℕ, ◌+◌, ◌-◌, replicate, ap, arith}
use Rattle.model.specs.Calls.{read}
use Rattle.session.proofs.Calls.{read_more, no_calls}
use Rattle.session.proofs.LentStep.run_reads.Goals as goal

pub loop-i-preserved : goal.loop-i-preserved
loop-i-preserved g c = λ u rest. c.loop-i.invariant u (read_more _ _ _ _ c.loop-i-test.true (rw c.into.ensures at c.run_read.ensures) rest)

pub returns : goal.returns
returns g c =
    let none : c.args.count + 1 - c.loop-i.i ≡ 0 = omega arith in
    c.loop-i.invariant _ (no_calls _ _ _ _ (ap (λ (n : ℕ). replicate n read) none))

pub returns-2 : goal.returns-2
returns-2 g c =
    let none : c.args.count + 1 - (c.loop-i.i + 1) ≡ 0 = omega arith in
    c.loop-i.invariant _ (read_more _ _ _ _ c.loop-i-test.true (rw c.into.ensures at c.run_read.ensures) (no_calls _ _ _ _ (ap (λ (n : ℕ). replicate n read) none)))
