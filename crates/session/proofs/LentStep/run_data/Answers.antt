use Rattle.std.proofs.Common.{◌+◌, List, ℕ, map, get_or, ap, arith, drop_of_length-le}
use Rattle.std.proofs.lemmas.List.{take_rest}
use Rattle.model.specs.Calls.{write}
use Rattle.session.specs.Carrying.{live}
use Rattle.session.proofs.Calls.{one_call, data_more, run_first, run_in_data, no_calls}
use Rattle.session.proofs.LentStep.run_data.Goals as goal

pub overflow_step-i : goal.overflow_step-i
overflow_step-i g c = omega (arith, run_in_data c.args.payload.now _ (rw take_rest at c.write_run_in_place-length.ensures))

pub loop-i-preserved : goal.loop-i-preserved
loop-i-preserved g c =
    let a = c.args in
    let l = c.loop-i in
    let now = live l.self in
    let one = one_call a.«record» (l.i + 1) now (write (get_or a.payload.now l.i 0)) c.data_write_in_place-answer.ensures c.print_answer.ensures in
    λ u rest. l.invariant u (data_more a.«record» l.i a.payload.now now c.loop-i-test.true one rest)

pub returns : goal.returns
returns g c =
    let a = c.args in
    let l = c.loop-i in
    let left = live l.self in
    run_first a.«record» a.payload.now (live a.self.now) {u = left} (rw take_rest at c.write_run_in_place-length.ensures)
    (l.invariant left (no_calls _ _ _ _ (ap (λ (bs : List ℕ). map write bs) (drop_of_length-le _ c.loop-i-test.false))))
