use Rattle.std.proofs.Common.{ℕ, ◌<◌, length, ap, zero-add, add-one}
use Rattle.row.specs.Rows.{RowAnswer, frame_size}
use Rattle.session.specs.Records.{State, state, row_of}
use Rattle.session.specs.Carrying.{Kept}
use Rattle.session.proofs.Calls.{lines_both}
use Rattle.session.proofs.FrameLines.{rows_more, row_printed, leaves_dots}
use Rattle.session.proofs.LentStep.show_rows.Goals as goal

pub loop-n-preserved : goal.loop-n-preserved
loop-n-preserved g c =
    let a = c.args in
    let l = c.loop-n in
    let s = a.self.now in
    let m = (state s).machine in
    let size = length a.row.now in
    let answers : ℕ → RowAnswer = row_of m s.font.now a.frame.number size in
    let still = ap (λ (x : State). x.machine) l.invariant.state in
    let font = ap (λ (x : Kept). x.lent.font) l.invariant.same in
    let below : l.n < (frame_size s.step.session.controller.registers).rows.0 = rw c.requires.rows_value at c.loop-n-test.true in
    let drawn = leaves_dots m s.font.now a.frame.number l.n size l.row c.row.result c.requires.row_value below l.auto.row still font (rw c.into.ensures at c.row.ensures) in
    rw (add-one, rows_more answers 0 l.n, zero-add) (lines_both _ _ l.invariant (row_printed answers l.n drawn c.print_row.ensures))
