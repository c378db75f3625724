-- The rows above this one are printed.
use Rattle.std.proofs.Common.{ℕ, [], length}
use Rattle.row.specs.Rows.{RowAnswer}
use Rattle.session.specs.Records.{state, row_of, row_lines}
use Rattle.session.specs.Carrying.{live, CarriesOut}
use Rattle.session.proofs.LentStep.show_rows.Given as goal

abbrev pub invariant-loop-n : goal.invariant-loop-n
invariant-loop-n g l =
    let s = l.initial.self in
    let answers : ℕ → RowAnswer = row_of (state s).machine s.font.now l.frame.number (length l.initial.row) in
    CarriesOut [] (row_lines answers 0 l.n) (live s) (live l.self)
