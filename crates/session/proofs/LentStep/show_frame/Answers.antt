use Rattle.std.proofs.Common.{◌≡◌, ℕ, List, length, Result, Ok, sym, ap, ◌∙◌}
use Rattle.registers.specs.declared.Refusal.{Refusal}
use Rattle.registers.specs.Refusals.{reply}
use Rattle.row.specs.Rows.{composed_outcome, row_outcome}
use Rattle.model.specs.Machine.{Machine}
use Rattle.session.specs.Records.{State, state, row_of, row_lines}
use Rattle.session.specs.Carrying.{Kept, Live, Prints}
use Rattle.session.proofs.FrameLines.{refused_lines, accepted_frame, answered}
use Rattle.session.proofs.LentStep.show_frame.Goals as goal

-- the first row, where it is accepted
first_row : (m : Machine) (font : List ℕ) (frame : ℕ) (out : List ℕ) (a : Result Unit Refusal) {left : List ℕ} → a ≡ Ok tt
    → composed_outcome a left ≡ row_outcome m.controller.registers m.memory font frame 0 out → (row_of m font frame (length out) 0).refusal ≡ 0
first_row m font frame out a told e = sym (answered m font frame 0 out a e) ∙ ap (λ (x : Result Unit Refusal). (reply x).refusal) told

-- the same rows, asked of what is still the same machine and font
module _ {m m' : Machine} {font font' : List ℕ} (still : m' ≡ m) (font_still : font' ≡ font) (frame size : ℕ) where
  accepted_still : (row_of m font frame size 0).refusal ≡ 0 → (row_of m' font' frame size 0).refusal ≡ 0
  accepted_still h = rw (still, font_still) h

  rows_still : (rows : ℕ) {s t : Live} → Prints (row_lines (row_of m' font' frame size) 0 rows) s t → Prints (row_lines (row_of m font frame size) 0 rows) s t
  rows_still rows h = rw (← still, ← font_still) h

pub show_rows-requires-clause-row_value : goal.show_rows-requires-clause-row_value
show_rows-requires-clause-row_value g c =
    let a = c.args in
    let s = a.self.now in
    let printed = c.print_line.ensures in
    accepted_still {m = (state s).machine} {m' = (state c.print_line.new.self).machine}
    (ap (λ (x : State). x.machine) printed.state) (ap (λ (x : Kept). x.lent.font) printed.same) a.frame.number _
    (ap (λ (n : ℕ). (row_of (state s).machine s.font.now a.frame.number n 0).refusal) c.row.auto.out
    ∙ first_row (state s).machine s.font.now a.frame.number a.row.now c.row.result c.in-Ok.is c.row.ensures)

pub returns-in-Err : goal.returns-in-Err
returns-in-Err g c =
    let a = c.args in
    let s = a.self.now in
    let m = (state s).machine in
    rw (← refused_lines a.frame.«record» a.frame.number (length a.row.now) a.frame.rows.0
    (row_of m s.font.now a.frame.number (length a.row.now)) c.row.result c.in-Err.is
    (answered m s.font.now a.frame.number 0 a.row.now c.row.result c.row.ensures))
    c.print_refused.ensures

pub returns-in-Ok : goal.returns-in-Ok
returns-in-Ok g c =
    let a = c.args in
    let s = a.self.now in
    let m = (state s).machine in
    let printed = c.print_line.ensures in
    accepted_frame m s.font.now a.frame.number a.frame.«record» a.frame.rows.0 (length a.row.now) c.row.auto.out
    (first_row m s.font.now a.frame.number a.row.now c.row.result c.in-Ok.is c.row.ensures) printed
    (rows_still {m' = (state c.print_line.new.self).machine} (ap (λ (x : State). x.machine) printed.state) (ap (λ (x : Kept). x.lent.font) printed.same) a.frame.number _ _ c.show_rows.ensures)
