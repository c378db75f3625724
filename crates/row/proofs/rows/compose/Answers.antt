use Rattle.std.proofs.Common.{sym, ◌∙◌}
use Rattle.std.proofs.lemmas.Result.{err_from_is_err_and}
use Rattle.row.proofs.Dots.{row_when}
use Rattle.row.proofs.Accepting.{grey_code, mix_in_layout, accepted, outcome_memory_size, outcome_font_size, outcome_accepted, outcome_refused}
use Rattle.row.proofs.rows.compose.Goals as goal

pub returns-in_default : goal.returns-in_default
returns-in_default c =
    let a = c.args in
    outcome_memory_size a.registers a.memory.now a.font.now a.frame a.n a.out.now c.in_default.ensures.1

pub returns-in_default-try_from : goal.returns-in_default-try_from
returns-in_default-try_from c =
    let a = c.args in
    outcome_font_size a.registers a.memory.now a.font.now a.frame a.n a.out.now c.in-Ok.ensures.1.long c.in_default-try_from.ensures.1

pub check_row-requires : goal.check_row-requires
check_row-requires c = rw c.in_layout-registers.ensures (grey_code c.args.registers)

pub returns-in_err-check_row : goal.returns-in_err-check_row
returns-in_err-check_row c =
    let a = c.args in
    let p = err_from_is_err_and c.from_residual.result c.from_residual.ensures.1 in
    rw (p.1, p.2)
    (outcome_refused a.registers a.memory.now a.font.now a.frame a.n a.out.now c.in_err-check_row.field-0.0 c.in-Ok.ensures.1.long c.in-Ok-try_from.ensures.1.long
    (rw (← c.in_layout-registers.ensures) c.in_err-check_row.ensures.result_value))

pub invariant_of-draw : goal.invariant_of-draw
invariant_of-draw c =
    record {
      composable = (accepted _ (rw c.in_layout-registers.ensures (grey_code c.args.registers)) _ _ _ _ (sym c.in_ok-check_row.ensures.result_value)).composable;
      mixes = rw c.in_layout-registers.ensures (mix_in_layout c.args.registers);
    }

pub draw-requires : goal.draw-requires
draw-requires c =
    (accepted _ (rw c.in_layout-registers.ensures (grey_code c.args.registers)) _ _ _ _ (sym c.in_ok-check_row.ensures.result_value)).whole

pub returns-then-not-is_shown : goal.returns-then-not-is_shown
returns-then-not-is_shown c =
    let a = c.args in
    let r = c.in_layout-registers in
    let accept = sym c.in_ok-check_row.ensures.result_value in
    outcome_accepted a.registers a.memory.now a.font.now a.frame a.n a.out.now c.in-Ok.ensures.1.long c.in-Ok-try_from.ensures.1.long
    (rw (← r.ensures) accept)
    (c.clear.ensures ∙ rw (accepted _ (rw r.ensures (grey_code a.registers)) _ _ _ _ accept).whole
    (row_when r.result a.memory.now a.font.now a.frame a.n (sym c.is_shown.ensures ∙ c.if-not-is_shown.true) ∙ rw r.ensures))

pub returns : goal.returns
returns c =
    let a = c.args in
    let r = c.in_layout-registers in
    let memory = c.in-Ok.ensures.1 in
    let font = c.in-Ok-try_from.ensures.1 in
    outcome_accepted a.registers a.memory.now a.font.now a.frame a.n a.out.now memory.long font.long
    (rw (← r.ensures) (sym c.in_ok-check_row.ensures.result_value))
    (c.draw.ensures ∙ row_when _ _ _ _ _ (sym c.is_shown.ensures ∙ c.if-not-is_shown.false) ∙ rw (r.ensures, memory.same, font.same))
