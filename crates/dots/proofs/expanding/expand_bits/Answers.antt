use Rattle.std.proofs.Common.{ℕ, ◌-◌, ◌*◌, ◌/◌, ◌<◌, length, arith, ap, refl, sym, le_of_eq, ◌∙◌, length-take, get_or-take, mul-zero}
use Rattle.dots.specs.Tables.{table}
use Rattle.dots.specs.Bytes.{dot_of}
use Rattle.dots.specs.Expanded.{expanded_dot}
use Rattle.dots.proofs.Tables.{is_table, column_next, room_for_8, next_length, next_column, all_columns}
use Rattle.dots.proofs.expanding.expand_bits.Goals as goal

pub returns-then-per-eq0 : goal.returns-then-per-eq0
returns-then-per-eq0 c =
    let n = length c.args.line.now in
    is_table _ _ _ c.requires.1 (λ k h. absurd (omega (arith, h, ap (λ (p : ℕ). n * p) c.if-per-eq0.true, mul-zero n)))

pub slice_bounds-copy_from_slice-end : goal.slice_bounds-copy_from_slice-end
slice_bounds-copy_from_slice-end c =
    let l = c.args.line.now in
    let within : c.loop-c.c < length l - 7 / c.args.per =
    omega (arith, c.loop-c-test.true, length-take c.saturating_sub-roomy.result l, c.saturating_sub-roomy.ensures) in
    omega (arith, room_for_8 c.loop-c.c (length l) c.args.per (omega (arith, c.if-per-eq0.false)) within, c.loop-c.invariant.size)

pub loop-c-preserved : goal.loop-c-preserved
loop-c-preserved c =
    let l = c.args.line.now in
    let roomy = c.saturating_sub-roomy.result in
    let within : c.loop-c.c < length l = omega (arith, c.loop-c-test.true, length-take roomy l) in
    let here : c.loop-c.c < roomy = omega (arith, c.loop-c-test.true, length-take roomy l) in
    next_column c.loop-c.invariant _ within refl (omega arith) c.requires.0
    (c.copy_from_slice.ensures.after ∙ c.eight_dots.ensures ∙ ap (λ (b : ℕ). table 8 (dot_of 1 b)) (get_or-take roomy l c.loop-c.c 0 here))

pub loop-c-2-preserved : goal.loop-c-2-preserved
loop-c-2-preserved c =
    let k = c.loop-c-2.invariant in
    let h = c.loop-c-2-test.true in
    next_column k _ h refl (omega arith) (le_of_eq (sym (next_length k _ (sym (column_next c.loop-c-2.c c.args.per)) h))) c.spread.ensures

pub returns : goal.returns
unfolding expanded_dot
returns c = all_columns c.loop-c-2.invariant (omega arith)
