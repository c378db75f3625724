use Rattle.std.proofs.Common.{ℕ, ◌<◌, ◌≤◌, le_trans, div-le_self, mul-le-mul_left, arith, lit≤}
use Rattle.choice.specs.Choice.{◌=?◌}
use Rattle.choice.proofs.Cases.{choose}
use Rattle.registers.specs.declared.Registers.{Registers}
use Rattle.registers.specs.Layout.{in_layout}
use Rattle.dots.specs.Bytes.{bits_per_dot}
use Rattle.row.specs.Dots.{dots_per_column, shown_columns, width}
use Rattle.row.proofs.Columns.{columns_shown}
use Rattle.row.proofs.Accepting.{field_below, grey_code}
use Rattle.row.proofs.rows.frame_size.Goals as goal

-- no column has more than 16 dots, so the widest row has 4,096
column_dots : (grey : ℕ) (registers : Registers) → dots_per_column grey (in_layout registers).system.fx ≤ 16
unfolding dots_per_column in_layout
column_dots grey registers =
    choose (λ (n : ℕ). n ≤ 16) (grey =? 0) _ _
    (λ e. omega (arith, field_below 16 registers.system.fx.0 (omega arith))) (λ e. le_trans (div-le_self 8 (bits_per_dot grey)) (lit≤ tt))

widest : (registers : Registers) → registers.system.cr.0 < 256 → width (in_layout registers) ≤ 4096
unfolding width in_layout
widest registers h =
    let r = in_layout registers in
    omega (arith, columns_shown r.hdot r.system.cr, mul-le-mul_left (shown_columns r.hdot r.system.cr) (column_dots r.grey registers))

pub row_width-requires : goal.row_width-requires
row_width-requires c = rw c.in_layout-r.ensures (grey_code c.args.registers)

pub overflow_cast-result : goal.overflow_cast-result
overflow_cast-result c =
    let wide : width c.in_layout-r.result ≤ 4096 = rw c.in_layout-r.ensures (widest c.args.registers (omega arith)) in
    omega (arith, c.row_width.ensures, wide)
