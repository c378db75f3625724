use Rattle.std.proofs.Common.{◌≡◌, ℕ, ◌*◌, ◌≤◌, List, length, sym, ap, ◌∙◌, arith, length-take-le}
use Rattle.std.proofs.Math.Seq.{length_front}
use Rattle.registers.specs.declared.Registers.{Registers}
use Rattle.registers.specs.Counts.{⁅◌⁆}
use Rattle.row.specs.Dots.{width, per_column}
use Rattle.row.specs.Stages.{Composable}
use Rattle.row.proofs.Columns.{columns_fit, scroll_fits, columns_shown, columns_in_row}
use Rattle.row.proofs.Dots.{expanded}
use Rattle.row.proofs.scene.Scene.draw.Goals as goal

-- the row has room for the line
room : (r : Registers) → Composable r → {count : ℕ} (out : List ℕ) → count ≡ ⁅ r.system.cr ⁆ → length out ≡ width r → count ≤ length out
room r h out e w = omega (arith, columns_in_row r h)

pub slice_bounds-mix_layers-end : goal.slice_bounds-mix_layers-end
slice_bounds-mix_layers-end c =
    let s = c.args.self.now in
    room s.registers s.composable c.args.out.now c.columns-count.ensures.0 c.requires

pub slice_bounds-mix_layers-end-2 : goal.slice_bounds-mix_layers-end-2
slice_bounds-mix_layers-end-2 c =
    let s = c.args.self.now in
    sym (length-take-le _ c.args.out.now (room s.registers s.composable c.args.out.now c.columns-count.ensures.0 c.requires))

pub mix_layers-requires-clause-scratch : goal.mix_layers-requires-clause-scratch
mix_layers-requires-clause-scratch c =
    let s = c.args.self.now in
    length-take-le _ c.args.out.now (room s.registers s.composable c.args.out.now c.columns-count.ensures.0 c.requires) ∙ c.columns-count.ensures.0

pub expand_scrolled-requires : goal.expand_scrolled-requires
unfolding width
expand_scrolled-requires c =
    let s = c.args.self.now in
    let r = s.registers in
    let count = c.columns-count.ensures.0 in
    let shown = c.shown_columns-shown.ensures.0 in
    let scroll = scroll_fits r s.composable in
    let line : length c.mix_layers.new.line ≡ c.columns-count.result = c.mix_layers.auto.line ∙ length-take-le c.columns-count.result _ c.columns-count.ensures.1 in
    rw (c.dots_per_column-per.ensures.0, c.depth.ensures, c.from.ensures) (
      (columns_fit r s.composable).1,
      scroll.0,
      scroll.1,
      omega (arith, shown, columns_shown r.hdot r.system.cr, line, count),
      length_front c.args.out.now c.mix_layers.new.scratch c.columns-count.result c.mix_layers.auto.scratch
          ∙ c.requires
          ∙ ap (λ (x : ℕ). x * per_column r) (sym shown),
    )

pub returns : goal.returns
returns c =
    let s = c.args.self.now in
    expanded s.registers s.memory.now s.font.now s.frame c.args.n c.mix_layers.new.line s.composable c.shown_columns-shown.ensures.0 c.mix_layers.ensures
    (rw (c.dots_per_column-per.ensures.0, c.depth.ensures, c.from.ensures) at c.expand_scrolled.ensures.out_after)
