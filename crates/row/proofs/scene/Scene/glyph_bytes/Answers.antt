use Rattle.std.proofs.Common.{ℕ, ap, ◌∙◌, arith}
use Rattle.dots.proofs.InPlace.{none_replaced, one_more, all_replaced}
use Rattle.row.specs.Glyphs.{glyph_byte}
use Rattle.row.proofs.scene.Scene.glyph_bytes.Goals as goal

pub loop-byte-init : goal.loop-byte-init
loop-byte-init c = none_replaced _ _

pub loop-byte-preserved : goal.loop-byte-preserved
loop-byte-preserved c =
    let s = c.args.self.now in
    one_more _ _ _ _ _ c.loop-byte.invariant (omega arith)
    (c.glyph_byte.ensures
    ∙ ap (λ (x : ℕ). glyph_byte s.registers s.memory.now s.font.now x c.args.row) (c.loop-byte.invariant.rest c.loop-byte.byte-index (omega arith)))

pub returns : goal.returns
returns c = all_replaced _ _ _ _ c.loop-byte.invariant (omega arith)
