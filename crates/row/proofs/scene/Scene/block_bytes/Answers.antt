use Rattle.std.proofs.Common.{sym, ◌∙◌}
use Rattle.row.proofs.BlockBytes.{text_bytes, graphics_bytes}
use Rattle.row.proofs.scene.Scene.block_bytes.Goals as goal

pub returns-then-is_text : goal.returns-then-is_text
returns-then-is_text c =
    let s = c.args.self.now in
    let height = c.count-height.ensures in
    text_bytes s.registers s.memory.now s.font.now _ _ (sym c.is_text.ensures ∙ c.if-is_text.true)
    (rw (c.line_address.ensures, c.sad-start.ensures, height)) (rw height) c.memory_bytes.ensures c.glyph_bytes.ensures

pub returns-else-is_text : goal.returns-else-is_text
returns-else-is_text c =
    let s = c.args.self.now in
    graphics_bytes s.registers s.memory.now s.font.now _ _ (sym c.is_text.ensures ∙ c.if-is_text.false)
    (rw (c.line_address-else-is_text.ensures, c.sad-start.ensures)) c.memory_bytes-else-is_text.ensures
