use Rattle.std.proofs.Common.{sym, ◌∙◌, arith}
use Rattle.row.proofs.FontIndex.{font_index_lem}
use Rattle.row.proofs.scene.Scene.glyph_byte.Goals as goal

pub font_byte-requires : goal.font_byte-requires
font_byte-requires c = font_index_lem _ (omega arith) (sym c.glyph_of.ensures ∙ c.in-Font.is)
