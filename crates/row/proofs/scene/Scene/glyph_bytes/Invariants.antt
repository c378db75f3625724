use Rattle.std.proofs.Common.{get_or}
use Rattle.dots.proofs.InPlace.{Replaced}
use Rattle.row.specs.Glyphs.{glyph_byte}
use Rattle.row.proofs.scene.Scene.glyph_bytes.Given as goal

abbrev pub invariant-loop-byte : goal.invariant-loop-byte
invariant-loop-byte l =
    Replaced (λ x. glyph_byte l.self.registers l.self.memory.now l.self.font.now (get_or l.initial.line x 0) l.row) l.initial.line l.line l.byte-index
