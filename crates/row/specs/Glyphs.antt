-- Reference, 'Glyphs'; 01, 'Blocks and layers of a row': what a block's bytes are fetched from.
use Rattle.std.specs.Prelude.{ℕ, ◌+◌, ◌-◌, ◌*◌, ◌/◌, ◌%◌, Bool, ◌||◌, List, slice_index}
use Rattle.registers.specs.declared.Registers.{Registers}
use Rattle.choice.specs.Choice.{when◌then◌else◌, ◌<?◌}
use Rattle.registers.specs.Counts.{⁅◌⁆}
use Rattle.row.specs.Layers.{is_text, sad}
use Rattle.row.specs.declared.BlockRow.{BlockRow}
use Rattle.row.specs.declared.Glyph.{Glyph}
use Rattle.row.specs.declared.Glyph.TheVariants.{Empty, Font, CgRam}

-- All sums are modulo 65,536. A fetch at 8000h or above, past the end of memory, gives 0.
unfoldable pub fetch : List ℕ → ℕ → ℕ
fetch memory address = slice_index memory (address % 65536)

-- with M0 = 0, codes 20-7F and A0-DF come from the font, 80-9F and E0-FF from CG RAM, 00-1F are blank; with M0 = 1 all are
-- CG RAM
unfoldable pub glyph_of : Bool → ℕ → Glyph
glyph_of m0 code =
    when m0 then CgRam
    else when code <? 0x20 then Empty
    else when code <? 0x80 then Font (code - 0x20)
    else when code <? 0xA0 then CgRam
    else when code <? 0xE0 then Font (code - 0x40)
    else CgRam

-- eight bytes each, top first; font rows from 8 on are blank
abbrev pub font_index : ℕ → ℕ → ℕ
font_index index row = index * 8 + row

unfoldable pub font_byte : List ℕ → ℕ → ℕ → ℕ
font_byte font index row = when row <? 8 then slice_index font (font_index index row) else 0

-- CGRAM ADR + code x 8 + glyph row, or code x 16 with M2 = 1; rows from 8 on are blank with M2 = 0
abbrev pub cg_ram_address : Bool → ℕ → ℕ → ℕ → ℕ
cg_ram_address m2 cgram code row = cgram + code * (when m2 then 16 else 8) + row

unfoldable pub cg_ram_byte : Bool → ℕ → List ℕ → ℕ → ℕ → ℕ
cg_ram_byte m2 cgram memory code row = when m2 || row <? 8 then fetch memory (cg_ram_address m2 cgram code row) else 0

unfoldable pub glyph_row : Registers → List ℕ → List ℕ → Glyph → ℕ → ℕ → ℕ
glyph_row r memory font Empty code row = 0
glyph_row r memory font (Font index) code row = font_byte font index row
glyph_row r memory font CgRam code row = cg_ram_byte r.system.m2 r.cgram memory code row

unfoldable pub glyph_byte : Registers → List ℕ → List ℕ → ℕ → ℕ → ℕ
glyph_byte r memory font code row = glyph_row r memory font (glyph_of r.system.m0 code) code row

-- text has its code at SAD + (q div [FY]) x AP + c
unfoldable pub code_address : Registers → BlockRow → ℕ → ℕ
code_address r b c = sad r.blocks b.block + b.row / ⁅ r.system.fy ⁆ * r.system.ap + c

-- graphics reads SAD + q x AP + c; text reads its code, and glyph row q mod [FY]
unfoldable pub block_byte : Registers → List ℕ → List ℕ → BlockRow → ℕ → ℕ
block_byte r memory font b c =
    when is_text r.overlay b.block
    then glyph_byte r memory font (fetch memory (code_address r b c)) (b.row % ⁅ r.system.fy ⁆)
    else fetch memory (sad r.blocks b.block + b.row * r.system.ap + c)
