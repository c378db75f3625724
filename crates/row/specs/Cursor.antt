-- Reference, 'The cursor in a row'; 01, 'Blocks and layers of a row': the cursor.
use Rattle.std.specs.Prelude.{ℕ, ◌-◌, ◌%◌, Bool, false, not, ◌&&◌, Option, Some, None}
use Rattle.registers.specs.declared.CursorForm.{CursorForm}
use Rattle.registers.specs.declared.Registers.{Registers}
use Rattle.choice.specs.Choice.{when◌then◌else◌, ◌<?◌, ◌=?◌}
use Rattle.registers.specs.Counts.{⁅◌⁆}
use Rattle.row.specs.Layers.{is_text, three_layers}
use Rattle.row.specs.Glyphs.{code_address}
use Rattle.row.specs.Flashing.{cursor_on}
use Rattle.row.specs.declared.BlockRow.{BlockRow}

-- on glyph row [CRY] - 1, or with CM = 1 on all rows below [CRY]
unfoldable pub in_shape : CursorForm → ℕ → Bool
in_shape f row = when f.cm then row <? ⁅ f.cry ⁆ else row =? ⁅ f.cry ⁆ - 1

-- with two layers only, in text, on the glyph rows of its shape
abbrev pub shows_cursor : Registers → ℕ → BlockRow → Bool
shows_cursor r frame b =
    not (three_layers r.system.ws r.overlay) && is_text r.overlay b.block && cursor_on r.display.fc frame && in_shape r.form (b.row % ⁅ r.system.fy ⁆)

-- in layer 1, in each cell whose code address equals the cursor
unfoldable pub has_cursor : Registers → ℕ → Option BlockRow → ℕ → Bool
has_cursor r frame None c = false
has_cursor r frame (Some b) c = shows_cursor r frame b && code_address r b c % 65536 =? r.cursor.address

-- the first [CRX] dots are inverted
unfoldable pub inverted : Bool → ℕ → ℕ → ℕ → ℕ
inverted here crx j dot = when here && j <? crx then 1 - dot else dot
