-- Reference, 'Rows', 'Width' and 'Scrolling'; 01, 'Blocks and layers of a row', and request #101: the dots of a row.
use Rattle.std.specs.Prelude.{ℕ, ◌+◌, ◌-◌, ◌*◌, ◌/◌, ◌%◌, Bool, not, ◌&&◌, List, Option, Some, None}
use Rattle.registers.specs.declared.Code.{Code}
use Rattle.registers.specs.declared.Registers.{Registers}
use Rattle.choice.specs.Choice.{when◌then◌else◌, ◌=?◌}
use Rattle.registers.specs.Counts.{⁅◌⁆}
use Rattle.dots.specs.Tables.{table}
use Rattle.dots.specs.Mixing.{mix}
use Rattle.dots.specs.Bytes.{bits_per_dot, dot_of}
use Rattle.row.specs.Layers.{layer1, layer2, layer3}
use Rattle.row.specs.Glyphs.{block_byte}
use Rattle.row.specs.Flashing.{is_lit}
use Rattle.row.specs.Cursor.{has_cursor, inverted}
use Rattle.row.specs.declared.BlockRow.{BlockRow}

-- the dots of a column: [FX], in grey 8 / bits a dot
unfoldable pub dots_per_column : ℕ → Code → ℕ
dots_per_column grey fx = when grey =? 0 then ⁅ fx ⁆ else 8 / bits_per_dot grey

abbrev pub per_column : Registers → ℕ
per_column r = dots_per_column r.grey r.system.fx

-- #101: how many columns wide a row is
unfoldable pub shown_columns : ℕ → Code → ℕ
shown_columns hdot cr = when hdot =? 0 then ⁅ cr ⁆ else ⁅ cr ⁆ - 1

-- Width: [C/R] x [FX] dots, in grey [C/R] x 8 / bits a dot; #101: scrolled, ([C/R] - 1) x [FX] (in grey such a row is refused)
unfoldable pub width : Registers → ℕ
width r = shown_columns r.hdot r.system.cr * per_column r

-- a layer's byte at column c; a dark block's is 0
unfoldable pub layer_byte : Registers → List ℕ → List ℕ → ℕ → Option BlockRow → ℕ → ℕ
layer_byte r memory font frame None c = 0
layer_byte r memory font frame (Some b) c = when is_lit r.display.fp b.block frame then block_byte r memory font b c else 0

-- dot j of column c of row n, with the cursor in layer 1
unfoldable pub column_dot : Registers → List ℕ → List ℕ → ℕ → ℕ → ℕ → ℕ → ℕ
column_dot r memory font frame n c j =
    let layer_dot : Option BlockRow → ℕ = λ layer. dot_of (bits_per_dot r.grey) (layer_byte r memory font frame layer c) j in
    mix r.overlay.mx
    (inverted (has_cursor r frame (layer1 r n) c) ⁅ r.form.crx ⁆ j (layer_dot (layer1 r n)))
    (layer_dot (layer2 r n))
    (layer_dot (layer3 r n))

-- dot x of row n as 01 composes it without scrolling, with the display on
unfoldable pub composed_dot : Registers → List ℕ → List ℕ → ℕ → ℕ → ℕ → ℕ
composed_dot r memory font frame n x = column_dot r memory font frame n (x / per_column r) (x % per_column r)

-- whether the display shows dots: D = 1, and awake
abbrev pub is_shown : Bool → Bool → Bool
is_shown on asleep = on && not asleep

-- with D = 0 or asleep, all dots are 0
unfoldable pub unscrolled_dot : Registers → List ℕ → List ℕ → ℕ → ℕ → ℕ → ℕ
unscrolled_dot r memory font frame n x = when is_shown r.display.on r.asleep then composed_dot r memory font frame n x else 0

-- #101: scrolled by HDOT SCR's value, dot x is dot x + HDOT SCR of that row
unfoldable pub dot : Registers → List ℕ → List ℕ → ℕ → ℕ → ℕ → ℕ
dot r memory font frame n x = unscrolled_dot r memory font frame n (x + r.hdot)

unfoldable pub dots : Registers → List ℕ → List ℕ → ℕ → ℕ → List ℕ
dots r memory font frame n = table (width r) (dot r memory font frame n)
