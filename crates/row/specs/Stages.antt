-- What the stages of a row leave, whole bytes at a time. Laws in proofs/ give their dots.
use Rattle.std.specs.Prelude.{◌≡◌, ℕ, ◌+◌, ◌*◌, ◌%◌, ◌<◌, ◌≤◌, true, List, [], ◌∷◌, ◌≢◌, bit_xor, slice_index, Option}
use Rattle.registers.specs.declared.Registers.{Registers}
use Rattle.choice.specs.Choice.{when◌then◌else◌, ◌<?◌}
use Rattle.registers.specs.Counts.{⁅◌⁆}
use Rattle.row.specs.declared.BlockRow.{BlockRow}
use Rattle.dots.specs.Bytes.{bits_per_dot, dot_of}
use Rattle.row.specs.Cursor.{has_cursor}
use Rattle.row.specs.Dots.{per_column, column_dot}

-- the address of row q of a block, or of its text line q
abbrev pub line_address : ℕ → ℕ → ℕ → ℕ
line_address start pitch q = (start + q * pitch) % 65536

-- a byte whose first n bits are set
unfoldable pub first_bits : ℕ → ℕ
first_bits n = when n <? 8 then slice_index (0 ∷ 128 ∷ 192 ∷ 224 ∷ 240 ∷ 248 ∷ 252 ∷ 254 ∷ []) n else 255

-- a byte of layer 1 with the cursor's bits inverted
unfoldable pub cursor_byte : Registers → ℕ → Option BlockRow → ℕ → ℕ → ℕ
cursor_byte r frame layer c byte = when has_cursor r frame layer c then bit_xor byte (first_bits ⁅ r.form.crx ⁆) else byte

-- the dots of a line of bytes are those of the columns of row n
abbrev pub ColumnDots : Registers → List ℕ → List ℕ → ℕ → ℕ → List ℕ → Type 0
ColumnDots r memory font frame n line =
    (c j : ℕ) → c < ⁅ r.system.cr ⁆ → j < per_column r → dot_of (bits_per_dot r.grey) (slice_index line c) j ≡ column_dot r memory font frame n c j

-- what the refusals of a row leave, as far as a stage needs it: at most 8 dots a column, grey with DM = 11 alone, and scrolling at one bit a dot by less
-- than a column, with two columns or more
pub record Composable (r : Registers) : Type 0 where
  pub code : r.grey < 3
  pub narrow : ⁅ r.system.fx ⁆ ≤ 8
  pub graphics : (r.grey ≢ 0) → (r.overlay.dm1 ≡ true) × (r.overlay.dm2 ≡ true)
  pub scrolls : (r.hdot ≢ 0) → (r.grey ≡ 0) × (r.hdot < ⁅ r.system.fx ⁆) × (1 < ⁅ r.system.cr ⁆)
