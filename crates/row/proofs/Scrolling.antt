-- Request #101: a scrolled row is a part of the row with HDOT SCR 0. It knows no code.
use Rattle.std.proofs.Common.{◌≡◌, ℕ, ◌+◌, ◌<◌, ◌≤◌, Option, Some, None, List, length, get_or, take, drop, sym, refl, ap, ◌∙◌, arith, length-drop, length-take-le, get_or-drop, get_or-take, eq-eqb}
use Rattle.registers.specs.declared.Registers.{Registers}
use Rattle.registers.specs.Layout.{in_layout}
use Rattle.dots.proofs.Tables.{is_table, get_or-table, length_table}
use Rattle.row.specs.Layers.{layer1, layer2, layer3}
use Rattle.row.specs.Glyphs.{glyph_row, glyph_byte, code_address, block_byte}
use Rattle.row.specs.declared.BlockRow.{BlockRow}
use Rattle.row.specs.Cursor.{has_cursor}
use Rattle.row.specs.Dots.{per_column, shown_columns, width, layer_byte, column_dot, composed_dot, unscrolled_dot, dot, dots}
use Rattle.row.specs.Stages.{Composable}
use Rattle.row.specs.Rows.{row_answer}
use Rattle.row.specs.Scrolling.{unscrolled, ScrolledPart}
use Rattle.row.proofs.Columns.{scroll_fits, in_unscrolled}
use Rattle.row.proofs.Accepting.{accepted, grey_code}

-- no byte and no cursor goes by HDOT SCR
module _ (r : Registers) (memory font : List ℕ) (frame : ℕ) where
  same_byte : (layer : Option BlockRow) (c : ℕ) → layer_byte (unscrolled r) memory font frame layer c ≡ layer_byte r memory font frame layer c
  unfolding layer_byte block_byte code_address glyph_byte glyph_row
  same_byte None c = refl
  same_byte (Some b) c = refl

  same-cursor : (layer : Option BlockRow) (c : ℕ) → has_cursor (unscrolled r) frame layer c ≡ has_cursor r frame layer c
  unfolding has_cursor code_address
  same-cursor None c = refl
  same-cursor (Some b) c = refl

  same-dot : (n x : ℕ) → unscrolled_dot (unscrolled r) memory font frame n x ≡ unscrolled_dot r memory font frame n x
  unfolding unscrolled_dot composed_dot column_dot layer1 layer2 layer3
  same-dot n x = simp (same_byte, same-cursor)

  -- the row with HDOT SCR 0 has all the dots
  room : Composable r → width r + r.hdot ≤ width (unscrolled r)
  unfolding width shown_columns
  room h = in_unscrolled r.hdot r.system.cr (per_column r) (scroll_fits r h).0

  part_of : Composable r → (n : ℕ) → dots r memory font frame n ≡ take (width r) (drop r.hdot (dots (unscrolled r) memory font frame n))
  unfolding dots dot
  part_of h n = sym (is_table (width r) _ part size each)
    where
      all : List ℕ
      all = dots (unscrolled r) memory font frame n

      part : List ℕ
      part = take (width r) (drop r.hdot all)

      size : length part ≡ width r
      size = length-take-le (width r) (drop r.hdot all) (simp (length-drop, length_table) (omega (arith, room h)))

      each : (x : ℕ) → x < width r → get_or part x 0 ≡ unscrolled_dot r memory font frame n (x + r.hdot)
      each x l =
          get_or-take (width r) (drop r.hdot all) x 0 l ∙ get_or-drop r.hdot all x 0 ∙ get_or-table (width (unscrolled r)) _ (r.hdot + x) (omega (arith, room h))
          ∙ same-dot n (r.hdot + x + 0) ∙ ap (λ (y : ℕ). unscrolled_dot r memory font frame n y) (omega arith)

pub scrolled_part : ScrolledPart
unfolding row_answer
scrolled_part registers memory font frame n buffer_length e =
    rw (eq-eqb _ 0 e) (part_of (in_layout registers) memory font frame (accepted (in_layout registers) (grey_code registers) _ _ _ _ e).composable n)
