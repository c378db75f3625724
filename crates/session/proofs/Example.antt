-- 01's worked example, computed: the whole output of ten records with a font of 1,280 zero bytes.
use Rattle.std.proofs.Common.{◌≡◌, ℕ, List, [], ◌∷◌, ◌++◌, replicate, refl}
use mathlib.Core.List.{flatten}
use Rattle.registers.specs.Commands.{command_of}
use Rattle.registers.specs.Cursor.{next_address}
use Rattle.registers.specs.Layout.{field, in_layout}
use Rattle.registers.specs.Parameters.{begin, store, store_system, store_display, store_blocks, store_form, store_overlay, direction_of, with_low, with_high, allowed, system_allows, form_allows}
use Rattle.registers.specs.Sizes.{font_size}
use Rattle.dots.specs.Tables.{table}
use Rattle.dots.specs.Mixing.{first_of, mix}
use Rattle.dots.specs.Bytes.{dot_of}
use Rattle.row.specs.Cursor.{has_cursor, inverted}
use Rattle.row.specs.Dots.{dots_per_column, shown_columns, width, layer_byte, column_dot, composed_dot, unscrolled_dot, dot, dots}
use Rattle.row.specs.Flashing.{is_on, flashing, is_lit}
use Rattle.row.specs.Glyphs.{fetch, block_byte}
use Rattle.row.specs.Layers.{is_text, sad, three_layers, split, halves, layer1, layer2, layer3}
use Rattle.row.specs.Refusals.{grey_mode, smooth_scroll, odd_lines, layer_order, cursor_shape, row_refusal}
use Rattle.row.specs.Rows.{row_answer}
use Rattle.model.specs.Bus.{ignored, display_off, take_command, command_write, served, write_memory, write_parameter, write_data, data_write}
use Rattle.busfile.specs.Records.{word_of, double_word_of, shape_of, record_at}
use Rattle.lines.specs.Lines.{ascii, digit, decimal_below, decimal, row_line}
use Rattle.session.specs.File.{following}
use Rattle.session.specs.Program.{program_lines}

abbrev file : List ℕ
file =
    (9 ∷ 0 ∷ 1 ∷ 0 ∷ 0x40 ∷ 0x10 ∷ 0x07 ∷ 0x07 ∷ 0x00 ∷ 0x04 ∷ 0x01 ∷ 0x01 ∷ 0x00 ∷ [])
    ++ (7 ∷ 0 ∷ 1 ∷ 0 ∷ 0x44 ∷ 0x00 ∷ 0x00 ∷ 0x01 ∷ 0x10 ∷ 0x00 ∷ 0x01 ∷ [])
    ++ (2 ∷ 0 ∷ 1 ∷ 0 ∷ 0x5B ∷ 0x0D ∷ [])
    ++ (2 ∷ 0 ∷ 1 ∷ 0 ∷ 0x59 ∷ 0x14 ∷ [])
    ++ (3 ∷ 0 ∷ 1 ∷ 0 ∷ 0x46 ∷ 0x00 ∷ 0x00 ∷ [])
    ++ (3 ∷ 0 ∷ 1 ∷ 0 ∷ 0x42 ∷ 0xA5 ∷ 0x3C ∷ [])
    ++ (3 ∷ 0 ∷ 1 ∷ 0 ∷ 0x46 ∷ 0x10 ∷ 0x00 ∷ [])
    ++ (2 ∷ 0 ∷ 1 ∷ 0 ∷ 0x42 ∷ 0xFF ∷ [])
    ++ (4 ∷ 0 ∷ 3 ∷ 0 ∷ 0 ∷ 0 ∷ 0 ∷ 0 ∷ [])
    ++ (1 ∷ 0 ∷ 1 ∷ 0 ∷ 0xFF ∷ [])

worked_example : flatten (program_lines (replicate font_size 0) file) ≡ ascii "frame 9 0 8 2\n01011010\n00111100\nrefused 10 1 2\nend 10\n"
unfolding flatten command_of next_address field in_layout begin store store_system store_display store_blocks store_form store_overlay direction_of with_low with_high allowed system_allows form_allows has_cursor inverted dots_per_column shown_columns width dot_of layer_byte column_dot composed_dot unscrolled_dot dot table dots is_on flashing is_lit fetch block_byte is_text sad three_layers split halves layer1 layer2 layer3 first_of mix grey_mode smooth_scroll odd_lines layer_order cursor_shape row_refusal row_answer ignored display_off take_command command_write served write_memory write_parameter write_data data_write word_of double_word_of shape_of record_at digit decimal_below decimal row_line following
worked_example = refl
