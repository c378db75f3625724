-- The bytes that are fetched are those that the definition gives a layer. It knows no code.
use Rattle.std.proofs.Common.{◌≡◌, ℕ, ◌+◌, ◌/◌, ◌%◌, true, false, List, length, get_or, ap, ◌∙◌, arith}
use Rattle.registers.specs.declared.Registers.{Registers}
use Rattle.registers.specs.Counts.{⁅◌⁆}
use Rattle.dots.specs.Tables.{table}
use Rattle.dots.proofs.Tables.{length_table, get_or-table, same_table}
use Rattle.row.specs.declared.BlockRow.{BlockRow}
use Rattle.row.specs.Layers.{is_text, sad}
use Rattle.row.specs.Glyphs.{fetch, glyph_byte, code_address, block_byte}
use Rattle.row.specs.Stages.{line_address}
use Rattle.row.proofs.Addresses.{fetch_at}

pub text_bytes : (r : Registers) (memory font : List ℕ) (b : BlockRow) (n : ℕ) {start row : ℕ} {codes glyphs : List ℕ} → is_text r.overlay b.block ≡ true
    → start ≡ line_address (sad r.blocks b.block) r.system.ap (b.row / ⁅ r.system.fy ⁆) → row ≡ b.row % ⁅ r.system.fy ⁆
    → codes ≡ table n (λ c. fetch memory (start + c))
    → glyphs ≡ table (length codes) (λ c. glyph_byte r memory font (get_or codes c 0) row)
    → glyphs ≡ table n (block_byte r memory font b)
unfolding block_byte code_address
text_bytes r memory font b n {start} {row} {codes} text e er ec eg =
    eg ∙ ap (λ (m : ℕ). table m (glyph row)) (ap length ec ∙ length_table n _)
    ∙ same_table n (glyph row) _ (λ c h. rw (text, er) (ap shown (ap (λ (l : List ℕ). get_or l c 0) ec ∙ get_or-table n _ c h ∙ fetch_at memory (start + c) _ (omega (arith, e)))))
  where
    glyph : ℕ → ℕ → ℕ
    glyph row c = glyph_byte r memory font (get_or codes c 0) row

    shown : ℕ → ℕ
    shown code = glyph_byte r memory font code (b.row % ⁅ r.system.fy ⁆)

pub graphics_bytes : (r : Registers) (memory font : List ℕ) (b : BlockRow) (n : ℕ) {start : ℕ} {line : List ℕ} → is_text r.overlay b.block ≡ false
    → start ≡ line_address (sad r.blocks b.block) r.system.ap b.row → line ≡ table n (λ c. fetch memory (start + c)) → line ≡ table n (block_byte r memory font b)
unfolding block_byte
graphics_bytes r memory font b n {start} text e el = el ∙ same_table n _ _ (λ c h. rw text (fetch_at memory (start + c) _ (omega (arith, e))))
