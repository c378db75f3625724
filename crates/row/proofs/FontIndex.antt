-- A code's glyph of the font is one of its 160.
use Rattle.std.proofs.Common.{◌≡◌, ℕ, ◌<◌, Bool, true, false, refl, ap, sym, ◌∙◌}
use Rattle.std.proofs.lemmas.Bool.{agree_below_at, ltb-true}
use Rattle.choice.specs.Choice.{◌<?◌}
use Rattle.row.specs.declared.Glyph.{Glyph}
use Rattle.row.specs.declared.Glyph.TheVariants.{Empty, Font, CgRam}
use Rattle.row.specs.Glyphs.{glyph_of}

abbrev in_font : Glyph → Bool
in_font Empty = true
in_font (Font index) = index <? 160
in_font CgRam = true

all_in_font : (m0 : Bool) (code : ℕ) → code < 256 → in_font (glyph_of m0 code) ≡ true
unfolding glyph_of
all_in_font true code h = refl
all_in_font false code h = agree_below_at (λ x. in_font (glyph_of false x)) (λ _. true) 256 code refl h

pub font_index_lem : (m0 : Bool) {code index : ℕ} → code < 256 → glyph_of m0 code ≡ Font index → index < 160
font_index_lem m0 {code} {index} h e = ltb-true index 160 (ap in_font (sym e) ∙ all_in_font m0 code h)
