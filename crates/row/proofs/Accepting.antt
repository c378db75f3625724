-- What an accepted row has, and what a row leaves.
use Rattle.std.proofs.Common.{◌≡◌, ℕ, suc, ◌+◌, ◌<◌, ◌≤◌, Bool, true, false, not, ◌&&◌, ◌||◌, T, Ok, Err, List, length, sym, refl, ◌∙◌, subst, arith, ltb-false, ltb-true, lt-ltb, ne_eqb, eqb-true, leb-false}
use Rattle.std.proofs.lemmas.Bool.{lt-leb, eqb-false, not-false}
use Rattle.registers.specs.declared.Refusal.{Refusal}
use Rattle.registers.specs.declared.Refusal.TheVariants.{MemorySize, FontSize}
use Rattle.registers.specs.declared.Registers.{Registers}
use Rattle.choice.proofs.Cases.{choose}
use Rattle.choice.specs.Choice.{when◌then◌else◌, ◌<?◌, ◌≤?◌, ◌=?◌}
use Rattle.registers.specs.Counts.{⁅◌⁆}
use Rattle.registers.specs.Refusals.{number}
use Rattle.registers.specs.Sizes.{memory_size, font_size}
use Rattle.registers.specs.Layout.{field, in_layout}
use Rattle.registers.proofs.Numbers.{number_not_0}
use Rattle.row.specs.Dots.{width, dots}
use Rattle.row.specs.Refusals.{grey_mode, smooth_scroll, odd_lines, layer_order, cursor_shape, row_refusal}
use Rattle.row.specs.Rows.{composed_outcome, row_answer, row_outcome}
use Rattle.row.specs.Stages.{Composable}

-- a test that would refuse has failed
passed : (b : Bool) (k x : ℕ) → (when b then suc k else x) ≡ 0 → (b ≡ false) × (x ≡ 0)
passed true k x e = absurd (omega arith)
passed false k x e = (refl, e)

grey_graphics : (r : Registers) → grey_mode r.grey r.overlay r.system.fx ≡ false → (r.grey ≡ 0 → ⊥) → (r.overlay.dm1 ≡ true) × (r.overlay.dm2 ≡ true)
unfolding grey_mode
grey_graphics r e ne = go (r.grey =? 0) r.overlay.dm2 r.overlay.dm1 (ne_eqb r.grey 0 ne) e
  where
    go : (z d2 d1 : Bool) → z ≡ false → (not z && not (d2 && d1 && ⁅ r.system.fx ⁆ =? 8)) ≡ false → (d1 ≡ true) × (d2 ≡ true)
    go true d2 d1 f g = absurd (subst T f tt)
    go false true true f g = (refl, refl)
    go false true false f g = absurd (subst T g tt)
    go false false d1 f g = absurd (subst T g tt)

scroll_passed : (r : Registers) → smooth_scroll r.hdot r.grey r.system.fx r.system.cr ≡ false → (r.hdot ≡ 0 → ⊥)
    → (r.grey ≡ 0) × (r.hdot < ⁅ r.system.fx ⁆) × (1 < ⁅ r.system.cr ⁆)
unfolding smooth_scroll
scroll_passed r e ne = go (r.hdot =? 0) (r.grey =? 0) (⁅ r.system.fx ⁆ ≤? r.hdot) (⁅ r.system.cr ⁆ =? 1) (ne_eqb r.hdot 0 ne)
    (eqb-true r.grey 0) (leb-false ⁅ r.system.fx ⁆ r.hdot) (λ c. let ne = eqb-false ⁅ r.system.cr ⁆ 1 c in omega arith) e
  where
    go : (z g f c : Bool) → z ≡ false → (g ≡ true → r.grey ≡ 0) → (f ≡ false → r.hdot < ⁅ r.system.fx ⁆) → (c ≡ false → 1 < ⁅ r.system.cr ⁆)
        → (not z && (not g || f || c)) ≡ false → (r.grey ≡ 0) × (r.hdot < ⁅ r.system.fx ⁆) × (1 < ⁅ r.system.cr ⁆)
    go true g f c h a b d k = absurd (subst T h tt)
    go false true false false h a b d k = (a refl, b refl, d refl)
    go false true false true h a b d k = absurd (subst T k tt)
    go false true true c h a b d k = absurd (subst T k tt)
    go false false f c h a b d k = absurd (subst T k tt)

-- a field as it is read
pub field_below : (limit v : ℕ) → 0 < limit → field limit v < limit
unfolding field
field_below limit v h = choose (λ (k : ℕ). k < limit) (v <? limit) v 0 (ltb-true v limit) (λ e. h)

pub grey_code : (registers : Registers) → (in_layout registers).grey < 3
unfolding in_layout
grey_code registers = field_below 3 registers.grey (omega arith)

pub mix_in_layout : (registers : Registers) → (in_layout registers).overlay.mx < 4
unfolding in_layout
mix_in_layout registers = field_below 4 registers.overlay.mx (omega arith)

-- what a row with no refusal has passed
record Passed (r : Registers) (memory_length font_length n buffer_length : ℕ) : Type 0 where
  memory_whole : not (memory_length =? memory_size) ≡ false
  font_whole : not (font_length =? font_size) ≡ false
  grey : grey_mode r.grey r.overlay r.system.fx ≡ false
  narrow : (8 <? ⁅ r.system.fx ⁆) ≡ false
  scrolls : smooth_scroll r.hdot r.grey r.system.fx r.system.cr ≡ false
  fits : (640 <? width r) ≡ false
  even : odd_lines r.system.ws r.system.lf ≡ false
  long : (r.system.tcr.0 <? r.system.cr.0 + 4) ≡ false
  order : layer_order r.system.ws r.overlay r.blocks ≡ false
  cursor : cursor_shape r.display.fc r.form r.system.fx ≡ false
  below : (⁅ r.system.lf ⁆ ≤? n) ≡ false
  whole : not (buffer_length =? width r) ≡ false

passes : (r : Registers) (memory_length font_length n buffer_length : ℕ) → row_refusal r memory_length font_length n buffer_length ≡ 0 → Passed r memory_length font_length n buffer_length
unfolding row_refusal
passes r memory_length font_length n buffer_length e =
    let p1 = passed (not (memory_length =? memory_size)) 0 _ e in
    let p8 = passed (not (font_length =? font_size)) 7 _ p1.1 in
    let p9 = passed (grey_mode r.grey r.overlay r.system.fx) 8 _ p8.1 in
    let p10 = passed (8 <? ⁅ r.system.fx ⁆) 9 _ p9.1 in
    let p18 = passed (smooth_scroll r.hdot r.grey r.system.fx r.system.cr) 17 _ p10.1 in
    let p11 = passed (640 <? width r) 10 _ p18.1 in
    let p12 = passed (odd_lines r.system.ws r.system.lf) 11 _ p11.1 in
    let p13 = passed (r.system.tcr.0 <? r.system.cr.0 + 4) 12 _ p12.1 in
    let p14 = passed (layer_order r.system.ws r.overlay r.blocks) 13 _ p13.1 in
    let p15 = passed (cursor_shape r.display.fc r.form r.system.fx) 14 _ p14.1 in
    let p16 = passed (⁅ r.system.lf ⁆ ≤? n) 15 _ p15.1 in
    let p17 = passed (not (buffer_length =? width r)) 16 _ p16.1 in
    record {
      memory_whole = p1.0;
      font_whole = p8.0;
      grey = p9.0;
      narrow = p10.0;
      scrolls = p18.0;
      fits = p11.0;
      even = p12.0;
      long = p13.0;
      order = p14.0;
      cursor = p15.0;
      below = p16.0;
      whole = p17.0;
    }

pub record Composed (r : Registers) (n buffer_length : ℕ) : Type 0 where
  pub below : n < ⁅ r.system.lf ⁆
  pub whole : buffer_length ≡ width r
  pub composable : Composable r

pub accepted : (r : Registers) → r.grey < 3 → (memory_length font_length n buffer_length : ℕ) → row_refusal r memory_length font_length n buffer_length ≡ 0 → Composed r n buffer_length
accepted r code memory_length font_length n buffer_length e =
    let p = passes r memory_length font_length n buffer_length e in
    record {
      below = leb-false ⁅ r.system.lf ⁆ n p.below;
      whole = eqb-true buffer_length (width r) (not-false (buffer_length =? width r) p.whole);
      composable = record {
        code = code;
        narrow = ltb-false 8 ⁅ r.system.fx ⁆ p.narrow;
        graphics = grey_graphics r p.grey;
        scrolls = scroll_passed r p.scrolls;
      };
    }

-- an accepted row has at most 640 dots
pub accepted_width : (r : Registers) (memory_length font_length n buffer_length : ℕ) → row_refusal r memory_length font_length n buffer_length ≡ 0 → width r ≤ 640
accepted_width r memory_length font_length n buffer_length e = ltb-false 640 (width r) (passes r memory_length font_length n buffer_length e).fits

-- the rows of a frame are accepted together
pub other_row : (r : Registers) (memory_length font_length n k buffer_length : ℕ) → row_refusal r memory_length font_length n buffer_length ≡ 0 → k < ⁅ r.system.lf ⁆ → row_refusal r memory_length font_length k buffer_length ≡ 0
unfolding row_refusal
other_row r memory_length font_length n k buffer_length e h =
    let p = passes r memory_length font_length n buffer_length e in
    rw (p.memory_whole, p.font_whole, p.grey, p.narrow, p.scrolls, p.fits, p.even, p.long, p.order, p.cursor, lt-leb ⁅ r.system.lf ⁆ k h, p.whole)

-- a row that is too wide is refused whatever its buffer
pub wide_refused : (r : Registers) (memory_length font_length n : ℕ) → 640 < width r
    → ((b : ℕ) → row_refusal r memory_length font_length n b ≡ row_refusal r memory_length font_length n (width r)) × (row_refusal r memory_length font_length n (width r) ≡ 0 → ⊥)
unfolding row_refusal
wide_refused r memory_length font_length n h =
    let w = lt-ltb 640 (width r) h in
    (λ b. rw w, λ e. absurd (subst T (sym w ∙ (passes r memory_length font_length n (width r) e).fits) tt))

-- the outcome of a row with a memory or a font of another size, of an accepted row, and of a refused one

pub outcome_memory_size : (registers : Registers) (memory font : List ℕ) (frame n : ℕ) (out : List ℕ) → (length memory ≡ memory_size → ⊥)
    → composed_outcome (Err MemorySize) out ≡ row_outcome registers memory font frame n out
unfolding row_outcome row_answer row_refusal
outcome_memory_size registers memory font frame n out e = rw (ne_eqb (length memory) memory_size e)

pub outcome_font_size : (registers : Registers) (memory font : List ℕ) (frame n : ℕ) (out : List ℕ) → length memory ≡ memory_size
    → (length font ≡ font_size → ⊥) → composed_outcome (Err FontSize) out ≡ row_outcome registers memory font frame n out
unfolding row_outcome row_answer row_refusal
outcome_font_size registers memory font frame n out m e = rw (m, ne_eqb (length font) font_size e)

pub outcome_accepted : (registers : Registers) (memory font : List ℕ) (frame n : ℕ) (out : List ℕ) {drawn : List ℕ} → length memory ≡ memory_size → length font ≡ font_size
    → row_refusal (in_layout registers) memory_size font_size n (length out) ≡ 0 → drawn ≡ dots (in_layout registers) memory font frame n
    → composed_outcome (Ok tt) drawn ≡ row_outcome registers memory font frame n out
unfolding row_outcome row_answer
outcome_accepted registers memory font frame n out m f e d = rw (m, f, e, d)

pub outcome_refused : (registers : Registers) (memory font : List ℕ) (frame n : ℕ) (out : List ℕ) (refusal : Refusal) → length memory ≡ memory_size → length font ≡ font_size
    → number refusal ≡ row_refusal (in_layout registers) memory_size font_size n (length out)
    → composed_outcome (Err refusal) out ≡ row_outcome registers memory font frame n out
unfolding row_outcome row_answer
outcome_refused registers memory font frame n out refusal m f e = rw (m, f, ← e, ne_eqb (number refusal) 0 (number_not_0 refusal))
