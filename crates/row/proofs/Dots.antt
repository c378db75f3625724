-- The dots of the bytes that the stages leave are the dots that the definition gives. It knows no code.
use Rattle.std.proofs.Common.{◌≡◌, ℕ, ◌+◌, ◌-◌, ◌*◌, ◌/◌, ◌%◌, ◌<◌, Bool, false, T, Option, None, Some, is_some, List, refl, subst, get_or, replicate, sym, ap, ◌∙◌, mod-lt, mod-eq_of_lt, div-lt_iff_lt-mul, arith, pow_pos}
use Rattle.std.proofs.Math.Nat.{div-eq_of_lt}
use Rattle.std.proofs.lemmas.List.{length-replicate, get_or-replicate}
use Rattle.registers.specs.declared.Registers.{Registers}
use Rattle.choice.specs.Choice.{when◌then◌else◌}
use Rattle.registers.specs.Counts.{⁅◌⁆}
use Rattle.dots.specs.Tables.{table}
use Rattle.dots.specs.Mixing.{mix}
use Rattle.dots.specs.Bytes.{bits_per_dot, dot_of}
use Rattle.dots.specs.MixedBytes.{mix_byte, third_mix}
use Rattle.dots.specs.Expanded.{expanded_dot}
use Rattle.dots.proofs.Tables.{is_table, same_table, element}
use Rattle.dots.proofs.MixedBytes.{mix_dots, mix_steps}
use Rattle.row.specs.declared.BlockRow.{BlockRow}
use Rattle.row.specs.Layers.{layer1, layer2, layer3}
use Rattle.row.specs.Cursor.{has_cursor, inverted}
use Rattle.row.specs.Dots.{per_column, shown_columns, width, layer_byte, column_dot, composed_dot, is_shown, unscrolled_dot, dot, dots}
use Rattle.row.specs.Stages.{cursor_byte, ColumnDots, Composable}
use Rattle.row.proofs.Columns.{columns_fit, scroll_fits, in_unscrolled}
use Rattle.row.proofs.CursorBytes.{cursor_dots}

dot_zero : (k j : ℕ) → dot_of k 0 j ≡ 0
unfolding dot_of
dot_zero k j = rw (div-eq_of_lt (pow_pos (8 - k * (j + 1)))) (mod-eq_of_lt (pow_pos k))

no_row : (layer : Option BlockRow) → is_some layer ≡ false → layer ≡ None
no_row None e = refl
no_row (Some b) e = absurd (subst T e tt)

-- the bytes of a layer mixed into a line
pub mixed_in : (r : Registers) (memory font : List ℕ) (frame : ℕ) (layer : Option BlockRow) (mx : ℕ) (line : List ℕ) {next mixed : List ℕ} {m k : ℕ} → k ≡ m
    → next ≡ table k (layer_byte r memory font frame layer) → mixed ≡ table m (λ c. mix_byte mx r.grey (get_or line c 0) (get_or next c 0))
    → mixed ≡ table m (λ c. mix_byte mx r.grey (get_or line c 0) (layer_byte r memory font frame layer c))
mixed_in r memory font frame layer mx line {next} {mixed} {m} q en e =
    e ∙ same_table m _ _ (λ c h. ap (λ (x : ℕ). mix_byte mx r.grey (get_or line c 0) x) (element _ en q c h))

module _ (r : Registers) (memory font : List ℕ) (frame n : ℕ) where
  -- the bytes of a layer
  abbrev bytes : Option BlockRow → ℕ → ℕ
  bytes layer = layer_byte r memory font frame layer

  abbrev layer_dot : Option BlockRow → ℕ → ℕ → ℕ
  layer_dot layer c j = dot_of (bits_per_dot r.grey) (bytes layer c) j

  -- dot j of column c of layers 1 and 2, mixed
  abbrev two_dot : ℕ → ℕ → ℕ
  two_dot c j =
      mix r.overlay.mx (inverted (has_cursor r frame (layer1 r n) c) ⁅ r.form.crx ⁆ j (layer_dot (layer1 r n) c j)) (layer_dot (layer2 r n) c j) 0

  -- a line's dots are those of layers 1 and 2
  abbrev pub TwoDots : List ℕ → Type 0
  TwoDots line = (c j : ℕ) → c < ⁅ r.system.cr ⁆ → j < per_column r → dot_of (bits_per_dot r.grey) (get_or line c 0) j ≡ two_dot c j

  -- layers 1 and 2 as the stages leave them: the bytes of the first, the cursor in them, the bytes of the second mixed in
  pub two_mixed : {one cursor mixed : List ℕ} {m1 m2 m3 : ℕ} → Composable r → m1 ≡ ⁅ r.system.cr ⁆ → m2 ≡ ⁅ r.system.cr ⁆ → m3 ≡ ⁅ r.system.cr ⁆
      → one ≡ table m1 (bytes (layer1 r n))
      → cursor ≡ table m2 (λ c. cursor_byte r frame (layer1 r n) c (get_or one c 0))
      → mixed ≡ table m3 (λ c. mix_byte r.overlay.mx r.grey (get_or cursor c 0) (bytes (layer2 r n) c))
      → TwoDots mixed
  two_mixed h q1 q2 q3 e1 e2 e3 c j lc lj =
      let fit = (columns_fit r h).1 in
      ap (λ (b : ℕ). dot_of (bits_per_dot r.grey) b j)
      (element _ e3 q3 c lc ∙ ap (λ (x : ℕ). mix_byte r.overlay.mx r.grey x (bytes (layer2 r n) c))
      (element _ e2 q2 c lc ∙ ap (λ (x : ℕ). cursor_byte r frame (layer1 r n) c x) (element _ e1 q1 c lc)))
      ∙ mix_dots r.overlay.mx r.grey (per_column r) _ _ j fit lj
      ∙ ap (λ (d : ℕ). mix r.overlay.mx d (layer_dot (layer2 r n) c j) 0)
      (cursor_dots r frame (layer1 r n) c (bytes (layer1 r n) c) j h (λ z. let p = fit.one z in omega arith))

  -- without layer 3 that is all
  pub two_layers_lem : (mixed : List ℕ) → is_some (layer3 r n) ≡ false → TwoDots mixed → ColumnDots r memory font frame n mixed
  unfolding column_dot layer_byte
  two_layers_lem mixed none two c j lc lj = two c j lc lj ∙ rw (no_row (layer3 r n) none, dot_zero (bits_per_dot r.grey) j)

  -- the bytes of layer 3 mixed in
  pub three_layers_lem : (mixed : List ℕ) {all : List ℕ} {m : ℕ} → Composable r → m ≡ ⁅ r.system.cr ⁆
      → TwoDots mixed
      → all ≡ table m (λ c. mix_byte (third_mix r.overlay.mx) r.grey (get_or mixed c 0) (bytes (layer3 r n) c)) → ColumnDots r memory font frame n all
  unfolding column_dot
  three_layers_lem mixed h q two e c j lc lj =
      ap (λ (b : ℕ). dot_of (bits_per_dot r.grey) b j) (element _ e q c lc)
      ∙ mix_dots (third_mix r.overlay.mx) r.grey (per_column r) _ _ j (columns_fit r h).1 lj
      ∙ ap (λ (d : ℕ). mix (third_mix r.overlay.mx) d (layer_dot (layer3 r n) c j) 0) (two c j lc lj)
      ∙ mix_steps r.overlay.mx _ _ _

  -- the row that such a line expands to, scrolled
  pub expanded : (line : List ℕ) {out : List ℕ} {m : ℕ} → Composable r → m ≡ shown_columns r.hdot r.system.cr → ColumnDots r memory font frame n line
      → out ≡ table (m * per_column r) (λ x. expanded_dot (bits_per_dot r.grey) (per_column r) line (x + r.hdot))
      → out ≡ table (width r) (λ x. composed_dot r memory font frame n (x + r.hdot))
  unfolding width expanded_dot composed_dot
  expanded line h q all e =
      let p = per_column r in
      let pos = (columns_fit r h).0 in
      e ∙ ap (λ (k : ℕ). table (k * p) (λ x. expanded_dot (bits_per_dot r.grey) p line (x + r.hdot))) q
      ∙ same_table (shown_columns r.hdot r.system.cr * p) _ _
      (λ x l. all ((x + r.hdot) / p) ((x + r.hdot) % p) ((div-lt_iff_lt-mul pos).1 (omega (arith, in_unscrolled r.hdot r.system.cr p (scroll_fits r h).0))) (mod-lt (x + r.hdot) pos))

-- the whole row: shown, or with D = 0 or asleep
pub row_when : (r : Registers) (memory font : List ℕ) (frame n : ℕ) {t : Bool} → is_shown r.display.on r.asleep ≡ t
    → table (width r) (λ x. when t then composed_dot r memory font frame n (x + r.hdot) else 0) ≡ dots r memory font frame n
unfolding dots dot unscrolled_dot
row_when r memory font frame n e =
    same_table (width r) _ _ (λ x l. sym (ap (λ (b : Bool). when b then composed_dot r memory font frame n (x + r.hdot) else 0) e))

pub dark_row : (r : Registers) (memory font : List ℕ) (frame n : ℕ) → is_shown r.display.on r.asleep ≡ false → dots r memory font frame n ≡ replicate (width r) 0
dark_row r memory font frame n e =
    let w = width r in
    sym (is_table w (λ x. 0) (replicate w 0) (length-replicate w 0) (λ k l. get_or-replicate w k 0 0 l) ∙ row_when r memory font frame n e)
