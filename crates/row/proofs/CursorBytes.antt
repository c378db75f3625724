-- The dots of a byte under the cursor are its dots inverted. It knows no code.
use Rattle.std.proofs.Common.{◌≡◌, ℕ, ◌+◌, ◌-◌, ◌*◌, ◌/◌, ◌%◌, ◌<◌, Bool, true, false, not, ◌&&◌, T, Option, Some, None, List, length, get_or, set, sym, refl, ◌∙◌, subst, ⊎_elim, eq-zero-or-pos, arith, bit_xor, length-set, get_or-set_other, get_or-set_same, le-ltb, lt-ltb, eq-eqb, ne_eqb, eqb-true}
use Rattle.std.specs.Int.Bits.{xor_zero_r}
use Rattle.registers.specs.declared.Registers.{Registers}
use Rattle.choice.specs.Choice.{when◌then◌else◌, ◌<?◌, ◌=?◌}
use Rattle.registers.specs.Counts.{⁅◌⁆}
use Rattle.std.proofs.lemmas.Bool.{agree_below, agree_below_at, cases_lt, eqb-false}
use Rattle.choice.proofs.Cases.{below2}
use Rattle.dots.specs.Tables.{table}
use Rattle.dots.specs.Bytes.{bits_per_dot, dot_of}
use Rattle.dots.proofs.Tables.{is_table}
use Rattle.dots.proofs.MixedBytes.{dot_xor, dot_lt}
use Rattle.row.specs.declared.Block.{Block}
use Rattle.row.specs.declared.Block.TheVariants.{One, Two, Three, Four}
use Rattle.row.specs.declared.BlockRow.{BlockRow}
use Rattle.row.specs.Layers.{is_text, sad, three_layers}
use Rattle.row.specs.Glyphs.{code_address}
use Rattle.row.specs.Cursor.{has_cursor, inverted}
use Rattle.row.specs.Stages.{line_address, first_bits, cursor_byte, Composable}

abbrev bits_test : ℕ → ℕ → Bool
bits_test n j = dot_of 1 (first_bits n) j =? (when j <? n then 1 else 0)

bits_dot : (n j : ℕ) → j < 8 → dot_of 1 (first_bits n) j ≡ (when j <? n then 1 else 0)
unfolding first_bits dot_of
bits_dot n j h =
    ⊎_elim
    (λ l. eqb-true _ _ (agree_below_at (bits_test n) (λ _. true) 8 j (agree_below_at (λ m. agree_below (bits_test m) (λ _. true) 8) (λ _. true) 8 n refl l) h))
    (λ l. rw (le-ltb n 8 l, lt-ltb j n (omega arith)) (eqb-true _ _ (agree_below_at (λ i. dot_of 1 255 i =? 1) (λ _. true) 8 j refl h)))
    (cases_lt n 8)

xor_bit : (b : Bool) (d : ℕ) → d < 2 → bit_xor d (when b then 1 else 0) ≡ (when b then 1 - d else d)
xor_bit true d h = below2 (λ d. bit_xor d 1 ≡ 1 - d) refl refl d h
xor_bit false d h = xor_zero_r d

-- text is shown at one bit a dot alone
text_one_bit : (r : Registers) → Composable r → (block : Block) → is_text r.overlay block ≡ true → r.grey ≡ 0
unfolding is_text
text_one_bit r h block e = ⊎_elim (λ z. z) (λ pos. absurd (no_text block e (h.graphics (λ z. let q : r.grey ≡ 0 = z in omega arith)))) (eq-zero-or-pos r.grey)
  where
    no_text : (block : Block) → is_text r.overlay block ≡ true → (r.overlay.dm1 ≡ true) × (r.overlay.dm2 ≡ true) → ⊥
    no_text One e g = subst T (sym (rw g.0 at e)) tt
    no_text Two e g = subst T (sym e) tt
    no_text Three e g = subst T (sym (rw g.1 at e)) tt
    no_text Four e g = subst T (sym e) tt

-- the cursor shows in text alone
cursor_one_bit : (r : Registers) → Composable r → (frame : ℕ) (layer : Option BlockRow) (c : ℕ) → has_cursor r frame layer c ≡ true → r.grey ≡ 0
unfolding has_cursor
cursor_one_bit r h frame None c e = absurd (subst T (sym e) tt)
cursor_one_bit r h frame (Some b) c e = text_one_bit r h b.block (go (three_layers r.system.ws r.overlay) (is_text r.overlay b.block) _ _ _ e)
  where
    go : (three text on shape here : Bool) → (not three && text && on && shape && here) ≡ true → text ≡ true
    go false true on shape here e = refl
    go false false on shape here e = absurd (subst T (sym e) tt)
    go true text on shape here e = absurd (subst T (sym e) tt)

pub cursor_dots : (r : Registers) (frame : ℕ) (layer : Option BlockRow) (c a j : ℕ) → Composable r → (r.grey ≡ 0 → j < 8)
    → dot_of (bits_per_dot r.grey) (cursor_byte r frame layer c a) j
    ≡ inverted (has_cursor r frame layer c) ⁅ r.form.crx ⁆ j (dot_of (bits_per_dot r.grey) a j)
unfolding cursor_byte inverted
cursor_dots r frame layer c a j h low = go (has_cursor r frame layer c) (cursor_one_bit r h frame layer c)
  where
    crx : ℕ
    crx = ⁅ r.form.crx ⁆

    go : (here : Bool) → (here ≡ true → r.grey ≡ 0)
        → dot_of (bits_per_dot r.grey) (when here then bit_xor a (first_bits crx) else a) j
        ≡ (when here && j <? crx then 1 - dot_of (bits_per_dot r.grey) a j else dot_of (bits_per_dot r.grey) a j)
    go true e =
        subst (λ (g : ℕ). dot_of (bits_per_dot g) (bit_xor a (first_bits crx)) j ≡ (when j <? crx then 1 - dot_of (bits_per_dot g) a j else dot_of (bits_per_dot g) a j)) (sym (e refl))
        (rw (dot_xor 1 a (first_bits crx) j, bits_dot crx j (low (e refl))) (xor_bit (j <? crx) (dot_of 1 a j) (dot_lt 1 a j)))
    go false e = refl

-- the column whose code address is the cursor's
pub column_at : (r : Registers) (b : BlockRow) (c at : ℕ) → c < 65536 → at < 65536
    → (at + line_address (sad r.blocks b.block) r.system.ap (b.row / ⁅ r.system.fy ⁆)) % 65536 ≡ r.cursor.address
    → (code_address r b c % 65536 =? r.cursor.address) ≡ (c =? at)
unfolding code_address
column_at r b c at hc ha e = go (c =? at) refl
  where
    code : ℕ
    code = sad r.blocks b.block + b.row / ⁅ r.system.fy ⁆ * r.system.ap + c

    go : (t : Bool) → (c =? at) ≡ t → (code % 65536 =? r.cursor.address) ≡ t
    go true f = eq-eqb (code % 65536) r.cursor.address (omega (arith, eqb-true c at f, e))
    go false f = ne_eqb (code % 65536) r.cursor.address (λ x. let z : code % 65536 ≡ r.cursor.address = x in eqb-false c at f (omega (arith, e)))

-- a line without the cursor
pub no_cell : (r : Registers) (frame : ℕ) (layer : Option BlockRow) (line : List ℕ) → ((c : ℕ) → c < length line → has_cursor r frame layer c ≡ false)
    → line ≡ table (length line) (λ c. cursor_byte r frame layer c (get_or line c 0))
unfolding cursor_byte
no_cell r frame layer line h = is_table (length line) _ line refl (λ k lt. rw (h k lt))

-- a line with the cursor in one cell
pub one_cell : (r : Registers) (frame : ℕ) (layer : Option BlockRow) (line : List ℕ) (at : ℕ) → at < length line → ((c : ℕ) → c < length line → has_cursor r frame layer c ≡ (c =? at))
    → set line at (bit_xor (get_or line at 0) (first_bits ⁅ r.form.crx ⁆)) ≡ table (length line) (λ c. cursor_byte r frame layer c (get_or line c 0))
unfolding cursor_byte
one_cell r frame layer line at h cells = is_table (length line) _ _ (length-set line at _) (λ k lt. go k (k =? at) refl (cells k lt))
  where
    inverse : ℕ
    inverse = bit_xor (get_or line at 0) (first_bits ⁅ r.form.crx ⁆)

    go : (k : ℕ) (b : Bool) → (k =? at) ≡ b → has_cursor r frame layer k ≡ (k =? at)
        → get_or (set line at inverse) k 0 ≡ (when has_cursor r frame layer k then bit_xor (get_or line k 0) (first_bits ⁅ r.form.crx ⁆) else get_or line k 0)
    go k true f e =
        rw (e ∙ f) (subst (λ (x : ℕ). get_or (set line at inverse) x 0 ≡ bit_xor (get_or line x 0) (first_bits ⁅ r.form.crx ⁆)) (sym (eqb-true k at f)) (get_or-set_same line at inverse 0 h))
    go k false f e = rw (e ∙ f) (get_or-set_other line at k inverse 0 (eqb-false k at f))
