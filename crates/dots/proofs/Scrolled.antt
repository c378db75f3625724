-- Dot x of a scrolled line is dot x + n of the line. It knows no code.
use Rattle.std.proofs.Common.{ℕ, zero, suc, ◌+◌, ◌-◌, ◌*◌, ◌/◌, ◌%◌, ◌^◌, ◌<◌, ◌≤◌, List, length, get_or, take, ◌≡◌, refl, sym, ap, ◌∙◌, ⊎_elim, arith, suc-ne-zero, add-zero, one-mul, mod-lt, div-add-mod', div-lt_iff_lt-mul, mul-le-mul_right, get_or-take, shr-shr, ne_eqb}
use Rattle.std.proofs.Math.Arith.{digits_div, digits_mod}
use Rattle.std.proofs.Math.Pow.{high, low, field, mod-mod-pow}
use Rattle.std.proofs.lemmas.Bool.{cases_lt}
use Rattle.dots.specs.Tables.{table}
use Rattle.dots.specs.Bytes.{dot_of}
use Rattle.dots.specs.Scrolled.{scrolled_byte, scrolled}
use Rattle.dots.specs.Expanded.{expanded_dot, DotsFit}
use Rattle.dots.proofs.Tables.{get_or-table, same_table, column_next}

-- dot j at one bit is bit 7 - j
bit : (m j : ℕ) → dot_of 1 m j ≡ m / 2 ^ (8 - (j + 1)) % 2
unfolding dot_of
bit m j = ap (λ (x : ℕ). m / 2 ^ (8 - x) % 2) (one-mul (j + 1))

-- so is that of any number whose last bits are the byte's
low_bits : (m j : ℕ) → j < 8 → dot_of 1 (m % 256) j ≡ dot_of 1 m j
low_bits m j h =
    let k : ℕ = 8 - (j + 1) in
    let e : (j + 1) + k ≡ 8 = omega arith in
    bit (m % 256) j ∙ ap (λ (x : ℕ). m % 2 ^ x / 2 ^ k % 2) (sym e) ∙ ap (λ (x : ℕ). x % 2) (field m (j + 1) k) ∙ mod-mod-pow (m / 2 ^ k) j 1 ∙ sym (bit m j)

module _ (p n a b : ℕ) (np : n < p) (p8 : p ≤ 8) where
  -- the first p bits of a, then b
  pair : ℕ
  pair = a / 2 ^ (8 - p) * 256 + b % 256

  shifted : (j : ℕ) → j < 8 → dot_of 1 (scrolled_byte p n a b) j ≡ pair / 2 ^ ((p - n) + (8 - (j + 1))) % 2
  unfolding scrolled_byte pair
  shifted j h =
      low_bits (pair / 2 ^ (p - n)) j h ∙ bit (pair / 2 ^ (p - n)) j ∙ ap (λ (x : ℕ). x % 2) (shr-shr pair (p - n) (8 - (j + 1)))

  -- the dots of the column itself
  own_dot : (j : ℕ) → j + n < p → dot_of 1 (scrolled_byte p n a b) j ≡ dot_of 1 a (j + n)
  unfolding pair
  own_dot j h =
      let t : ℕ = p - (j + n + 1) in
      let e : (p - n) + (8 - (j + 1)) ≡ 8 + t = omega arith in
      let f : (8 - p) + t ≡ 8 - (j + n + 1) = omega arith in
      shifted j (omega arith) ∙ ap (λ (x : ℕ). pair / 2 ^ x % 2) e ∙ ap (λ (x : ℕ). x % 2) (sym (shr-shr pair 8 t))
      ∙ ap (λ (x : ℕ). x / 2 ^ t % 2) (high (a / 2 ^ (8 - p)) 8 (mod-lt b (omega arith)))
      ∙ ap (λ (x : ℕ). x % 2) (shr-shr a (8 - p) t) ∙ ap (λ (x : ℕ). a / 2 ^ x % 2) f ∙ sym (bit a (j + n))

  -- and those of the next one
  next_dot : (j : ℕ) → j < p → p ≤ j + n → dot_of 1 (scrolled_byte p n a b) j ≡ dot_of 1 b (j + n - p)
  unfolding pair
  next_dot j h g =
      let i : ℕ = j + n - p in
      let e : (p - n) + (8 - (j + 1)) ≡ 8 - (i + 1) = omega arith in
      let l : i < 8 = omega arith in
      shifted j (omega arith) ∙ ap (λ (x : ℕ). pair / 2 ^ x % 2) e ∙ sym (bit pair i) ∙ sym (low_bits pair i l)
      ∙ ap (λ (x : ℕ). dot_of 1 x i) (low (a / 2 ^ (8 - p)) 8 (mod-lt b (omega arith))) ∙ low_bits b i l

-- a byte gives eight dots at most
pub at_most_8 : {grey n : ℕ} → DotsFit grey n → n ≤ 8
at_most_8 {grey = zero} h = h.one refl
at_most_8 {grey = suc zero} h = omega (arith, h.two refl)
at_most_8 {grey = suc (suc zero)} h = omega (arith, h.four refl)
at_most_8 {grey = suc (suc (suc g))} h = absurd (omega (arith, h.code))

-- a dot of a line by its column
column_of : (p c d x : ℕ) → x ≡ c * p + d → d < p → (x / p ≡ c) × (x % p ≡ d)
column_of p c d x e h = (ap (λ (y : ℕ). y / p) e ∙ digits_div c h, ap (λ (y : ℕ). y % p) e ∙ digits_mod c h)

-- dot x of a scrolled line, in any of its columns
scrolled_dot : (bits p n : ℕ) (line : List ℕ) (x : ℕ) → n < p → p ≤ 8 → ((n ≡ 0 → ⊥) → bits ≡ 1) → x < length line * p
    → expanded_dot bits p (scrolled p n line) x ≡ expanded_dot bits p line (x + n)
unfolding expanded_dot scrolled
scrolled_dot bits p zero line x np p8 one h = rw add-zero
scrolled_dot bits p (suc m) line x np p8 one h =
    rw (ne_eqb n 0 moved, one moved, get_or-table (length line) byte c inside) (⊎_elim within beyond (cases_lt (j + n) p))
  where
    n : ℕ
    n = suc m

    c : ℕ
    c = x / p

    j : ℕ
    j = x % p

    byte : ℕ → ℕ
    byte k = scrolled_byte p n (get_or line k 0) (get_or line (k + 1) 0)

    moved : n ≡ 0 → ⊥
    moved = suc-ne-zero m

    pos : 0 < p
    pos = omega arith

    inside : c < length line
    inside = (div-lt_iff_lt-mul pos).1 h

    whole : c * p + j ≡ x
    whole = div-add-mod' x p

    -- dot x + n stands in x's column, or in the next
    within : j + n < p → dot_of 1 (byte c) j ≡ dot_of 1 (get_or line ((x + n) / p) 0) ((x + n) % p)
    within l = let e = column_of p c (j + n) (x + n) (omega (arith, whole)) l in own_dot p n _ _ np p8 j l ∙ rw (e.0, e.1)

    beyond : p ≤ j + n → dot_of 1 (byte c) j ≡ dot_of 1 (get_or line ((x + n) / p) 0) ((x + n) % p)
    beyond g =
        let l : j < p = mod-lt x pos in
        let e = column_of p (c + 1) (j + n - p) (x + n) (omega (arith, whole, column_next c p)) (omega arith) in
        next_dot p n _ _ np p8 j l g ∙ rw (e.0, e.1)

-- the columns shown of a scrolled line
pub scrolled_columns : (bits p n : ℕ) (line : List ℕ) (shown : ℕ) {moved out : List ℕ} {m : ℕ} → n < p → p ≤ 8 → ((n ≡ 0 → ⊥) → bits ≡ 1) → shown ≤ length line
    → moved ≡ scrolled p n line → m ≡ shown → out ≡ table (m * p) (expanded_dot bits p (take shown moved)) → out ≡ table (shown * p) (λ x. expanded_dot bits p line (x + n))
unfolding expanded_dot
scrolled_columns bits p n line shown {moved} {out} {m} np p8 one within em q e = e ∙ rw (q, em) (same_table (shown * p) _ _ each)
  where
    pos : 0 < p
    pos = omega arith

    each : (x : ℕ) → x < shown * p → expanded_dot bits p (take shown (scrolled p n line)) x ≡ expanded_dot bits p line (x + n)
    each x l =
        ap (λ (b : ℕ). dot_of bits b (x % p)) (get_or-take shown (scrolled p n line) (x / p) 0 ((div-lt_iff_lt-mul pos).1 l))
        ∙ scrolled_dot bits p n line x np p8 one (omega (arith, mul-le-mul_right p within))
