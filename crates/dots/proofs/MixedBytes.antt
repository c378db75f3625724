-- The dots of mixed bytes are the dots mixed. It knows no code.
use Rattle.std.proofs.Common.{ℕ, zero, suc, ◌+◌, ◌-◌, ◌*◌, ◌/◌, ◌%◌, ◌^◌, ◌<◌, ◌≤◌, Bool, true, false, ◌≡◌, refl, sym, ap, ◌∙◌, subst, ⊎_elim, arith, bit_and, bit_or, bit_xor, mod-lt, pow_pos, pow-add, shr-shr, shl_exact, mul-suc, mul-le-mul_left, add-one, div-one, ne_eqb, le-ltb}
use Rattle.std.proofs.lemmas.Bool.{agree_below, agree_below_at, cases_lt, eqb-true}
use Rattle.std.proofs.lemmas.Nat.{or_shr, or_mod, or_shifted, xor_shr, xor_mod, and_shr, and_mod}
use Rattle.std.specs.Int.Bits.{or_zero_r}
use Rattle.std.proofs.Math.Arith.{digits_lt}
use Rattle.std.proofs.Math.Pow.{high, low}
use Rattle.choice.specs.Choice.{when◌then◌else◌, ◌=?◌}
use Rattle.dots.specs.Mixing.{first_of, mix}
use Rattle.dots.specs.Bytes.{bits_per_dot, dot_of, FillByte}
use Rattle.dots.specs.MixedBytes.{first_dots, first_byte, mix_byte, third_mix}
use Rattle.dots.specs.Expanded.{DotsFit}

dot_or : (k a b j : ℕ) → dot_of k (bit_or a b) j ≡ bit_or (dot_of k a j) (dot_of k b j)
unfolding dot_of
dot_or k a b j = rw (or_shr, or_mod)

pub dot_xor : (k a b j : ℕ) → dot_of k (bit_xor a b) j ≡ bit_xor (dot_of k a j) (dot_of k b j)
unfolding dot_of
dot_xor k a b j = rw (xor_shr, xor_mod)

dot_and : (k a b j : ℕ) → dot_of k (bit_and a b) j ≡ bit_and (dot_of k a j) (dot_of k b j)
unfolding dot_of
dot_and k a b j = rw (and_shr, and_mod)

pub dot_lt : (k a j : ℕ) → dot_of k a j < 2 ^ k
unfolding dot_of
dot_lt k a j = mod-lt (a / 2 ^ (8 - k * (j + 1))) (pow_pos k)

-- at one bit the first that is not 0 is the OR
abbrev first_test : ℕ → ℕ → Bool
first_test a b = bit_or a b =? first_of a b 0

first_or : (a b : ℕ) → a < 2 → b < 2 → bit_or a b ≡ first_of a b 0
unfolding first_of
first_or a b ha hb =
    eqb-true _ _ (agree_below_at (first_test a) (λ _. true) 2 b (agree_below_at (λ x. agree_below (first_test x) (λ _. true) 2) (λ _. true) 2 a refl ha) hb)

first_lt : (k a b : ℕ) → a < k → b < k → first_of a b 0 < k
unfolding first_of
first_lt k a b ha hb = go (a =? 0) (b =? 0)
  where
    go : (x y : Bool) → (when x then (when y then 0 else b) else a) < k
    go true true = omega arith
    go true false = hb
    go false y = ha

first_dot_lt : (k n a b : ℕ) → first_of (dot_of k a n) (dot_of k b n) 0 < 2 ^ k
first_dot_lt k n a b = first_lt (2 ^ k) (dot_of k a n) (dot_of k b n) (dot_lt k a n) (dot_lt k b n)

pub first_dots_lt : (k n a b : ℕ) → first_dots k n a b < 2 ^ (k * n)
first_dots_lt k zero a b = pow_pos (k * zero)
first_dots_lt k (suc n) a b =
    subst (λ (x : ℕ). first_dots k (suc n) a b < x) (sym (pow-add 2 (k * n) k) ∙ ap (λ (x : ℕ). 2 ^ x) (sym (mul-suc k n)))
    (digits_lt (first_dots_lt k n a b) (first_dot_lt k n a b))

-- a dot's bits are the byte's
dot_room : (k j : ℕ) → FillByte k → j < 8 / k → k * (j + 1) ≤ 8
dot_room k j fill h = subst (λ (x : ℕ). k * (j + 1) ≤ x) fill.2 (mul-le-mul_left k (omega arith))

-- a dot more, by a shift and an OR
pub one_dot_more : (k j a b m r : ℕ) → FillByte k → j < 8 / k → m ≡ first_dots k j a b → r ≡ first_of (dot_of k a j) (dot_of k b j) 0
    → bit_or (m * 2 ^ k % 2 ^ 8) r ≡ first_dots k (j + 1) a b
one_dot_more k j a b m r fill h em er =
    let room : k * j + k ≤ 8 = omega (arith, dot_room k j fill h, mul-suc k j, ap (λ (x : ℕ). k * x) (add-one j)) in
    rw (em, er, shl_exact (k * j) k 8 (first_dots_lt k j a b) room, or_shifted (first_dots k j a b) k _ (first_dot_lt k j a b), add-one) refl

-- with e bits behind it dot j is the first of dots j
dot_before : (k n a b j e : ℕ) → j < n → k * (j + 1) + e ≡ k * n → first_dots k n a b / 2 ^ e % 2 ^ k ≡ first_of (dot_of k a j) (dot_of k b j) 0
dot_before k zero a b j e h q = absurd (omega (arith, h))
dot_before k (suc n) a b j e h q = ⊎_elim (earlier (λ e' g q'. dot_before k n a b j e' g q')) last (cases_lt j n)
  where
    whole : ℕ
    whole = first_dots k (suc n) a b

    last : n ≤ j → whole / 2 ^ e % 2 ^ k ≡ first_of (dot_of k a j) (dot_of k b j) 0
    last g =
        let jn : j ≡ n = omega (arith, h) in
        let none : e ≡ 0 = omega (arith, q, mul-suc k n, ap (λ (x : ℕ). k * (x + 1)) jn, ap (λ (x : ℕ). k * x) (add-one n)) in
        ap (λ (x : ℕ). whole / 2 ^ x % 2 ^ k) none ∙ ap (λ (x : ℕ). x % 2 ^ k) (div-one whole)
        ∙ low (first_dots k n a b) k (first_dot_lt k n a b) ∙ ap (λ (x : ℕ). first_of (dot_of k a x) (dot_of k b x) 0) (sym jn)

    earlier : ((e' : ℕ) → j < n → k * (j + 1) + e' ≡ k * n → first_dots k n a b / 2 ^ e' % 2 ^ k ≡ first_of (dot_of k a j) (dot_of k b j) 0)
        → j < n → whole / 2 ^ e % 2 ^ k ≡ first_of (dot_of k a j) (dot_of k b j) 0
    earlier before g =
        let room : k * (j + 1) ≤ k * n = mul-le-mul_left k (omega arith) in
        let rest : e ≡ k + (e - k) = omega (arith, q, mul-suc k n, room) in
        ap (λ (x : ℕ). whole / 2 ^ x % 2 ^ k) rest ∙ ap (λ (x : ℕ). x % 2 ^ k) (sym (shr-shr whole k (e - k)))
        ∙ ap (λ (x : ℕ). x / 2 ^ (e - k) % 2 ^ k) (high (first_dots k n a b) k (first_dot_lt k n a b))
        ∙ before (e - k) g (omega (arith, q, mul-suc k n, room))

dot_first : (k n a b j : ℕ) → j < n → k * n ≡ 8 → dot_of k (first_dots k n a b) j ≡ first_of (dot_of k a j) (dot_of k b j) 0
unfolding dot_of
dot_first k n a b j h fill =
    let room : k * (j + 1) ≤ k * n = mul-le-mul_left k (omega arith) in
    dot_before k n a b j (8 - k * (j + 1)) h (omega (arith, room))

-- dot j of the n of a column
mix_first : (grey n a b j : ℕ) → DotsFit grey n → j < n
    → dot_of (bits_per_dot grey) (first_byte grey a b) j ≡ first_of (dot_of (bits_per_dot grey) a j) (dot_of (bits_per_dot grey) b j) 0
unfolding first_byte
mix_first zero n a b j h l = dot_or 1 a b j ∙ first_or (dot_of 1 a j) (dot_of 1 b j) (dot_lt 1 a j) (dot_lt 1 b j)
mix_first (suc zero) n a b j h l = dot_first 2 4 a b j (rw (h.two refl) at l) refl
mix_first (suc (suc zero)) n a b j h l = dot_first 4 2 a b j (rw (h.four refl) at l) refl
mix_first (suc (suc (suc g))) n a b j h l = absurd (let z = h.code in omega arith)

-- two layers mixed, as if the third had no dot
pub mix_dots : (mx grey n a b j : ℕ) → DotsFit grey n → j < n
    → dot_of (bits_per_dot grey) (mix_byte mx grey a b) j ≡ mix mx (dot_of (bits_per_dot grey) a j) (dot_of (bits_per_dot grey) b j) 0
unfolding mix_byte mix
mix_dots mx grey n a b j h l = go (mx =? 0) (mx =? 1) (mx =? 2)
  where
    k : ℕ
    k = bits_per_dot grey

    go : (x y z : Bool)
        → dot_of k (when x then bit_or a b else when y then bit_xor a b else when z then bit_and a b else first_byte grey a b) j
        ≡ (when x then bit_or (bit_or (dot_of k a j) (dot_of k b j)) 0
        else when y then bit_or (bit_xor (dot_of k a j) (dot_of k b j)) 0
        else when z then bit_or (bit_and (dot_of k a j) (dot_of k b j)) 0
        else first_of (dot_of k a j) (dot_of k b j) 0)
    go true y z = dot_or k a b j ∙ sym (or_zero_r _)
    go false true z = dot_xor k a b j ∙ sym (or_zero_r _)
    go false false true = dot_and k a b j ∙ sym (or_zero_r _)
    go false false false = mix_first grey n a b j h l

not_zero : (n : ℕ) → (suc n =? 0) ≡ false
not_zero n = ne_eqb (suc n) 0 (λ q. let z : suc n ≡ 0 = q in omega arith)

-- the first of three is the first of the first two, and the third
first_steps : (x y z : ℕ) → first_of (first_of x y 0) z 0 ≡ first_of x y z
unfolding first_of
first_steps zero zero zero = refl
first_steps zero zero (suc z) = simp (not_zero z)
first_steps zero (suc y) z = simp (not_zero y)
first_steps (suc x) y z = simp (not_zero x)

or_steps : (v z : ℕ) → bit_or (bit_or (bit_or v 0) z) 0 ≡ bit_or v z
or_steps v z = or_zero_r (bit_or (bit_or v 0) z) ∙ ap (λ (x : ℕ). bit_or x z) (or_zero_r v)

-- layer 3 is mixed into the mix of layers 1 and 2
pub mix_steps : (mx x y z : ℕ) → mix (third_mix mx) (mix mx x y 0) z 0 ≡ mix mx x y z
unfolding mix third_mix
mix_steps zero x y z = or_steps (bit_or x y) z
mix_steps (suc zero) x y z = or_steps (bit_xor x y) z
mix_steps (suc (suc zero)) x y z = or_steps (bit_and x y) z
mix_steps (suc (suc (suc mx))) x y z =
    simp (other 0 (omega arith), other 1 (omega arith), other 2 (omega arith), le-ltb (suc (suc (suc mx))) 3 (omega arith)) (first_steps x y z)
  where
    other : (k : ℕ) → k < 3 → (suc (suc (suc mx)) =? k) ≡ false
    other k h = ne_eqb (suc (suc (suc mx))) k (λ q. let z : suc (suc (suc mx)) ≡ k = q in omega arith)
