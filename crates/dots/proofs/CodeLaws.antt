-- The names of codes: in its layout a code is the code of its name, and mixing by the name is mixing by the code, whatever code it is.
use Rattle.std.proofs.Common.{◌≡◌, ℕ, zero, suc, ◌<◌, refl, arith, ne_eqb, le-ltb}
use Rattle.dots.specs.Bytes.{depth_of, depth_code}
use Rattle.dots.specs.Mixing.{mix_of, mix_code}
use Rattle.dots.specs.MixedBytes.{first_byte, mix_byte, third_mix}

pub depth_codes : (grey : ℕ) → grey < 3 → depth_code (depth_of grey) ≡ grey
depth_codes zero h = refl
depth_codes (suc zero) h = refl
depth_codes (suc (suc zero)) h = refl
depth_codes (suc (suc (suc n))) h = absurd (omega arith)

pub mix_codes : (mx : ℕ) → mx < 4 → mix_code (mix_of mx) ≡ mx
mix_codes zero h = refl
mix_codes (suc zero) h = refl
mix_codes (suc (suc zero)) h = refl
mix_codes (suc (suc (suc zero))) h = refl
mix_codes (suc (suc (suc (suc n)))) h = absurd (omega arith)

-- a code past the last mixes as the last, so the names cover every pair of numbers
first_any : (grey a b : ℕ) → first_byte (depth_code (depth_of grey)) a b ≡ first_byte grey a b
unfolding first_byte
first_any zero a b = refl
first_any (suc zero) a b = refl
first_any (suc (suc n)) a b = rw (ne_eqb (suc (suc n)) 0 (λ e. omega (arith, e)), ne_eqb (suc (suc n)) 1 (λ e. omega (arith, e)))

pub mix_any : (mx grey a b : ℕ) → mix_byte (mix_code (mix_of mx)) (depth_code (depth_of grey)) a b ≡ mix_byte mx grey a b
unfolding mix_byte
mix_any zero grey a b = refl
mix_any (suc zero) grey a b = refl
mix_any (suc (suc zero)) grey a b = refl
mix_any (suc (suc (suc n))) grey a b =
    rw (ne_eqb (suc (suc (suc n))) 0 (λ e. omega (arith, e)), ne_eqb (suc (suc (suc n))) 1 (λ e. omega (arith, e)), ne_eqb (suc (suc (suc n))) 2 (λ e. omega (arith, e)))
    (first_any grey a b)

pub third_any : (mx grey a b : ℕ) → mix_byte (third_mix (mix_code (mix_of mx))) (depth_code (depth_of grey)) a b ≡ mix_byte (third_mix mx) grey a b
unfolding mix_byte third_mix
third_any zero grey a b = refl
third_any (suc zero) grey a b = refl
third_any (suc (suc zero)) grey a b = refl
third_any (suc (suc (suc n))) grey a b =
    rw (le-ltb (suc (suc (suc n))) 3 (omega arith), ne_eqb (suc (suc (suc n))) 0 (λ e. omega (arith, e)), ne_eqb (suc (suc (suc n))) 1 (λ e. omega (arith, e)), ne_eqb (suc (suc (suc n))) 2 (λ e. omega (arith, e)))
    (first_any grey a b)
