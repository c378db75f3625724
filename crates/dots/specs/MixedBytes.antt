-- Reference, 'Mixing'; 01, 'Blocks and layers of a row': whole bytes mixed. Each dot of them is the `mix` of the layers' dots: `mix_dots` and
-- `mix_steps` in proofs/MixedBytes.
use Rattle.std.specs.Prelude.{ℕ, zero, suc, ◌+◌, ◌*◌, ◌^◌}
use Rattle.std.specs.Int.Bits.{bit_and, bit_or, bit_xor}
use Rattle.choice.specs.Choice.{when◌then◌else◌, ◌<?◌, ◌=?◌}
use Rattle.dots.specs.Mixing.{first_of}
use Rattle.dots.specs.Bytes.{dot_of}

-- the first n dots of a byte that has, for each dot of `bits` bits, the first of two that isn't 0
abbrev pub first_dots : ℕ → ℕ → ℕ → ℕ → ℕ
first_dots bits zero a b = 0
first_dots bits (suc n) a b = first_dots bits n a b * 2 ^ bits + first_of (dot_of bits a n) (dot_of bits b n) 0

-- the first that isn't 0 of each dot at a grey code; at one bit it is the OR
unfoldable pub first_byte : ℕ → ℕ → ℕ → ℕ
first_byte grey a b = when grey =? 0 then bit_or a b else when grey =? 1 then first_dots 2 4 a b else first_dots 4 2 a b

-- the bytes of two layers mixed
unfoldable pub mix_byte : ℕ → ℕ → ℕ → ℕ → ℕ
mix_byte mx grey a b =
    when mx =? 0 then bit_or a b
    else when mx =? 1 then bit_xor a b
    else when mx =? 2 then bit_and a b
    else first_byte grey a b

-- MX for layer 3 with the mix of layers 1 and 2: OR, or again the first that isn't 0
unfoldable pub third_mix : ℕ → ℕ
third_mix mx = when mx <? 3 then 0 else mx
