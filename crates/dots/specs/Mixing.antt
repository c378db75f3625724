-- Reference, 'Mixing'; 01, 'Blocks and layers of a row': MX, on dot values.
use Rattle.std.specs.Prelude.{ℕ}
use Rattle.std.specs.Int.Bits.{bit_and, bit_or, bit_xor}
use Rattle.choice.specs.Choice.{when◌then◌else◌, ◌=?◌}
use Rattle.dots.specs.declared.Mix.{Mix}
use Rattle.dots.specs.declared.Mix.TheVariants.{Or, Xor, And, Priority}

-- what a code of MX stands for, and its code
abbrev pub mix_of : ℕ → Mix
mix_of mx = when mx =? 0 then Or else when mx =? 1 then Xor else when mx =? 2 then And else Priority

abbrev pub mix_code : Mix → ℕ
mix_code Or = 0
mix_code Xor = 1
mix_code And = 2
mix_code Priority = 3

-- the first that isn't 0
unfoldable pub first_of : ℕ → ℕ → ℕ → ℕ
first_of l1 l2 l3 = when l1 =? 0 then (when l2 =? 0 then l3 else l2) else l1

-- 00 OR of all layers; 01 (L1 XOR L2) OR L3; 10 (L1 AND L2) OR L3; 11 the first layer with a dot that isn't 0
unfoldable pub mix : ℕ → ℕ → ℕ → ℕ → ℕ
mix mx l1 l2 l3 =
    when mx =? 0 then bit_or (bit_or l1 l2) l3
    else when mx =? 1 then bit_or (bit_xor l1 l2) l3
    else when mx =? 2 then bit_or (bit_and l1 l2) l3
    else first_of l1 l2 l3
