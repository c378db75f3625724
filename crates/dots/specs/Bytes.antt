-- Reference, 'Blocks and layers'; 01, 'Blocks and layers of a row': the dots of a byte.
use Rattle.std.specs.Prelude.{ℕ, ◌+◌, ◌-◌, ◌*◌, ◌/◌, ◌%◌, ◌^◌, ◌<◌, ◌≡◌}
use Rattle.choice.specs.Choice.{when◌then◌else◌, ◌=?◌}
use Rattle.dots.specs.declared.Depth.{Depth}
use Rattle.dots.specs.declared.Depth.TheVariants.{One, Two, Four}

-- what a code of GRAY SCALE stands for, and its code
abbrev pub depth_of : ℕ → Depth
depth_of grey = when grey =? 0 then One else when grey =? 1 then Two else Four

abbrev pub depth_code : Depth → ℕ
depth_code One = 0
depth_code Two = 1
depth_code Four = 2

-- GRAY SCALE 0, 1, 2 mean 1, 2, 4 bits a dot
abbrev pub bits_per_dot : ℕ → ℕ
bits_per_dot grey = 2 ^ grey

-- dots of so many bits fill a byte
abbrev pub FillByte : ℕ → Type 0
FillByte bits = (0 < bits) × (bits < 8) × (bits * (8 / bits) ≡ 8)

-- a byte gives its top bits, bit 7 leftmost; in grey its 2- or 4-bit groups, top group leftmost
unfoldable pub dot_of : ℕ → ℕ → ℕ → ℕ
dot_of bits byte j = byte / 2 ^ (8 - bits * (j + 1)) % 2 ^ bits
