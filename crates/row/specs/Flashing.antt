-- Reference, 'Flashing'; 01, 'Blocks and layers of a row': flashing.
use Rattle.std.specs.Prelude.{ℕ, ◌*◌, ◌%◌, Bool, true, false}
use Rattle.choice.specs.Choice.{when◌then◌else◌, ◌<?◌, ◌=?◌}
use Rattle.registers.specs.Parameters.{bits}
use Rattle.row.specs.declared.Block.{Block}
use Rattle.row.specs.declared.Block.TheVariants.{One, Two, Three, Four}

-- something with a period is on when 10 x (frame number mod period) is below 7 x period
unfoldable pub is_on : ℕ → ℕ → Bool
is_on period frame = 10 * (frame % period) <? 7 * period

-- 00 dark or off, 01 steady, 10 period 32 frames, 11 the period given
unfoldable pub flashing : ℕ → ℕ → ℕ → Bool
flashing code period frame =
    when code =? 0 then false
    else when code =? 1 then true
    else when code =? 2 then is_on 32 frame
    else is_on period frame

-- FP1,0 rules block 1, FP3,2 blocks 2 and 4, FP5,4 block 3
abbrev pub flash_code : ℕ → Block → ℕ
flash_code fp One = bits 1 0 fp
flash_code fp Two = bits 3 2 fp
flash_code fp Three = bits 5 4 fp
flash_code fp Four = bits 3 2 fp

-- 11 is period 4
unfoldable pub is_lit : ℕ → Block → ℕ → Bool
is_lit fp block frame = flashing (flash_code fp block) 4 frame

-- FC: 11 is period 64
abbrev pub cursor_on : ℕ → ℕ → Bool
cursor_on fc frame = flashing fc 64 frame
