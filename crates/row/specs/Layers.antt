-- Reference, 'Blocks and layers'; 01, 'Blocks and layers of a row': which block each layer shows on a row.
use Rattle.std.specs.Prelude.{ℕ, ◌-◌, ◌/◌, Bool, false, not, ◌&&◌, Option, Some, None}
use Rattle.registers.specs.declared.Code.{Code}
use Rattle.registers.specs.declared.Blocks.{Blocks}
use Rattle.registers.specs.declared.Overlay.{Overlay}
use Rattle.registers.specs.declared.Registers.{Registers}
use Rattle.choice.specs.Choice.{when◌then◌else◌, ◌<?◌, ◌≤?◌}
use Rattle.registers.specs.Counts.{⁅◌⁆}
use Rattle.row.specs.declared.Block.{Block}
use Rattle.row.specs.declared.Block.TheVariants.{One, Two, Three, Four}
use Rattle.row.specs.declared.BlockRow.{BlockRow}

-- block 1 is text if DM1 = 0, else graphics; block 3 likewise by DM2; blocks 2 and 4 are graphics
unfoldable pub is_text : Overlay → Block → Bool
is_text o One = not o.dm1
is_text o Two = false
is_text o Three = not o.dm2
is_text o Four = false

unfoldable pub sad : Blocks → Block → ℕ
sad b One = b.sad1
sad b Two = b.sad2
sad b Three = b.sad3
sad b Four = b.sad4

-- DM = 11
abbrev pub dm11 : Overlay → Bool
dm11 o = o.dm2 && o.dm1

-- W/S = 0, OV = 1, DM = 11
unfoldable pub three_layers : Bool → Overlay → Bool
three_layers ws o = not ws && o.ov && dm11 o

abbrev pub block_row : Block → ℕ → BlockRow
block_row block q = record { block = block; row = q }

-- a block for rows below [SL], then block 3
unfoldable pub split : Block → Code → ℕ → BlockRow
split block sl n = when n <? ⁅ sl ⁆ then block_row block n else block_row Three (n - ⁅ sl ⁆)

-- a block in the upper half, whose rows from [SL] on are blank, and a block in the lower half
unfoldable pub halves : Block → Block → Code → Code → ℕ → Option BlockRow
halves upper lower lf sl n =
    when n <? ⁅ lf ⁆ / 2 then (when n <? ⁅ sl ⁆ then Some (block_row upper n) else None)
    else Some (block_row lower (n - ⁅ lf ⁆ / 2))

-- layers 1 and 2: with W/S = 1 a block in each half; else the first, above block 3 where two layers show and this one has the fewer lines
abbrev pub two_blocks : Registers → Block → Block → Code → Bool → ℕ → Option BlockRow
two_blocks r first second sl shorter n =
    when r.system.ws then halves first second r.system.lf sl n
    else when three_layers r.system.ws r.overlay then Some (block_row first n)
    else when shorter then Some (split first sl n)
    else Some (block_row first n)

unfoldable pub layer1 : Registers → ℕ → Option BlockRow
layer1 r n = let b = r.blocks in two_blocks r One Three b.sl1 (b.sl1.0 ≤? b.sl2.0) n

unfoldable pub layer2 : Registers → ℕ → Option BlockRow
layer2 r n = let b = r.blocks in two_blocks r Two Four b.sl2 (b.sl2.0 <? b.sl1.0) n

unfoldable pub layer3 : Registers → ℕ → Option BlockRow
layer3 r n = when three_layers r.system.ws r.overlay then Some (block_row Three n) else None
