-- Reference, 'Rows'; 01, 'Refusal numbers' and 'Blocks and layers of a row': what asking for a row gives.
use Rattle.std.specs.Prelude.{ℕ, List, [], length, Result}
use Rattle.registers.specs.declared.Refusal.{Refusal}
use Rattle.registers.specs.declared.Registers.{Registers}
use Rattle.choice.specs.Choice.{when◌then◌else◌, ◌=?◌}
use Rattle.registers.specs.Counts.{count}
use Rattle.registers.specs.Refusals.{reply}
use Rattle.registers.specs.Layout.{in_layout}
use Rattle.row.specs.declared.FrameSize.{FrameSize}
use Rattle.row.specs.Dots.{width, dots}
use Rattle.row.specs.Refusals.{row_refusal}

-- the width of a row and the rows of a frame
abbrev pub frame_size : Registers → FrameSize
frame_size registers = record { width = width (in_layout registers); rows = count (in_layout registers).system.lf }

-- An answer is the refusal number, or 0 where there is none, and every dot of an accepted row
pub record RowAnswer : Type 0 where
  pub refusal : ℕ
  pub dots : List ℕ

-- row n of a frame
unfoldable pub row_answer : Registers → List ℕ → List ℕ → ℕ → ℕ → ℕ → RowAnswer
row_answer registers memory font frame n buffer_length =
    let r = in_layout registers in
    let refusal = row_refusal r (length memory) (length font) n buffer_length in
    record { refusal = refusal; dots = when refusal =? 0 then dots r memory font frame n else [] }

-- what is left in the buffer: the row's dots; a refused row's buffer stands
pub record RowOutcome : Type 0 where
  pub refusal : ℕ
  pub buffer : List ℕ

unfoldable pub row_outcome : Registers → List ℕ → List ℕ → ℕ → ℕ → List ℕ → RowOutcome
row_outcome registers memory font frame n buffer =
    let a = row_answer registers memory font frame n (length buffer) in
    record { refusal = a.refusal; buffer = when a.refusal =? 0 then a.dots else buffer }

-- the outcome that the code's answer stands for, with the buffer as it leaves it
abbrev pub composed_outcome : Result Unit Refusal → List ℕ → RowOutcome
composed_outcome a buffer = record { refusal = (reply a).refusal; buffer = buffer }
