-- Reference, 'The program': what the program's functions promise. A file is read in parts, its records are carried out, and a line ends the output.
use Rattle.std.specs.Prelude.{ℕ, ◌≤◌, ◌-◌, ◌^◌, Bool, true, false, ltb, List, ◌≡◌, length, take, replicate}
use Rattle.registers.specs.Sizes.{memory_size}
use Rattle.model.specs.Refresh.{All, Byte}
use Rattle.busfile.specs.Parts.{longest_record}
use Rattle.lines.specs.Lines.{end_line, longest_line}
use Rattle.session.specs.declared.LentStep.{LentStep}
use Rattle.session.specs.Output.{printed, OpenAfter}
use Rattle.session.specs.Records.{lent}
use Rattle.session.specs.File.{Progress, progress, start_of}
use Rattle.session.specs.Program.{PrintsAll}
use Rattle.session.specs.Reading.{SoFar, ReadsOn, Ran}
use Rattle.panel.specs.declared.reading.Input.{Input}

-- a place is in the part, and the part in a buffer that has room for the longest record
pub record InPart {R : Type 0} (at : ℕ) (input : Input R) : Type 0 where
  pub place : at ≤ input.filled
  pub part : input.filled ≤ length input.buffer.now
  pub roomy : longest_record ≤ length input.buffer.now

-- the bytes of the file that are at hand
abbrev pub at_hand : {R : Type 0} → Input R → List ℕ
at_hand input = take input.filled input.buffer.now

-- the buffer is read behind its first bytes, and the file has ended where that does not fill it
pub record ReadBehind {R : Type 0} (kept : ℕ) (input input' : Input R) : Type 0 where
  pub behind : kept ≤ input'.filled
  pub part : input'.filled ≤ length input'.buffer.now
  pub room : length input'.buffer.now ≡ length input.buffer.now
  pub stays : take kept input'.buffer.now ≡ take kept input.buffer.now
  pub ends : input'.ended ≡ ltb input'.filled (length input'.buffer.now)

-- the file is read on, and a place in it is then another
pub record Filled {R : Type 0} (at : ℕ) (input : Input R) (at' : ℕ) (input' : Input R) : Type 0 where
  pub reads : ReadsOn (at_hand input) at input.ended (at_hand input') at' input'.ended
  pub inside : InPart at' input'

-- k steps are done of the file
abbrev pub Done : {P R : Type 0} → List ℕ → Progress → ℕ → LentStep P → Input R → Type 0
Done font start k run input =
    SoFar font start k (progress run) run.step.session.output.open (at_hand input) input.ended

-- nothing is read and no step is done: reset beside cleared memory, and buffers that have room for the longest record and the longest line
pub record Fresh {P R : Type 0} (run : LentStep P) (input : Input R) : Type 0 where
  pub begun : progress run ≡ start_of (replicate memory_size 0) run.out.now
  pub takes : run.step.session.output.open ≡ true
  pub room : longest_line ≤ length run.out.now
  pub unread : input.filled ≡ 0
  pub goes_on : input.ended ≡ false
  pub roomy : longest_record ≤ length input.buffer.now

-- a file is run from reset beside cleared memory: its records are carried out; then the last line stands behind theirs, and nothing is held any more
pub record RunsFile {P : Type 0} (run run' : LentStep P) : Type 0 where
  pub last : Progress
  pub takes : Bool
  pub ran : Ran run.font.now (start_of (replicate memory_size 0) run.out.now) (2 ^ 64 - 1) last takes
  pub memory_left : last.state.machine.memory ≡ run'.memory.now
  pub ends : (printed last.state.output (end_line last.good)).bytes ≡ run'.out.now
  pub nothing_held : run'.step.session.output.used ≡ 0
  pub stays : OpenAfter takes true run'.step.session.output.open
  pub same : lent run' ≡ lent run
  -- so a file that stopped is printed whole
  pub whole : last.more ≡ false → All Byte ran.file → PrintsAll run.font.now ran.file run.out.now last
