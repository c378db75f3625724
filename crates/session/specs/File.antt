-- Reference, 'The program'; 01, 'Bus file and its program': a file, record by record. Records are numbered from 1; a bad one stops.
use Rattle.std.specs.Prelude.{ℕ, ◌+◌, ◌%◌, ◌^◌, Bool, true, false, List, [], ◌∷◌}
use Rattle.choice.specs.Choice.{when◌then◌else◌}
use Rattle.busfile.specs.declared.Found.{Found}
use Rattle.busfile.specs.declared.Found.TheVariants.{Record, Bad, End}
use Rattle.busfile.specs.Records.{record_at, part_of}
use Rattle.lines.specs.Lines.{bad_line}
use Rattle.model.specs.Machine.{Machine}
use Rattle.model.specs.Calls.{reset}
use Rattle.session.specs.declared.Step.{Step}
use Rattle.session.specs.declared.LentStep.{LentStep}
use Rattle.session.specs.Output.{buffer, printed_all}
use Rattle.session.specs.Records.{State, state_with, after_record, record_lines}

-- how far a file is: the state, where the next record stands, how many records were good, and whether the file goes on
pub record Progress : Type 0 where
  pub state : State
  pub at : ℕ
  pub good : ℕ
  pub more : Bool

-- the progress that a step stands for, beside memory and the bytes of the output's buffer
abbrev pub progress_with : Step → List ℕ → List ℕ → Progress
progress_with s memory out = record { state = state_with s.session memory out; at = s.at; good = s.good; more = s.more }

-- the progress that a lent one stands for
abbrev pub progress : {P : Type 0} → LentStep P → Progress
progress s = progress_with s.step s.memory.now s.out.now

-- a program starts from reset, beside memory and an output buffer
abbrev pub start_of : List ℕ → List ℕ → Progress
start_of memory out = record { state = record { machine = reset memory; output = buffer out 0 }; at = 0; good = 0; more = true }

-- the number of the record after a number of good ones, in 64 bits
unfoldable pub following : ℕ → ℕ
following good = (good + 1) % 2 ^ 64

-- the lines of what was found, with the number of its record
abbrev pub found_lines : ℕ → Machine → List ℕ → List ℕ → Found → List (List ℕ)
found_lines r m font file End = []
found_lines r m font file Bad = bad_line r ∷ []
found_lines r m font file (Record x) = record_lines r m font x.kind (part_of file x.start x.end)

-- the good records were `good`, and this was found at a place
abbrev pub after_found : List ℕ → List ℕ → ℕ → ℕ → Found → State → Progress
after_found font file at good End s = record { state = s; at = at; good = good; more = false }
after_found font file at good Bad s =
    let stopped : State = record { machine = s.machine; output = printed_all s.output (found_lines (following good) s.machine font file Bad) } in
    record { state = stopped; at = at; good = good; more = false }
after_found font file at good (Record r) s =
    let done = after_record (following good) font r.kind (part_of file r.start r.end) s in
    record { state = done; at = r.end; good = following good; more = true }

-- one record of a file that goes on
abbrev pub next_step : List ℕ → List ℕ → Progress → Progress
next_step font file p =
    when p.more then after_found font file p.at p.good (record_at file p.at) p.state else p

-- the lines that it prints
abbrev pub step_lines : List ℕ → List ℕ → Progress → List (List ℕ)
step_lines font file p =
    when p.more then found_lines (following p.good) p.state.machine font file (record_at file p.at) else []
