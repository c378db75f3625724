-- Reference, 'The library': what its functions answer, and what they leave of the bytes lent to them.
use Rattle.std.specs.Prelude.{ℕ, ◌+◌, ◌*◌, List, length}
use Rattle.choice.specs.Choice.{when◌then◌else◌, ◌=?◌}
use Rattle.registers.specs.Refusals.{Reply}
use Rattle.row.specs.Rows.{RowOutcome, row_outcome, frame_size}
use Rattle.model.specs.Machine.{Machine, machine, reset_controller}
use Rattle.model.specs.Calls.{BusCall, call}
use Rattle.host.specs.Saved.{is_saved, controller_of, saved_bytes}

pub record Returned : Type 0 where
  pub answer : ℕ
  pub controller : List ℕ
  pub memory : List ℕ

abbrev pub returned : ℕ → List ℕ → List ℕ → Returned
returned answer controller memory = record { answer = answer; controller = controller; memory = memory }

-- an answer, and a machine whose controller is saved
abbrev pub saving : ℕ → Machine → Returned
saving answer m = returned answer (saved_bytes m.controller) m.memory

-- the answer where the bytes are no saved controller; no refusal has this number
abbrev pub no_controller : ℕ
no_controller = 255

-- reset takes 48 bytes of any content
abbrev pub after_reset : List ℕ → List ℕ → Returned
after_reset s memory = when length s =? 48 then saving 0 (machine reset_controller memory) else returned no_controller s memory

-- the refusal's number, 0 where there is none, and above it the value read
abbrev pub answer_of : Reply → ℕ
answer_of a = a.refusal + 256 * a.value

-- a command write, a data write or a data read on the controller that the bytes are; where they are none, nothing changes
abbrev pub after_call : List ℕ → List ℕ → BusCall → Returned
after_call s memory c =
    when is_saved s then (let o = call (machine (controller_of s) memory) c in saving (answer_of o.reply) o.machine)
    else returned no_controller s memory

-- a row, and what it leaves in its buffer
abbrev pub row_returned : ℕ → List ℕ → RowOutcome
row_returned answer dots = record { refusal = answer; buffer = dots }

abbrev pub after_row : List ℕ → List ℕ → List ℕ → ℕ → ℕ → List ℕ → RowOutcome
after_row s memory font frame row dots =
    when is_saved s then row_outcome (controller_of s).registers memory font frame row dots
    else row_returned no_controller dots

-- the size of a frame; 0 where the bytes are no saved controller
abbrev pub frame_size_returned : List ℕ → ℕ
frame_size_returned s = when is_saved s then (let size = frame_size (controller_of s).registers in size.width + 65536 * size.rows.0) else 0
