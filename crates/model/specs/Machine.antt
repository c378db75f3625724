-- Reference, 'Reset'; 01, 'What the model is' and 'Reset, commands and parameters': a controller beside its memory, and what a
-- call gives.
use Rattle.std.specs.Prelude.{ℕ, List, Option, None, Result}
use Rattle.registers.specs.declared.Command.{Command}
use Rattle.registers.specs.declared.Refusal.{Refusal}
use Rattle.registers.specs.declared.Registers.{Registers}
use Rattle.registers.specs.Parameters.{reset_registers}
use Rattle.registers.specs.Refusals.{Reply, accepted, valued, refused, reply, read_reply}
use Rattle.model.specs.declared.Controller.{Controller}

pub record Machine : Type 0 where
  pub controller : Controller
  pub memory : List ℕ

-- what a call leaves, and what it answers
pub record Outcome : Type 0 where
  pub machine : Machine
  pub reply : Reply

abbrev pub machine : Controller → List ℕ → Machine
machine c memory = record { controller = c; memory = memory }

abbrev pub accept : Controller → List ℕ → Outcome
accept c memory = record { machine = machine c memory; reply = accepted }

abbrev pub give : ℕ → Controller → List ℕ → Outcome
give v c memory = record { machine = machine c memory; reply = valued v }

abbrev pub refuse : ℕ → Controller → List ℕ → Outcome
refuse n c memory = record { machine = machine c memory; reply = refused n }

-- the outcome that the code's answer stands for, with the controller and the memory as it leaves them
abbrev pub written_outcome : Controller → Result Unit Refusal → List ℕ → Outcome
written_outcome c answer memory = record { machine = machine c memory; reply = reply answer }

abbrev pub read_outcome : Controller → Result ℕ Refusal → List ℕ → Outcome
read_outcome c answer memory = record { machine = machine c memory; reply = read_reply answer }

abbrev pub controller : Registers → Option Command → ℕ → Controller
controller registers command place =
    record { registers = registers; pending = record { command = command; place = place } }

-- Reset: no command pending
abbrev pub reset_controller : Controller
reset_controller = controller reset_registers None 0

-- another command pending, or none, at the start of its list
abbrev pub with_pending : Option Command → Controller → Controller
with_pending command c = controller c.registers command 0

-- the pending command ends
abbrev pub ended : Controller → Controller
ended c = with_pending None c
