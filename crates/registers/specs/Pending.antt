-- Reference, 'Commands': what is pending is a command or none. None has the code 0, which is no command's, and takes no parameters; any byte is allowed as one, and
-- sets nothing.
use Rattle.std.specs.Prelude.{ℕ, Bool, true, Option, None, Some}
use Rattle.registers.specs.declared.Command.{Command}
use Rattle.registers.specs.declared.Registers.{Registers}
use Rattle.registers.specs.Commands.{code, parameters}
use Rattle.registers.specs.Parameters.{allowed, begin, store}

abbrev pub pending_code : Option Command → ℕ
pending_code None = 0
pending_code (Some command) = code command

abbrev pub pending_parameters : Option Command → ℕ
pending_parameters None = 0
pending_parameters (Some command) = parameters command

abbrev pub pending_allowed : Option Command → ℕ → ℕ → Bool
pending_allowed None place b = true
pending_allowed (Some command) place b = allowed command place b

abbrev pub begin_pending : Option Command → ℕ → Registers → Registers
begin_pending None b r = r
begin_pending (Some command) b r = begin command b r

abbrev pub store_pending : Option Command → ℕ → ℕ → Registers → Registers
store_pending None place b r = r
store_pending (Some command) place b r = store command place b r
