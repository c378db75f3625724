-- A run: as many data writes of a list of bytes, from the first on, as go into memory and are accepted. 01 knows only single data
-- writes, and a run is so many of them.
use Rattle.std.specs.Prelude.{ℕ, suc, Bool, ◌&&◌, List, [], ◌∷◌, map, take}
use Rattle.choice.specs.Choice.{when◌then◌else◌}
use Rattle.registers.specs.declared.Command.TheVariants.{Mwrite}
use Rattle.model.specs.declared.Controller.{Controller}
use Rattle.model.specs.Machine.{Machine, machine}
use Rattle.model.specs.Bus.{sized, served, ◌serves◌, inside, data_write}
use Rattle.model.specs.Calls.{write, after}

-- a data write goes into memory and is accepted
unfoldable pub stores : Machine → Bool
stores m = sized m && served m.controller serves Mwrite && inside m

-- how many data writes do, one after the other, up to the first that does not
abbrev pub run_length : Machine → List ℕ → ℕ
run_length m [] = 0
run_length m (b ∷ bs) = when stores m then suc (run_length (data_write m b).machine bs) else 0

-- the machine that a run leaves, and how many bytes it took
pub record RunOutcome : Type 0 where
  pub machine : Machine
  pub length : ℕ

abbrev pub run_outcome : Machine → List ℕ → RunOutcome
run_outcome m bs =
    let n = run_length m bs in
    record { machine = after m (map write (take n bs)); length = n }

-- the outcome that the code's answer stands for, with the controller and the memory as it leaves them
abbrev pub write_run_outcome : Controller → ℕ → List ℕ → RunOutcome
write_run_outcome c length memory = record { machine = machine c memory; length = length }
