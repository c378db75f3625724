-- Reference, 'Commands', 'Memory and cursor' and 'Refusals'; 01, 'Refusal numbers' and 'Reset, commands and parameters', and request
-- #102: what a command write, a data write and a data read do.
use Rattle.std.specs.Prelude.{ℕ, ◌+◌, ◌/◌, ◌%◌, Bool, false, not, ◌&&◌, Option, None, Some, length, slice_index, slice_set}
use Rattle.registers.specs.declared.Command.{Command}
use Rattle.registers.specs.declared.Command.TheVariants.{SystemSet, SleepIn, Csrr, Mwrite, Mread}
use Rattle.choice.specs.Choice.{when◌then◌else◌, ◌<?◌, ◌=?◌}
use Rattle.registers.specs.Commands.{command_of, ◌is◌, parameters}
use Rattle.registers.specs.Parameters.{begin, store, allowed}
use Rattle.registers.specs.Cursor.{move_cursor}
use Rattle.registers.specs.Sizes.{memory_size}
use Rattle.model.specs.declared.Controller.{Controller}
use Rattle.model.specs.Machine.{Machine, Outcome, accept, give, refuse, controller, ended}

infix 45 ◌serves◌
-- asleep, only 40h is taken
unfoldable pub ignored : Command → Bool → Bool
ignored command asleep = not (command is SystemSet) && asleep

-- #102: SLEEP IN with D = 0
unfoldable pub display_off : Command → Bool → Bool
display_off command on = command is SleepIn && not on

-- An accepted command byte replaces the pending command; parameters already taken stay. A command write tests 2, 5, 19.
unfoldable pub take_command : Option Command → Machine → ℕ → Outcome
take_command None m b = refuse 2 (ended m.controller) m.memory
take_command (Some command) m b =
    let c = m.controller in
    when ignored command c.registers.asleep then refuse 5 (ended c) m.memory
    else when display_off command c.registers.display.on then refuse 19 (ended c) m.memory
    else accept (controller (begin command b c.registers) (Some command) 0) m.memory

unfoldable pub command_write : Machine → ℕ → Outcome
command_write m b = take_command (command_of b) m b

-- asleep, a pending command other than 40h wants nothing and has nothing to read
abbrev pub kept : Bool → Option Command → Option Command
kept asleep None = None
kept asleep (Some command) = when ignored command asleep then None else Some command

unfoldable pub served : Controller → Option Command
served c = kept c.registers.asleep c.pending.command

-- what is served is a command
abbrev pub ◌serves◌ : Option Command → Command → Bool
None serves d = false
Some c serves d = c is d

-- memory of the size that refusal 1 tests
abbrev pub sized : Machine → Bool
sized m = length m.memory =? memory_size

-- each memory write or read acts at the cursor, then moves it
abbrev pub accessed : Controller → Controller
accessed c = controller (move_cursor c.registers) c.pending.command c.pending.place

-- below 8000h, where memory ends
abbrev pub inside : Machine → Bool
inside m = m.controller.registers.cursor.address <? length m.memory

unfoldable pub write_memory : Machine → ℕ → Outcome
write_memory m b =
    let c = m.controller in
    when inside m then accept (accessed c) (slice_set m.memory c.registers.cursor.address b)
    else refuse 7 (accessed c) m.memory

-- each parameter takes effect when it arrives
unfoldable pub write_parameter : Command → Machine → ℕ → Outcome
write_parameter command m b =
    let c = m.controller in
    let place = c.pending.place in
    when allowed command place b
    then accept (controller (store command place b c.registers) c.pending.command (place + 1)) m.memory
    else refuse 4 (ended c) m.memory

-- A data write tests 1, 3, then 4 or 7. A place past the end of a parameter list wants nothing.
unfoldable pub write_data : Option Command → Machine → ℕ → Outcome
write_data None m b = refuse 3 m.controller m.memory
write_data (Some command) m b =
    when command is Mwrite then write_memory m b
    else when m.controller.pending.place <? parameters command then write_parameter command m b
    else refuse 3 m.controller m.memory

unfoldable pub data_write : Machine → ℕ → Outcome
data_write m b = when not (sized m) then refuse 1 m.controller m.memory else write_data (served m.controller) m b

unfoldable pub read_memory : Machine → Outcome
read_memory m =
    let c = m.controller in
    when inside m then give (slice_index m.memory c.registers.cursor.address) (accessed c) m.memory
    else refuse 7 (accessed c) m.memory

-- CSRR has two reads
unfoldable pub cursor_reads : Command → ℕ
cursor_reads command = when command is Csrr then 2 else 0

-- cursor low, high
unfoldable pub address_byte : ℕ → ℕ → ℕ
address_byte address place = when place =? 0 then address % 256 else address / 256

-- CSRR doesn't move the cursor
unfoldable pub read_cursor : Machine → Outcome
read_cursor m =
    let c = m.controller in
    let place = c.pending.place in
    give (address_byte c.registers.cursor.address place) (controller c.registers c.pending.command (place + 1)) m.memory

-- A read tests 1, 6, 7.
unfoldable pub read_data : Option Command → Machine → Outcome
read_data None m = refuse 6 m.controller m.memory
read_data (Some command) m =
    when command is Mread then read_memory m
    else when m.controller.pending.place <? cursor_reads command then read_cursor m
    else refuse 6 m.controller m.memory

unfoldable pub data_read : Machine → Outcome
data_read m = when not (sized m) then refuse 1 m.controller m.memory else read_data (served m.controller) m
