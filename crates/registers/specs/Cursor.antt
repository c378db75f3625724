-- Reference, 'Memory and cursor'; 01, 'Reset, commands and parameters': each memory write or read moves the cursor by +1, -1, -AP
-- or +AP, modulo 65,536.
use Rattle.std.specs.Prelude.{ℕ, ◌+◌, ◌-◌, ◌%◌}
use Rattle.registers.specs.declared.Direction.{Direction}
use Rattle.registers.specs.declared.Direction.TheVariants.{Right, Left, Up, Down}
use Rattle.registers.specs.declared.Cursor.{Cursor}
use Rattle.registers.specs.declared.Registers.{Registers}

unfoldable pub next_address : Direction → ℕ → ℕ → ℕ
next_address Right ap address = (address + 1) % 65536
next_address Left ap address = (address + 65536 - 1) % 65536
next_address Up ap address = (address + 65536 - ap) % 65536
next_address Down ap address = (address + ap) % 65536

abbrev pub next_cursor : ℕ → Cursor → Cursor
next_cursor ap c = record { address = next_address c.direction ap c.address; direction = c.direction }

-- registers with another cursor
abbrev pub with_cursor : Cursor → Registers → Registers
with_cursor c r =
    record {
      system = r.system;
      display = r.display;
      blocks = r.blocks;
      form = r.form;
      overlay = r.overlay;
      cgram = r.cgram;
      hdot = r.hdot;
      grey = r.grey;
      cursor = c;
      asleep = r.asleep;
    }

abbrev pub move_cursor : Registers → Registers
move_cursor r = with_cursor (next_cursor r.system.ap r.cursor) r
