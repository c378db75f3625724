-- Reference, 'Commands' and 'Reset'; 01, the command table and reset, and request #102: what each parameter sets and which values it
-- allows, what a command byte sets at once, and what reset leaves. Written by field: where it stands in its command's list (P1 is
-- place 0), and which bits it is.
use Rattle.std.specs.Prelude.{ℕ, ◌+◌, ◌-◌, ◌*◌, ◌/◌, ◌%◌, ◌^◌, Bool, true, false, not, ◌&&◌}
use Rattle.choice.specs.Choice.{when◌then◌else◌, ◌=?◌}
use Rattle.registers.specs.Counts.{code_of}
use Rattle.registers.specs.Commands.{◌is◌}
use Rattle.registers.specs.declared.Command.{Command}
use Rattle.registers.specs.declared.Command.TheVariants.{SystemSet, SleepIn, Disp, Scroll, CsrForm, CsrDir, Ovlay, CgramAdr, HdotScr, GrayScale, Csrw}
use Rattle.registers.specs.declared.Direction.{Direction}
use Rattle.registers.specs.declared.Direction.TheVariants.{Right, Left, Up, Down}
use Rattle.registers.specs.declared.System.{System}
use Rattle.registers.specs.declared.Display.{Display}
use Rattle.registers.specs.declared.Blocks.{Blocks}
use Rattle.registers.specs.declared.CursorForm.{CursorForm}
use Rattle.registers.specs.declared.Overlay.{Overlay}
use Rattle.registers.specs.declared.Registers.{Registers}

-- Bits

-- bits `high` to `low` of a byte
abbrev pub bits : ℕ → ℕ → ℕ → ℕ
bits high low b = b / 2 ^ low % 2 ^ (high + 1 - low)

abbrev pub bit : ℕ → ℕ → Bool
bit k b = bits k k b =? 1

abbrev pub are_zero : ℕ → ℕ → ℕ → Bool
are_zero high low b = bits high low b =? 0

-- a two-byte register after its low byte came, and after its high byte came
unfoldable pub with_low : ℕ → ℕ → ℕ
with_low x b = x / 256 * 256 + b

unfoldable pub with_high : ℕ → ℕ → ℕ
with_high x b = b * 256 + x % 256

-- a two-byte register whose low byte comes at place k, and whose high byte comes next
abbrev pub store_word : ℕ → ℕ → ℕ → ℕ → ℕ
store_word k place b x =
    when place =? k then with_low x b
    else when place =? k + 1 then with_high x b
    else x

-- What a parameter sets

-- P1: 5 IV, 3 W/S, 2 M2, 0 M0. P2: 7 WF, 3-0 FX. P3: 3-0 FY. P4 C/R, P5 TC/R, P6 L/F, P7 AP low, P8 AP high
unfoldable pub store_system : ℕ → ℕ → System → System
store_system place b s =
    record {
      iv = when place =? 0 then bit 5 b else s.iv;
      ws = when place =? 0 then bit 3 b else s.ws;
      m2 = when place =? 0 then bit 2 b else s.m2;
      m0 = when place =? 0 then bit 0 b else s.m0;
      wf = when place =? 1 then bit 7 b else s.wf;
      fx = when place =? 1 then code_of (bits 3 0 b) else s.fx;
      fy = when place =? 2 then code_of (bits 3 0 b) else s.fy;
      cr = when place =? 3 then code_of b else s.cr;
      tcr = when place =? 4 then code_of b else s.tcr;
      lf = when place =? 5 then code_of b else s.lf;
      ap = store_word 6 place b s.ap;
    }

-- D set to a value
abbrev pub with_on : Bool → Display → Display
with_on on d = record { on = on; fp = d.fp; fc = d.fc }

-- P1: 7-2 FP5..FP0, 1-0 FC
unfoldable pub store_display : ℕ → ℕ → Display → Display
store_display place b d =
    record {
      on = d.on;
      fp = when place =? 0 then bits 7 2 b else d.fp;
      fc = when place =? 0 then bits 1 0 b else d.fc;
    }

-- SAD1 low, high, SL1, SAD2 low, high, SL2, SAD3 low, high, SAD4 low, high
unfoldable pub store_blocks : ℕ → ℕ → Blocks → Blocks
store_blocks place b s =
    record {
      sad1 = store_word 0 place b s.sad1;
      sl1 = when place =? 2 then code_of b else s.sl1;
      sad2 = store_word 3 place b s.sad2;
      sl2 = when place =? 5 then code_of b else s.sl2;
      sad3 = store_word 6 place b s.sad3;
      sad4 = store_word 8 place b s.sad4;
    }

-- P1: CRX. P2: 7 CM, CRY
unfoldable pub store_form : ℕ → ℕ → CursorForm → CursorForm
store_form place b f =
    record {
      crx = when place =? 0 then code_of (bits 3 0 b) else f.crx;
      cm = when place =? 1 then bit 7 b else f.cm;
      cry = when place =? 1 then code_of (bits 3 0 b) else f.cry;
    }

-- 4 OV, 3 DM2, 2 DM1, 1-0 MX
unfoldable pub store_overlay : ℕ → ℕ → Overlay → Overlay
store_overlay place b o =
    record {
      ov = when place =? 0 then bit 4 b else o.ov;
      dm2 = when place =? 0 then bit 3 b else o.dm2;
      dm1 = when place =? 0 then bit 2 b else o.dm1;
      mx = when place =? 0 then bits 1 0 b else o.mx;
    }

-- asleep, the accepted P1 of SYSTEM SET wakes the chip
abbrev pub wakes : Command → ℕ → Registers → Bool
wakes command place r = command is SystemSet && place =? 0 && r.asleep

-- the parameter b at a place of a command's list; #102: the P1 that wakes the chip also sets D to 0
unfoldable pub store : Command → ℕ → ℕ → Registers → Registers
store command place b r =
    record {
      system = when command is SystemSet then store_system place b r.system else r.system;
      display =
          when wakes command place r then with_on false r.display
          else when command is Disp then store_display place b r.display
          else r.display;
      blocks = when command is Scroll then store_blocks place b r.blocks else r.blocks;
      form = when command is CsrForm then store_form place b r.form else r.form;
      overlay = when command is Ovlay then store_overlay place b r.overlay else r.overlay;
      cgram = when command is CgramAdr then store_word 0 place b r.cgram else r.cgram;
      hdot = when command is HdotScr && place =? 0 then bits 2 0 b else r.hdot;
      grey = when command is GrayScale && place =? 0 then bits 1 0 b else r.grey;
      cursor =
          record {
            address = when command is Csrw then store_word 0 place b r.cursor.address else r.cursor.address;
            direction = r.cursor.direction;
          };
      asleep = when wakes command place r then false else r.asleep;
    }

-- What a command byte sets at once

-- right, left, up, down
unfoldable pub direction_of : ℕ → Direction
direction_of b = when b =? 0x4C then Right else when b =? 0x4D then Left else when b =? 0x4E then Up else Down

-- SLEEP IN: asleep at once. DISP OFF, ON: D is 0 or 1 at once. CSRDIR: the direction
unfoldable pub begin : Command → ℕ → Registers → Registers
begin command b r =
    record {
      system = r.system;
      display = when command is Disp then with_on (b =? 0x59) r.display else r.display;
      blocks = r.blocks;
      form = r.form;
      overlay = r.overlay;
      cgram = r.cgram;
      hdot = r.hdot;
      grey = r.grey;
      cursor =
          record {
            address = r.cursor.address;
            direction = when command is CsrDir then direction_of b else r.cursor.direction;
          };
      asleep = when command is SleepIn then true else r.asleep;
    }

-- Which values are allowed

-- P1: bits 7, 6, 1 zero, 4 one. P2: 6-4 zero. P3: 7-4 zero
unfoldable pub system_allows : ℕ → ℕ → Bool
system_allows place b =
    when place =? 0 then are_zero 7 6 b && bit 4 b && are_zero 1 1 b
    else when place =? 1 then are_zero 6 4 b
    else when place =? 2 then are_zero 7 4 b
    else true

-- P1: 7-4 zero. P2: 6-4 zero; CRY 0 not allowed
unfoldable pub form_allows : ℕ → ℕ → Bool
form_allows place b =
    when place =? 0 then are_zero 7 4 b
    else when place =? 1 then are_zero 6 4 b && not (are_zero 3 0 b)
    else true

-- OVLAY: 7-5 zero. HDOT SCR: 7-3 zero. GRAY SCALE: 7-2 zero; 3 not allowed
unfoldable pub allowed : Command → ℕ → ℕ → Bool
allowed command place b =
    when command is SystemSet then system_allows place b
    else when command is CsrForm then form_allows place b
    else when command is Ovlay then are_zero 7 5 b
    else when command is HdotScr then are_zero 7 3 b
    else when command is GrayScale then are_zero 7 2 b && not (b =? 3)
    else true

-- Reset: awake, every register and the cursor 0, direction right, display off
abbrev pub reset_registers : Registers
reset_registers =
    record {
      system =
          record {
            iv = false;
            ws = false;
            m2 = false;
            m0 = false;
            wf = false;
            fx = code_of 0;
            fy = code_of 0;
            cr = code_of 0;
            tcr = code_of 0;
            lf = code_of 0;
            ap = 0;
          };
      display = record { on = false; fp = 0; fc = 0 };
      blocks = record { sad1 = 0; sl1 = code_of 0; sad2 = 0; sl2 = code_of 0; sad3 = 0; sad4 = 0 };
      form = record { crx = code_of 0; cm = false; cry = code_of 0 };
      overlay = record { ov = false; dm2 = false; dm1 = false; mx = 0 };
      cgram = 0;
      hdot = 0;
      grey = 0;
      cursor = record { address = 0; direction = Right };
      asleep = false;
    }
