-- Reference, 'The library': a controller as 48 bytes, words low byte first, a flag 0 or 1.
use Rattle.std.specs.Prelude.{ℕ, ◌+◌, ◌*◌, ◌/◌, ◌%◌, ◌<◌, Bool, true, ◌&&◌, Option, None, Some, List, [], ◌∷◌, ◌≡◌, length, get_or}
use Rattle.choice.specs.Choice.{when◌then◌else◌, ◌<?◌, ◌=?◌}
use Rattle.registers.specs.declared.Direction.{Direction}
use Rattle.registers.specs.declared.Direction.TheVariants.{Right, Left, Up, Down}
use Rattle.registers.specs.declared.Code.{Code}
use Rattle.registers.specs.declared.System.{System}
use Rattle.registers.specs.declared.Blocks.{Blocks}
use Rattle.registers.specs.declared.Registers.{Registers}
use Rattle.registers.specs.Commands.{command_of}
use Rattle.registers.specs.Counts.{code_of}
use Rattle.registers.specs.Parameters.{direction_of}
use Rattle.registers.specs.Pending.{pending_code}
use Rattle.model.specs.declared.Controller.{Controller}
use Rattle.model.specs.Refresh.{All, Byte}

-- Reading. What is outside its layout is read as 0: a flag above 1, a direction above 3, a pending code that is no command's

abbrev pub byte_at : List ℕ → ℕ → ℕ
byte_at s i = get_or s i 0

-- 48 bytes whose format is 1
unfoldable pub is_saved : List ℕ → Bool
is_saved s = length s =? 48 && byte_at s 0 =? 1

abbrev pub flag_at : List ℕ → ℕ → Bool
flag_at s i = byte_at s i =? 1

abbrev pub code_at : List ℕ → ℕ → Code
code_at s i = code_of (byte_at s i)

abbrev pub word_at : List ℕ → ℕ → ℕ
word_at s i = byte_at s i + 256 * byte_at s (i + 1)

-- in the order of 4C to 4F
unfoldable pub direction_numbered : ℕ → Direction
direction_numbered n = when n <? 4 then direction_of (0x4C + n) else Right

abbrev pub system_of : List ℕ → System
system_of s =
    record {
      iv = flag_at s 4;
      ws = flag_at s 5;
      m2 = flag_at s 6;
      m0 = flag_at s 7;
      wf = flag_at s 8;
      fx = code_at s 9;
      fy = code_at s 10;
      cr = code_at s 11;
      tcr = code_at s 12;
      lf = code_at s 13;
      ap = word_at s 14;
    }

abbrev pub blocks_of : List ℕ → Blocks
blocks_of s =
    record {
      sad1 = word_at s 19;
      sl1 = code_at s 21;
      sad2 = word_at s 22;
      sl2 = code_at s 24;
      sad3 = word_at s 25;
      sad4 = word_at s 27;
    }

abbrev pub registers_of : List ℕ → Registers
registers_of s =
    record {
      system = system_of s;
      display = record { on = flag_at s 16; fp = byte_at s 17; fc = byte_at s 18 };
      blocks = blocks_of s;
      form = record { crx = code_at s 29; cm = flag_at s 30; cry = code_at s 31 };
      overlay = record { ov = flag_at s 32; dm2 = flag_at s 33; dm1 = flag_at s 34; mx = byte_at s 35 };
      cgram = word_at s 36;
      hdot = byte_at s 38;
      grey = byte_at s 39;
      cursor = record { address = word_at s 40; direction = direction_numbered (byte_at s 42) };
      asleep = flag_at s 1;
    }

unfoldable pub controller_of : List ℕ → Controller
controller_of s = record { registers = registers_of s; pending = record { command = command_of (byte_at s 2); place = byte_at s 3 } }

-- the controller that bytes are a saved form of, where they are one
abbrev pub saved_controller : List ℕ → Option Controller
saved_controller s = when is_saved s then Some (controller_of s) else None

-- Saving. A pending command is the first code of its row of the command table, 0 where there is none

abbrev pub flag : Bool → ℕ
flag b = when b then 1 else 0

abbrev pub low : ℕ → ℕ
low w = w % 256

abbrev pub high : ℕ → ℕ
high w = w / 256

abbrev pub direction_number : Direction → ℕ
direction_number Right = 0
direction_number Left = 1
direction_number Up = 2
direction_number Down = 3

unfoldable pub saved_bytes : Controller → List ℕ
saved_bytes c =
    let r = c.registers in
    let s = r.system in
    let b = r.blocks in
    -- 0: format, asleep, pending command, its place
    1 ∷ flag r.asleep ∷ pending_code c.pending.command ∷ c.pending.place
    -- 4: IV, W/S, M2, M0, WF
    ∷ flag s.iv ∷ flag s.ws ∷ flag s.m2 ∷ flag s.m0 ∷ flag s.wf
    -- 9: FX, FY, C/R, TC/R, L/F
    ∷ s.fx.0 ∷ s.fy.0 ∷ s.cr.0 ∷ s.tcr.0 ∷ s.lf.0
    -- 14: AP
    ∷ low s.ap ∷ high s.ap
    -- 16: D, FP, FC
    ∷ flag r.display.on ∷ r.display.fp ∷ r.display.fc
    -- 19: SAD1, SL1
    ∷ low b.sad1 ∷ high b.sad1 ∷ b.sl1.0
    -- 22: SAD2, SL2
    ∷ low b.sad2 ∷ high b.sad2 ∷ b.sl2.0
    -- 25: SAD3, SAD4
    ∷ low b.sad3 ∷ high b.sad3 ∷ low b.sad4 ∷ high b.sad4
    -- 29: CRX, CM, CRY
    ∷ r.form.crx.0 ∷ flag r.form.cm ∷ r.form.cry.0
    -- 32: OV, DM2, DM1, MX
    ∷ flag r.overlay.ov ∷ flag r.overlay.dm2 ∷ flag r.overlay.dm1 ∷ r.overlay.mx
    -- 36: CGRAM ADR
    ∷ low r.cgram ∷ high r.cgram
    -- 38: HDOT SCR, grey code
    ∷ r.hdot ∷ r.grey
    -- 40: cursor, direction
    ∷ low r.cursor.address ∷ high r.cursor.address ∷ direction_number r.cursor.direction
    -- 43: reserved
    ∷ 0 ∷ 0 ∷ 0 ∷ 0 ∷ 0 ∷ []

-- Bytes in their layout: a saved controller that has nothing which is read as something else

-- asleep; IV, W/S, M2, M0, WF; D; CM; OV, DM2, DM1
abbrev pub flag_places : List ℕ
flag_places = 1 ∷ 4 ∷ 5 ∷ 6 ∷ 7 ∷ 8 ∷ 16 ∷ 30 ∷ 32 ∷ 33 ∷ 34 ∷ []

abbrev pub reserved_places : List ℕ
reserved_places = 43 ∷ 44 ∷ 45 ∷ 46 ∷ 47 ∷ []

pub record InLayout (s : List ℕ) : Type 0 where
  pub saved : is_saved s ≡ true
  pub flags : All (λ i. byte_at s i < 2) flag_places
  pub pending : pending_code (command_of (byte_at s 2)) ≡ byte_at s 2
  pub direction : byte_at s 42 < 4
  pub reserved : All (λ i. byte_at s i ≡ 0) reserved_places

-- Reading what was saved gives the same controller, what is saved is in its layout, and saving what was read gives the same bytes where they are
pub record SavedForm : Type 0 where
  pub saved_read : (c : Controller) → controller_of (saved_bytes c) ≡ c
  pub saved_in_layout : (c : Controller) → InLayout (saved_bytes c)
  pub read_saved : (s : List ℕ) → All Byte s → InLayout s → saved_bytes (controller_of s) ≡ s
