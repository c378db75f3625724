-- Reference, 'Refusals', 'Commands', 'Memory and cursor', 'Width', 'Glyphs' and 'Flashing'; 01, 'Both sides of each edge': the
-- cases marked *, each computed by the definitions from what a list of calls leaves, from reset beside any memory of 32,768
-- bytes.
use Rattle.std.specs.Prelude.{◌≡◌, ℕ, ◌%◌, List, [], ◌∷◌, ◌++◌, length, replicate, slice_index}
use Rattle.choice.specs.Choice.{when◌then◌else◌}
use Rattle.registers.specs.Sizes.{memory_size, font_size}
use Rattle.registers.specs.Layout.{in_layout}
use Rattle.row.specs.declared.Block.{Block}
use Rattle.row.specs.declared.Block.TheVariants.{One}
use Rattle.row.specs.declared.Glyph.{Glyph}
use Rattle.row.specs.declared.Glyph.TheVariants.{Empty, Font, CgRam}
use Rattle.row.specs.Glyphs.{glyph_of, font_index, cg_ram_address}
use Rattle.row.specs.Flashing.{is_lit}
use Rattle.row.specs.Rows.{row_answer}
use Rattle.model.specs.Machine.{Outcome}
use Rattle.model.specs.Calls.{BusCall, command, write, sending, call, after, reset}
use Rattle.model.specs.Refresh.{All}

-- What is observed after a call
pub data Observation : Type 0 where
  -- its refusal, 0 where it is taken
  refusal : Observation
  -- the cursor, and the byte at an address
  cursor : Observation
  byte : ℕ → Observation
  -- the refusal of row 0 with a buffer of a length and a font of 1,280 bytes, 0 where it is composed
  row0 : ℕ → Observation
  -- 1 where a block shows in a frame, else 0
  lit : Block → ℕ → Observation
  -- of glyph row 0 of a code: the index of its font byte, and its CG RAM address
  font_index_of : ℕ → Observation
  cg_ram_address_of : ℕ → Observation

-- past the font where a glyph is not of the font, past all addresses where it is not of CG RAM
abbrev pub index_in : Glyph → ℕ
index_in Empty = font_size
index_in (Font index) = font_index index 0
index_in CgRam = font_size

abbrev pub address_in : Glyph → ℕ → ℕ
address_in Empty address = 65536
address_in (Font index) address = 65536
address_in CgRam address = address % 65536

abbrev pub observed : Observation → Outcome → ℕ
observed refusal o = o.reply.refusal
observed cursor o = o.machine.controller.registers.cursor.address
observed (byte address) o = slice_index o.machine.memory address
observed (row0 buffer) o = (row_answer o.machine.controller.registers o.machine.memory (replicate font_size 0) 0 0 buffer).refusal
observed (lit block frame) o = when is_lit (in_layout o.machine.controller.registers).display.fp block frame then 1 else 0
observed (font_index_of code) o = index_in (glyph_of o.machine.controller.registers.system.m0 code)
observed (cg_ram_address_of code) o =
    let r = o.machine.controller.registers in
    address_in (glyph_of r.system.m0 code) (cg_ram_address r.system.m2 r.cgram code 0)

pub record Edge : Type 0 where
  pub before : List BusCall
  pub last : BusCall
  pub observation : Observation
  pub expected : ℕ

abbrev pub edge : List BusCall → BusCall → Observation → ℕ → Edge
edge before last observation expected = record { before = before; last = last; observation = observation; expected = expected }

abbrev pub right_at_7fff : List BusCall
right_at_7fff = sending 0x4C [] ++ sending 0x46 (0xFF ∷ 0x7F ∷ []) ++ sending 0x42 []

abbrev pub left_at_0000 : List BusCall
left_at_0000 = sending 0x4D [] ++ sending 0x46 (0 ∷ 0 ∷ []) ++ sending 0x42 []

abbrev pub up_at_0010 : List BusCall
up_at_0010 = sending 0x40 (0x10 ∷ 0 ∷ 0 ∷ 0 ∷ 0 ∷ 0 ∷ 0x28 ∷ 0 ∷ []) ++ sending 0x4E [] ++ sending 0x46 (0x10 ∷ 0 ∷ []) ++ sending 0x42 []

-- [FX] 8 and [FY] 8, with C/R and TC/R
abbrev pub columns : ℕ → ℕ → List BusCall
columns cr tcr = sending 0x40 (0x10 ∷ 7 ∷ 7 ∷ cr ∷ tcr ∷ [])

-- 2 bits a dot, all blocks graphics
abbrev pub two_bits : List BusCall
two_bits = sending 0x5B (0x0C ∷ []) ++ sending 0x60 (1 ∷ [])

abbrev pub edges : List Edge
edges =
    -- 41h: 2. 60h: taken
    edge [] (command 0x41) refusal 2
    ∷ edge [] (command 0x60) refusal 0
    -- SCROLL: the 10th data write is taken, the 11th gets 3
    ∷ edge (sending 0x44 (replicate 9 0)) (write 0) refusal 0
    ∷ edge (sending 0x44 (replicate 10 0)) (write 0) refusal 3
    -- GRAY 2 taken, 3 gets 4
    ∷ edge (sending 0x60 []) (write 2) refusal 0
    ∷ edge (sending 0x60 []) (write 3) refusal 4
    -- CRY code 1 taken, 0 gets 4
    ∷ edge (sending 0x5D (0 ∷ [])) (write 1) refusal 0
    ∷ edge (sending 0x5D (0 ∷ [])) (write 0) refusal 4
    -- write right at 7FFFh: stored, cursor 8000h
    ∷ edge right_at_7fff (write 0xA5) refusal 0
    ∷ edge right_at_7fff (write 0xA5) (byte 0x7FFF) 0xA5
    ∷ edge right_at_7fff (write 0xA5) cursor 0x8000
    -- the next: 7, cursor 8001h
    ∷ edge (right_at_7fff ++ (write 0xA5 ∷ [])) (write 0x5A) refusal 7
    ∷ edge (right_at_7fff ++ (write 0xA5 ∷ [])) (write 0x5A) (byte 0x7FFF) 0xA5
    ∷ edge (right_at_7fff ++ (write 0xA5 ∷ [])) (write 0x5A) cursor 0x8001
    -- write left at 0000h: cursor FFFFh
    ∷ edge left_at_0000 (write 0xA5) cursor 0xFFFF
    -- up from 0010h, AP 0028h: cursor FFE8h
    ∷ edge up_at_0010 (write 0xA5) cursor 0xFFE8
    -- C/R 27h: TC/R 2Bh passes, 2Ah gets 13
    ∷ edge (columns 0x27 0x2B) (write 0) (row0 320) 0
    ∷ edge (columns 0x27 0x2A) (write 0) (row0 320) 13
    -- period 32: frame 22 on, 23 off, 32 on
    ∷ edge (sending 0x59 []) (write 0x08) (lit One 22) 1
    ∷ edge (sending 0x59 []) (write 0x08) (lit One 23) 0
    ∷ edge (sending 0x59 []) (write 0x08) (lit One 32) 1
    -- period 4: 2 on, 3 off
    ∷ edge (sending 0x59 []) (write 0x0C) (lit One 2) 1
    ∷ edge (sending 0x59 []) (write 0x0C) (lit One 3) 0
    -- code 41h, glyph row 0: font byte 264
    ∷ edge [] (command 0x40) (font_index_of 0x41) 264
    -- code E0h, CGRAM ADR F900h, M2 = 0: address 0000h
    ∷ edge (sending 0x5C (0x00 ∷ [])) (write 0xF9) (cg_ram_address_of 0xE0) 0x0000
    -- [FX] 8, 1 bit: [C/R] 80 gives 640 dots, 81 gets 11
    ∷ edge (columns 79 83) (write 0) (row0 640) 0
    ∷ edge (columns 80 84) (write 0) (row0 648) 11
    -- 2 bits and 80 give 320
    ∷ edge (two_bits ++ columns 79 83) (write 0) (row0 320) 0
    -- asleep, 59h: 5 (#102: it sleeps only with D = 1)
    ∷ edge (sending 0x59 [] ++ sending 0x53 []) (command 0x59) refusal 5
    ∷ []

abbrev pub EdgesHold : Type 0
EdgesHold =
    (memory : List ℕ) → length memory ≡ memory_size
    → All (λ e. observed e.observation (call (after (reset memory) e.before) e.last) ≡ e.expected) edges
