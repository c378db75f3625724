-- Reference, 'Scrolling'; request #101, as a statement about accepted rows: `scrolled_part` in proofs/Scrolling.
use Rattle.std.specs.Prelude.{◌≡◌, ℕ, List, take, drop}
use Rattle.registers.specs.declared.Registers.{Registers}
use Rattle.registers.specs.Layout.{in_layout}
use Rattle.row.specs.Dots.{width, dots}
use Rattle.row.specs.Rows.{row_answer}

-- the same registers with HDOT SCR 0
abbrev pub unscrolled : Registers → Registers
unscrolled r =
    record {
      system = r.system;
      display = r.display;
      blocks = r.blocks;
      form = r.form;
      overlay = r.overlay;
      cgram = r.cgram;
      hdot = 0;
      grey = r.grey;
      cursor = r.cursor;
      asleep = r.asleep;
    }

-- an accepted row is the part from dot HDOT SCR on of the row that those registers give
abbrev pub ScrolledPart : Type 0
ScrolledPart =
    (registers : Registers) (memory font : List ℕ) (frame n buffer_length : ℕ)
    → let row = row_answer registers memory font frame n buffer_length in
    let r = in_layout registers in
    row.refusal ≡ 0 → row.dots ≡ take (width r) (drop r.hdot (dots (unscrolled r) memory font frame n))
