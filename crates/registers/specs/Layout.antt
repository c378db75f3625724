-- Reference, 'Reset'; 01, 'Reset, commands and parameters': a field handed in outside its layout, or a grey code of 3, is read
-- as 0.
use Rattle.std.specs.Prelude.{ℕ}
use Rattle.choice.specs.Choice.{when◌then◌else◌, ◌<?◌}
use Rattle.registers.specs.Counts.{code_of}
use Rattle.registers.specs.declared.System.{System}
use Rattle.registers.specs.declared.Display.{Display}
use Rattle.registers.specs.declared.CursorForm.{CursorForm}
use Rattle.registers.specs.declared.Overlay.{Overlay}
use Rattle.registers.specs.declared.Registers.{Registers}

unfoldable pub field : ℕ → ℕ → ℕ
field limit v = when v <? limit then v else 0

abbrev pub system_in_layout : System → System
system_in_layout s =
    record {
      iv = s.iv;
      ws = s.ws;
      m2 = s.m2;
      m0 = s.m0;
      wf = s.wf;
      fx = code_of (field 16 s.fx.0);
      fy = code_of (field 16 s.fy.0);
      cr = s.cr;
      tcr = s.tcr;
      lf = s.lf;
      ap = s.ap;
    }

abbrev pub display_in_layout : Display → Display
display_in_layout d = record { on = d.on; fp = field 64 d.fp; fc = field 4 d.fc }

abbrev pub form_in_layout : CursorForm → CursorForm
form_in_layout f = record { crx = code_of (field 16 f.crx.0); cm = f.cm; cry = code_of (field 16 f.cry.0) }

abbrev pub overlay_in_layout : Overlay → Overlay
overlay_in_layout o = record { ov = o.ov; dm2 = o.dm2; dm1 = o.dm1; mx = field 4 o.mx }

unfoldable pub in_layout : Registers → Registers
in_layout r =
    record {
      system = system_in_layout r.system;
      display = display_in_layout r.display;
      blocks = r.blocks;
      form = form_in_layout r.form;
      overlay = overlay_in_layout r.overlay;
      cgram = r.cgram;
      hdot = field 8 r.hdot;
      grey = field 3 r.grey;
      cursor = r.cursor;
      asleep = r.asleep;
    }
