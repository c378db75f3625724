-- Reference, 'Refusals'; 01, 'Refusal numbers', and request #101: a row tests 1, then 8 to 17 in number order, with 18 after 10.
use Rattle.std.specs.Prelude.{ℕ, ◌+◌, ◌%◌, Bool, not, ◌&&◌, ◌||◌}
use Rattle.registers.specs.declared.Code.{Code}
use Rattle.registers.specs.declared.Blocks.{Blocks}
use Rattle.registers.specs.declared.CursorForm.{CursorForm}
use Rattle.registers.specs.declared.Overlay.{Overlay}
use Rattle.registers.specs.declared.Registers.{Registers}
use Rattle.choice.specs.Choice.{when◌then◌else◌, ◌<?◌, ◌≤?◌, ◌=?◌}
use Rattle.registers.specs.Counts.{⁅◌⁆}
use Rattle.registers.specs.Sizes.{memory_size, font_size}
use Rattle.row.specs.Layers.{dm11, three_layers}
use Rattle.row.specs.Dots.{width}

-- 9: grey set and (DM not 11 or [FX] not 8)
unfoldable pub grey_mode : ℕ → Overlay → Code → Bool
grey_mode grey o fx = not (grey =? 0) && not (dm11 o && ⁅ fx ⁆ =? 8)

-- 18: HDOT SCR not 0, and (grey set, HDOT SCR at least [FX], or [C/R] 1)
unfoldable pub smooth_scroll : ℕ → ℕ → Code → Code → Bool
smooth_scroll hdot grey fx cr = not (hdot =? 0) && (not (grey =? 0) || ⁅ fx ⁆ ≤? hdot || ⁅ cr ⁆ =? 1)

-- 12: W/S = 1 and [L/F] odd
unfoldable pub odd_lines : Bool → Code → Bool
odd_lines ws lf = ws && ⁅ lf ⁆ % 2 =? 1

-- 14: W/S = 0, two layers, SL2 below SL1, DM not 11
unfoldable pub layer_order : Bool → Overlay → Blocks → Bool
layer_order ws o b = not ws && not (three_layers ws o) && b.sl2.0 <? b.sl1.0 && not (dm11 o)

-- 15: FC not 00, and (CRY code 0 or [CRX] above [FX])
unfoldable pub cursor_shape : ℕ → CursorForm → Code → Bool
cursor_shape fc f fx = not (fc =? 0) && (f.cry.0 =? 0 || ⁅ fx ⁆ <? ⁅ f.crx ⁆)

-- the refusal of row n, or 0
unfoldable pub row_refusal : Registers → ℕ → ℕ → ℕ → ℕ → ℕ
row_refusal r memory_length font_length n buffer_length =
    let s = r.system in
    when not (memory_length =? memory_size) then 1
    else when not (font_length =? font_size) then 8
    else when grey_mode r.grey r.overlay s.fx then 9
    else when 8 <? ⁅ s.fx ⁆ then 10
    else when smooth_scroll r.hdot r.grey s.fx s.cr then 18
    else when 640 <? width r then 11
    else when odd_lines s.ws s.lf then 12
    else when s.tcr.0 <? s.cr.0 + 4 then 13
    else when layer_order s.ws r.overlay r.blocks then 14
    else when cursor_shape r.display.fc r.form s.fx then 15
    else when ⁅ s.lf ⁆ ≤? n then 16
    else when not (buffer_length =? width r) then 17
    else 0
