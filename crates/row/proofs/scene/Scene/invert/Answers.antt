use Rattle.std.proofs.Common.{◌≡◌, ℕ, ◌+◌, ◌/◌, ◌%◌, ◌<◌, true, Some, refl, sym, ◌-◌, ◌∙◌, subst, arith, ne_eqb}
use Rattle.choice.specs.Choice.{◌=?◌}
use Rattle.registers.specs.declared.Registers.{Registers}
use Rattle.registers.specs.Counts.{⁅◌⁆}
use Rattle.row.specs.declared.BlockRow.{BlockRow}
use Rattle.row.specs.Layers.{sad}
use Rattle.row.specs.Stages.{line_address}
use Rattle.row.specs.Cursor.{has_cursor, shows_cursor}
use Rattle.row.proofs.CursorBytes.{column_at, no_cell, one_cell}
use Rattle.row.proofs.scene.Scene.invert.Goals as goal

-- the cells that the cursor inverts: the one at the difference of the addresses
cells : (r : Registers) (frame : ℕ) (b : BlockRow) (at start x : ℕ) → x < 65536 → at < 65536
    → shows_cursor r frame b ≡ true
    → start ≡ line_address (sad r.blocks b.block) r.system.ap (b.row / ⁅ r.system.fy ⁆)
    → (at + start) % 65536 ≡ r.cursor.address
    → has_cursor r frame (Some b) x ≡ (x =? at)
unfolding has_cursor
cells r frame b at start x hx ha shows es e =
    rw shows (column_at r b x at hx ha (subst (λ (y : ℕ). (at + y) % 65536 ≡ r.cursor.address) es e))

pub returns-in_default : goal.returns-in_default
unfolding has_cursor
returns-in_default c = rw c.in_default.is (no_cell _ _ _ _ (λ x lt. refl))

pub returns-then-at-line : goal.returns-then-at-line
returns-then-at-line c =
    let s = c.args.self.now in
    rw (c.first_bits.ensures, c.in-Some.is)
    (one_cell _ _ _ c.args.line.now _ c.if-at-line.true (λ x h.
    cells s.registers s.frame c.in-Some.shown _ c.line_address-start.result x (omega arith) (omega arith) (sym c.shows_cursor.ensures ∙ c.if-shows_cursor.true)
    (rw (c.line_address-start.ensures, c.sad.ensures, c.count.ensures)) (omega arith)))

pub returns-else-at-line : goal.returns-else-at-line
returns-else-at-line c =
    let s = c.args.self.now in
    rw c.in-Some.is
    (no_cell _ _ _ _ (λ x h.
    cells s.registers s.frame c.in-Some.shown ((s.registers.cursor.address + (65536 - c.line_address-start.result)) % 65536) c.line_address-start.result x (omega arith) (omega arith) (sym c.shows_cursor.ensures ∙ c.if-shows_cursor.true)
    (rw (c.line_address-start.ensures, c.sad.ensures, c.count.ensures)) (omega arith)
    ∙ ne_eqb _ _ (λ q. let z : x ≡ (s.registers.cursor.address + (65536 - c.line_address-start.result)) % 65536 = q in omega (arith, c.if-at-line.false))))

pub returns-else-shows_cursor : goal.returns-else-shows_cursor
unfolding has_cursor
returns-else-shows_cursor c = rw c.in-Some.is (no_cell _ _ _ _ (λ x h. rw (sym c.shows_cursor.ensures ∙ c.if-shows_cursor.false)))
