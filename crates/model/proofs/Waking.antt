-- Request #102: a display that is off or asleep stays dark until DISP ON; from reset, it is on while the chip is asleep.
use Rattle.std.proofs.Common.{◌≡◌, ℕ, Bool, true, false, not, ◌&&◌, ◌≢◌, List, [], ◌∷◌, length, sym, refl, ap, ◌∙◌, subst, eqb-true}
use Rattle.std.proofs.Math.Bool.{and-false}
use Rattle.registers.specs.declared.Command.{Command}
use Rattle.registers.specs.declared.Command.TheVariants.{SleepIn, Disp}
use Rattle.registers.specs.declared.Registers.{Registers}
use Rattle.choice.specs.Choice.{when◌then◌else◌, ◌=?◌}
use Rattle.choice.proofs.Cases.{choose}
use Rattle.registers.specs.Commands.{command_of, ◌is◌}
use Rattle.registers.specs.Parameters.{with_on, wakes, store, store_display, begin}
use Rattle.registers.specs.Layout.{in_layout}
use Rattle.registers.proofs.Codes.{is_same}
use Rattle.row.specs.Dots.{width, is_shown, dots}
use Rattle.row.specs.Refusals.{row_refusal}
use Rattle.row.specs.Rows.{row_answer}
use Rattle.row.proofs.Dots.{dark_row}
use Rattle.model.specs.Machine.{Machine, Outcome}
use Rattle.model.specs.Bus.{ignored, display_off, take_command, command_write}
use Rattle.model.specs.Calls.{BusCall, command, write, read, call, after, reset}
use Rattle.model.specs.Refresh.{All}
use Rattle.model.specs.Waking.{Dark, NotOn, NoneOn, ShowsNothing, DarkUntilOn, OnWhileAsleep}
use Rattle.model.proofs.Runs.{all_replicate, command_leaves, write_leaves, read_leaves}

-- what a call leaves in the registers
abbrev Left : (Registers → Type 0) → Outcome → Type 0
Left P o = P o.machine.controller.registers

-- a parameter leaves D and sleep as they are, or ends both
store_flags : (P : Bool → Bool → Type 0) → P false false → (c : Command) (place b : ℕ) (r : Registers) → P r.display.on r.asleep
    → let x = store c place b r in P x.display.on x.asleep
unfolding store store_display
store_flags P ends c place b r stays = go (wakes c place r) (c is Disp)
  where
    go : (w t : Bool) → P (when w then with_on false r.display else when t then store_display place b r.display else r.display).on (when w then false else r.asleep)
    go true t = ends
    go false true = stays
    go false false = stays

-- Nothing shows until DISP ON is accepted

-- a command byte turns nothing on, but for DISP ON
begin_dark : (c : Command) (b : ℕ) (r : Registers) → (b =? 0x59) ≡ false → Dark r → Dark (begin c b r)
unfolding begin
begin_dark c b r n d = go (c is Disp) (c is SleepIn)
  where
    go : (t s : Bool) → is_shown (when t then with_on (b =? 0x59) r.display else r.display).on (when s then true else r.asleep) ≡ false
    go true s = rw n
    go false true = rw and-false
    go false false = d

-- DISP ON asleep, which gets 5; awake it is accepted
on_dark : (m : Machine) → (call m (command 0x59)).reply.refusal ≢ 0 → Left Dark (call m (command 0x59))
unfolding command_write take_command command_of ignored display_off
on_dark m n = go m.controller.registers.asleep refl
  where
    go : (s : Bool) → m.controller.registers.asleep ≡ s → Left Dark (call m (command 0x59))
    go true e = rw e (and-false m.controller.registers.display.on)
    go false e = absurd (n (rw e))

call_dark : (m : Machine) (c : BusCall) → NotOn m c → Dark m.controller.registers → Left Dark (call m c)
call_dark m (command b) n d = go (b =? 0x59) refl
  where
    go : (t : Bool) → (b =? 0x59) ≡ t → Left Dark (call m (command b))
    go true e = let same = eqb-true b 0x59 e in subst (λ (k : ℕ). Left Dark (call m (command k))) (sym same) (on_dark m (subst (λ (k : ℕ). (call m (command k)).reply.refusal ≢ 0) same (n (ap command same))))
    go false e = command_leaves (λ r bs. Dark r) m b d (λ c awake on. begin_dark c b m.controller.registers e d)
call_dark m (write b) n d =
    write_leaves (λ r bs. Dark r) m b d (λ c place. store_flags (λ on asleep. is_shown on asleep ≡ false) refl c place b m.controller.registers d) (λ bs same. d)
call_dark m read n d = read_leaves (λ r bs. Dark r) m d d

after_dark : (m : Machine) (cs : List BusCall) → NoneOn m cs → Dark m.controller.registers → Dark (after m cs).controller.registers
after_dark m [] n d = d
after_dark m (c ∷ cs) n d = after_dark (call m c).machine cs n.1 (call_dark m c n.0 d)

shows_nothing : (m : Machine) → Dark m.controller.registers → ShowsNothing m
unfolding row_answer in_layout
shows_nothing m d font frame n buffer_length =
    let r = in_layout m.controller.registers in
    choose (All (λ dot. dot ≡ 0)) (row_refusal r (length m.memory) (length font) n buffer_length =? 0) (dots r m.memory font frame n) []
    (λ e. rw (dark_row r m.memory font frame n d) (all_replicate (λ dot. dot ≡ 0) 0 refl (width r)))
    (λ e. tt)

pub dark_until_on : DarkUntilOn
dark_until_on m d cs n = shows_nothing (after m cs) (after_dark m cs n d)

-- The display is on before sleep

abbrev OnIfAsleep : Registers → Type 0
OnIfAsleep r = (not r.display.on && r.asleep) ≡ false

-- SLEEP IN is taken only with D = 1, DISP only awake
begin_on : (c : Command) (b : ℕ) (r : Registers) → ignored c r.asleep ≡ false → display_off c r.display.on ≡ false → OnIfAsleep r → OnIfAsleep (begin c b r)
unfolding begin ignored display_off
begin_on c b r = go (c is Disp) (c is SleepIn) refl refl
  where
    Taken : Command → Type 0
    Taken c = ignored c r.asleep ≡ false → display_off c r.display.on ≡ false → OnIfAsleep r → OnIfAsleep (begin c b r)

    disp : Taken Disp
    disp awake w k = rw (awake, and-false)

    sleep : Taken SleepIn
    sleep i on k = rw on

    go : (t s : Bool) → (c is Disp) ≡ t → (c is SleepIn) ≡ s → Taken c
    go true s e f = subst Taken (sym (is_same c Disp e)) disp
    go false true e f = subst Taken (sym (is_same c SleepIn f)) sleep
    go false false e f = λ i w k. rw (e, f) k

call_on : (m : Machine) (c : BusCall) → OnIfAsleep m.controller.registers → Left OnIfAsleep (call m c)
call_on m (command b) k = command_leaves (λ r bs. OnIfAsleep r) m b k (λ c awake on. begin_on c b m.controller.registers awake on k)
call_on m (write b) k =
    write_leaves (λ r bs. OnIfAsleep r) m b k (λ c place. store_flags (λ on asleep. (not on && asleep) ≡ false) refl c place b m.controller.registers k) (λ bs same. k)
call_on m read k = read_leaves (λ r bs. OnIfAsleep r) m k k

after_on : (m : Machine) (cs : List BusCall) → OnIfAsleep m.controller.registers → OnIfAsleep (after m cs).controller.registers
after_on m [] k = k
after_on m (c ∷ cs) k = after_on (call m c).machine cs (call_on m c k)

pub on_while_asleep : OnWhileAsleep
on_while_asleep memory cs e = go r.display.on (after_on (reset memory) cs refl)
  where
    r : Registers
    r = (after (reset memory) cs).controller.registers

    go : (on : Bool) → (not on && r.asleep) ≡ false → on ≡ true
    go true k = refl
    go false k = sym k ∙ e
