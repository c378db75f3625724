-- Reference, 'Commands', 'Sleep'; request #102 as statements about lists of calls, whose theorems stand in proofs/Waking.
use Rattle.std.specs.Prelude.{◌≡◌, ℕ, true, false, ◌≢◌, List, [], ◌∷◌}
use Rattle.registers.specs.declared.Registers.{Registers}
use Rattle.row.specs.Dots.{is_shown}
use Rattle.row.specs.Rows.{row_answer}
use Rattle.model.specs.Machine.{Machine}
use Rattle.model.specs.Calls.{BusCall, command, call, after, reset}
use Rattle.model.specs.Refresh.{All}

-- With D = 0 or asleep nothing shows, however the chip is woken, until DISP ON is accepted

abbrev pub Dark : Registers → Type 0
Dark r = is_shown r.display.on r.asleep ≡ false

-- a call that is no DISP ON, or one that is refused: asleep it gets 5
abbrev pub NotOn : Machine → BusCall → Type 0
NotOn m c = c ≡ command 0x59 → (call m c).reply.refusal ≢ 0

-- each call of a list
abbrev pub NoneOn : Machine → List BusCall → Type 0
NoneOn m [] = Unit {0}
NoneOn m (c ∷ cs) = NotOn m c × NoneOn (call m c).machine cs

-- every dot of every row that is accepted is 0
abbrev pub ShowsNothing : Machine → Type 0
ShowsNothing m =
    (font : List ℕ) (frame n buffer_length : ℕ)
    → All (λ dot. dot ≡ 0) (row_answer m.controller.registers m.memory font frame n buffer_length).dots

abbrev pub DarkUntilOn : Type 0
DarkUntilOn =
    (m : Machine) → Dark m.controller.registers → (calls : List BusCall) → NoneOn m calls → ShowsNothing (after m calls)

-- The display is on before sleep: from reset, D is 1 while the chip is asleep

abbrev pub OnWhileAsleep : Type 0
OnWhileAsleep =
    (memory : List ℕ) (calls : List BusCall)
    → let r = (after (reset memory) calls).controller.registers in
    r.asleep ≡ true → r.display.on ≡ true
