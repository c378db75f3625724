-- What the calls of a refresh do one by one: a command byte, a parameter, a list of parameters, bytes into memory.
use Rattle.std.proofs.Common.{◌≡◌, ℕ, zero, suc, ◌+◌, ◌<◌, Bool, true, false, not, ◌&&◌, T, Some, ◌⊎◌, List, [], ◌∷◌, ◌++◌, map, length, set, sym, refl, ap, ◌∙◌, inl, inr, append-nil, arith, length-append, length-set, ltb-true, lt-ltb, eq-eqb}
use Rattle.std.proofs.Math.Bool.{and-false}
use Rattle.std.proofs.Math.Seq.{append_snoc, set-append_seam}
use Rattle.registers.specs.declared.Command.{Command}
use Rattle.registers.specs.declared.Command.TheVariants.{SystemSet, SleepIn, Mwrite}
use Rattle.registers.specs.declared.Direction.TheVariants.{Right}
use Rattle.registers.specs.declared.Registers.{Registers}
use Rattle.choice.specs.Choice.{when◌then◌else◌, ◌<?◌, ◌=?◌}
use Rattle.registers.specs.Commands.{command_of, ◌is◌, parameters}
use Rattle.registers.specs.Parameters.{begin, store, allowed}
use Rattle.registers.specs.Refusals.{Reply, accepted, refused}
use Rattle.registers.specs.Cursor.{next_address, with_cursor}
use Rattle.registers.specs.Sizes.{memory_size}
use Rattle.model.specs.declared.Controller.{Controller}
use Rattle.model.specs.Machine.{Machine, machine, accept, controller}
use Rattle.model.specs.Bus.{ignored, display_off, take_command, command_write, served, write_data, data_write, write_parameter, write_memory}
use Rattle.model.specs.Calls.{command, write, call}
use Rattle.model.specs.Refresh.{Values, bytes}
use Rattle.model.specs.Demand.{Accepted, Only7}
use Rattle.model.proofs.Runs.{Runs, runs_none, runs_cons, runs_to}

-- the registers x take the command c: they are awake, or it is SYSTEM SET
abbrev pub Takes : Command → Registers → Type 0
Takes c x = ignored c x.asleep ≡ false

pub takes_awake : (c : Command) (x : Registers) → x.asleep ≡ false → Takes c x
unfolding ignored
takes_awake c x a = rw (a, and-false)

takes_stored : (c : Command) (place b : ℕ) (x : Registers) → Takes c x → Takes c (store c place b x)
unfolding ignored store
takes_stored c place b x = go (c is SystemSet) (place =? 0)
  where
    go : (t s : Bool) → (not t && x.asleep) ≡ false → (not t && (when t && s && x.asleep then false else x.asleep)) ≡ false
    go true s h = refl
    go false s h = h

-- a command byte that is taken
pub begun : (c : Command) (b : ℕ) → command_of b ≡ Some c → (c is SleepIn) ≡ false → (s : Controller) (memory : List ℕ) → Takes c s.registers
    → call (machine s memory) (command b) ≡ accept (controller (begin c b s.registers) (Some c) 0) memory
unfolding command_write take_command display_off
begun c b e w s memory t = rw (e, t, w)

-- a parameter that is wanted and allowed
stored : (c : Command) (place b : ℕ) → place < parameters c → (c is Mwrite) ≡ false → allowed c place b ≡ true → (x : Registers) (memory : List ℕ) → length memory ≡ memory_size → Takes c x
    → call (machine (controller x (Some c) place) memory) (write b) ≡ accept (controller (store c place b x) (Some c) (place + 1)) memory
unfolding data_write write_data write_parameter served
stored c place b l w a x memory full t = rw (eq-eqb _ _ full, t, w, lt-ltb _ _ l, a)

-- what k parameters from a place on leave
abbrev pub stores : (c : Command) (place k : ℕ) → Values c place k → Registers → Registers
stores c place zero vs x = x
stores c place (suc k) vs x = stores c (place + 1) k vs.3 (store c place vs.0 x)

true_of : (b : Bool) → T b → b ≡ true
true_of true h = refl
true_of false h = absurd h

pub parameters_run : (c : Command) → (c is Mwrite) ≡ false → (place k : ℕ) → place + k ≡ parameters c → (vs : Values c place k) (x : Registers) (memory : List ℕ) → length memory ≡ memory_size → Takes c x
    → Runs Accepted (machine (controller x (Some c) place) memory) (map write (bytes c place k vs)) (machine (controller (stores c place k vs x) (Some c) (parameters c)) memory)
parameters_run c w place zero e vs x memory full t = runs_to (ap (λ (n : ℕ). machine (controller x (Some c) n) memory) (omega arith)) runs_none
parameters_run c w place (suc k) e vs x memory full t =
    runs_cons (stored c place vs.0 (omega arith) w (true_of _ vs.2) x memory full t) refl
    (parameters_run c w (place + 1) k (omega arith) vs.3 (store c place vs.0 x) memory full (takes_stored c place vs.0 x t))

-- registers with the cursor at an address
abbrev pub at : Registers → ℕ → Registers
at x address = with_cursor (record { address = address; direction = x.cursor.direction }) x

abbrev pub next : Registers → ℕ → ℕ
next x address = next_address x.cursor.direction x.system.ap address

-- MWRITE pending, the cursor at an address
abbrev pub writing : Registers → ℕ → List ℕ → Machine
writing x address memory = machine (controller (at x address) (Some Mwrite) 0) memory

module _ (x : Registers) (awake : x.asleep ≡ false) where
  wrote : (address : ℕ) (memory : List ℕ) (b : ℕ) → length memory ≡ memory_size → address < memory_size
      → call (writing x address memory) (write b) ≡ record { machine = writing x (next x address) (set memory address b); reply = accepted }
  unfolding data_write write_data write_memory served ignored
  wrote address memory b full h = rw (eq-eqb _ _ full, awake, lt-ltb address (length memory) (omega arith))

  -- rightwards from the end of `done`: the bytes stand behind it, and nothing of what stood there is left
  pub filled : x.cursor.direction ≡ Right → (done old bs : List ℕ) → length old ≡ length bs → length (done ++ old) ≡ memory_size
      → Runs Accepted (writing x (length done) (done ++ old)) (map write bs) (writing x (length (done ++ bs)) (done ++ bs))
  unfolding next_address
  filled d done [] [] e full = runs_to (rw append-nil) runs_none
  filled d done [] (b ∷ bs) e full = absurd (omega arith)
  filled d done (o ∷ os) [] e full = absurd (omega arith)
  filled d done (o ∷ os) (b ∷ bs) e full =
      runs_cons (wrote (length done) (done ++ (o ∷ os)) b full (omega (arith, sizes))) refl
      (rw (set-append_seam, right) (simp append_snoc at (filled d (done ++ (b ∷ [])) os bs (omega arith) (simp (append_snoc, length-append) sizes))))
    where
      sizes : length done + suc (length os) ≡ memory_size
      sizes = sym (length-append done (o ∷ os)) ∙ full

      right : next x (length done) ≡ length (done ++ (b ∷ []))
      right = rw (d, next_address, length-append) (omega (arith, sizes))

  -- wherever the cursor goes, 7 is the only refusal
  abbrev pub travel : ℕ → List ℕ → ℕ
  travel address [] = address
  travel address (b ∷ bs) = travel (next x address) bs

  pub spilled : (address : ℕ) (memory bs : List ℕ) → length memory ≡ memory_size → (memory' : List ℕ) × Runs Only7 (writing x address memory) (map write bs) (writing x (travel address bs) memory')
  unfolding data_write write_data write_memory served ignored
  spilled address memory [] full = (memory, runs_none)
  spilled address memory (b ∷ bs) full =
      let t = one (address <? memory_size) refl in
      let k = spilled (next x address) t.0 bs t.1 in
      (k.0, runs_cons {o = record { machine = writing x (next x address) t.0; reply = t.2 }} t.3 t.4 k.1)
    where
      one : (t : Bool) → (address <? memory_size) ≡ t → (memory₁ : List ℕ) × (length memory₁ ≡ memory_size) × (answer : Reply)
          × (call (writing x address memory) (write b) ≡ record { machine = writing x (next x address) memory₁; reply = answer }) × ((answer.refusal ≡ 0) ⊎ (answer.refusal ≡ 7))
      one true e = (set memory address b, length-set memory address b ∙ full, accepted, wrote address memory b full (ltb-true _ _ e), inl refl)
      one false e = (memory, full, refused 7, rw (eq-eqb _ _ full, awake, full, e), inr refl)
