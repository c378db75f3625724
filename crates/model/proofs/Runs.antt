-- Runs: a list of calls that leads from one machine to another, every answer having a property. The memory keeps its size.
use Rattle.std.proofs.Common.{◌≡◌, ℕ, zero, suc, false, not, Option, None, Some, List, [], ◌∷◌, ◌++◌, length, get_or, replicate, sym, refl, ◌∙◌, subst, arith, length-set}
use Rattle.choice.proofs.Cases.{choose}
use Rattle.registers.specs.declared.Command.{Command}
use Rattle.registers.specs.declared.Registers.{Registers}
use Rattle.registers.specs.Commands.{command_of}
use Rattle.registers.specs.Parameters.{begin, store}
use Rattle.registers.specs.Cursor.{move_cursor}
use Rattle.model.specs.Machine.{Machine, Outcome}
use Rattle.model.specs.Bus.{ignored, display_off, sized, served, take_command, command_write, write_memory, write_parameter, write_data, data_write, read_memory, read_cursor, read_data, data_read}
use Rattle.model.specs.Calls.{BusCall, command, write, read, call, after, outcomes}
use Rattle.model.specs.Refresh.{All, Byte}

pub record Runs (P : Outcome → Type 0) (m : Machine) (cs : List BusCall) (m' : Machine) : Type 0 where
  pub leads : after m cs ≡ m'
  pub answered : All P (outcomes m cs)

module _ {P : Outcome → Type 0} where
  pub runs_none : {m : Machine} → Runs P m [] m
  runs_none = record { leads = refl; answered = tt }

  pub runs_cons : {m : Machine} {c : BusCall} {cs : List BusCall} {o : Outcome} {m' : Machine} → call m c ≡ o → P o → Runs P o.machine cs m' → Runs P m (c ∷ cs) m'
  runs_cons {cs = cs} {m' = m'} e p k =
      let t = subst (λ (o : Outcome). (after o.machine cs ≡ m') × (P o × All P (outcomes o.machine cs))) (sym e) (k.leads, (p, k.answered)) in
      record { leads = t.0; answered = t.1 }

  pub runs_append : {m : Machine} (xs : List BusCall) {ys : List BusCall} {m' m'' : Machine} → Runs P m xs m' → Runs P m' ys m'' → Runs P m (xs ++ ys) m''
  runs_append [] {ys} {m'' = m''} h k = subst (λ (x : Machine). Runs P x ys m'') (sym h.leads) k
  runs_append {m = m} (c ∷ xs) {ys = ys} {m' = m'} {m'' = m''} h k =
      let t = runs_append {m = (call m c).machine} xs (record { leads = h.leads; answered = h.answered.1 }) k in
      record { leads = t.leads; answered = (h.answered.0, t.answered) }

  pub runs_to : {m : Machine} {cs : List BusCall} {m' m'' : Machine} → m' ≡ m'' → Runs P m cs m' → Runs P m cs m''
  runs_to e h = record { leads = h.leads ∙ e; answered = h.answered }

all_weaker : {P Q : Outcome → Type 0} → ((o : Outcome) → P o → Q o) → (os : List Outcome) → All P os → All Q os
all_weaker f [] h = tt
all_weaker f (o ∷ os) h = (f o h.0, all_weaker f os h.1)

pub runs_weaker : {P Q : Outcome → Type 0} → ((o : Outcome) → P o → Q o) → {m m' : Machine} {cs : List BusCall} → Runs P m cs m' → Runs Q m cs m'
runs_weaker f {m} {cs = cs} h = record { leads = h.leads; answered = all_weaker f (outcomes m cs) h.answered }

pub all_replicate : {A : Type 0} (P : A → Type 0) (x : A) → P x → (n : ℕ) → All P (replicate n x)
all_replicate P x p zero = tt
all_replicate P x p (suc n) = (p, all_replicate P x p n)

-- a byte past the end is 0
pub byte_at_lem : (s : List ℕ) → All Byte s → (i : ℕ) → Byte (get_or s i 0)
byte_at_lem [] h i = omega arith
byte_at_lem (b ∷ bs) h zero = h.0
byte_at_lem (b ∷ bs) h (suc i) = byte_at_lem bs h.1 i

-- What a call leaves in registers and memory has a property, if each step that it may come to has it

abbrev Left : (Registers → List ℕ → Type 0) → Outcome → Type 0
Left P o = P o.machine.controller.registers o.machine.memory

pub command_leaves : (P : Registers → List ℕ → Type 0) (m : Machine) (b : ℕ) → let r = m.controller.registers in P r m.memory
    → ((c : Command) → ignored c r.asleep ≡ false → display_off c r.display.on ≡ false → P (begin c b r) m.memory) → Left P (command_write m b)
unfolding command_write take_command
command_leaves P m b stays begun = go (command_of b)
  where
    go : (o : Option Command) → Left P (take_command o m b)
    go None = stays
    go (Some c) = search (choose (Left P), stays, begun) depth 12

pub write_leaves : (P : Registers → List ℕ → Type 0) (m : Machine) (b : ℕ) → let r = m.controller.registers in P r m.memory
    → ((c : Command) (place : ℕ) → P (store c place b r) m.memory) → ((bs : List ℕ) → length bs ≡ length m.memory → P (move_cursor r) bs) → Left P (data_write m b)
unfolding data_write write_data write_memory write_parameter
write_leaves P m b stays stored moved = choose (Left P) (not (sized m)) _ _ (λ e. stays) (λ e. go (served m.controller))
  where
    go : (o : Option Command) → Left P (write_data o m b)
    go None = stays
    go (Some c) = search (choose (Left P), stays, stored, moved, length-set) depth 12

pub read_leaves : (P : Registers → List ℕ → Type 0) (m : Machine) → let r = m.controller.registers in P r m.memory → P (move_cursor r) m.memory → Left P (data_read m)
unfolding data_read read_data read_memory read_cursor
read_leaves P m stays moved = choose (Left P) (not (sized m)) _ _ (λ e. stays) (λ e. go (served m.controller))
  where
    go : (o : Option Command) → Left P (read_data o m)
    go None = stays
    go (Some c) = search (choose (Left P), stays, moved) depth 12

-- no call changes the size of the memory
call_size : (m : Machine) (c : BusCall) → length (call m c).machine.memory ≡ length m.memory
call_size m (command b) = command_leaves (λ r bs. length bs ≡ length m.memory) m b refl (λ c awake on. refl)
call_size m (write b) = write_leaves (λ r bs. length bs ≡ length m.memory) m b refl (λ c place. refl) (λ bs same. same)
call_size m read = read_leaves (λ r bs. length bs ≡ length m.memory) m refl refl

pub after_size : (m : Machine) (cs : List BusCall) → length (after m cs).memory ≡ length m.memory
after_size m [] = refl
after_size m (c ∷ cs) = after_size (call m c).machine cs ∙ call_size m c
