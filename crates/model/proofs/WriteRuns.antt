-- Runs of data writes: all accepted, and as long as can be; and a run as bytes stored a stride apart.
use Rattle.std.proofs.Common.{◌≡◌, ℕ, suc, ◌+◌, ◌%◌, ◌<◌, ◌≤◌, Bool, true, false, not, ◌&&◌, T, Option, None, Some, List, [], ◌∷◌, map, length, take, set, sym, refl, ◌∙◌, subst, suc-le-suc, zero-le, le_of_suc-le-suc, add-zero, zero-add, arith, length-set, eq-eqb}
use Rattle.std.proofs.Math.Bool.{and-false}
use Rattle.choice.specs.Choice.{when◌then◌else◌, ◌<?◌}
use Rattle.std.proofs.lemmas.Bool.{and_parts}
use Rattle.choice.proofs.Cases.{choose}
use Rattle.registers.specs.declared.Command.{Command}
use Rattle.registers.specs.declared.Command.TheVariants.{Mwrite}
use Rattle.registers.specs.Refusals.{accepted, refused}
use Rattle.registers.specs.Sizes.{memory_size}
use Rattle.model.specs.declared.Controller.{Controller}
use Rattle.model.specs.Machine.{Machine, machine, accept, refuse, controller}
use Rattle.model.specs.Bus.{sized, served, ◌serves◌, accessed, inside, write_data, data_write, write_memory}
use Rattle.model.specs.Calls.{write, after, outcomes}
use Rattle.model.specs.Refresh.{All}
use Rattle.model.specs.WriteRun.{stores, run_length, RunOutcome, run_outcome, write_run_outcome}
use Rattle.model.specs.Strides.{StoredOutcome, stored_from}
use Rattle.model.proofs.Steps.{at, next}

-- what MWRITE serves goes into memory
serves_writes : (o : Option Command) (m : Machine) (b : ℕ) → o serves Mwrite ≡ true → write_data o m b ≡ write_memory m b
unfolding write_data
serves_writes None m b h = absurd (subst T (sym h) tt)
serves_writes (Some c) m b h = rw h

stored : (m : Machine) (b : ℕ) → stores m ≡ true → data_write m b ≡ accept (accessed m.controller) (set m.memory m.controller.registers.cursor.address b)
unfolding stores data_write write_memory
stored m b h =
    let t = and_parts (sized m && served m.controller serves Mwrite) (inside m) h in
    let u = and_parts (sized m) (served m.controller serves Mwrite) t.0 in
    rw (u.0, serves_writes (served m.controller) m b u.1, t.1)

stores_accepted : (m : Machine) (b : ℕ) → stores m ≡ true → (data_write m b).reply ≡ accepted
stores_accepted m b h = rw (stored m b h)

-- what MWRITE does not serve takes no byte
pub no_run : (c : Controller) {memory memory' : List ℕ} (bs : List ℕ) → memory' ≡ memory → (served c serves Mwrite) ≡ false → write_run_outcome c 0 memory' ≡ run_outcome (machine c memory) bs
unfolding stores
no_run c [] e h = rw e
no_run c {memory} (b ∷ bs) e h = rw (e, h, and-false (sized (machine c memory)))

pub run_within : (m : Machine) (bs : List ℕ) → run_length m bs ≤ length bs
run_within m [] = zero-le
run_within m (b ∷ bs) = choose (λ (n : ℕ). n ≤ suc (length bs)) (stores m) _ _ (λ h. suc-le-suc (run_within (data_write m b).machine bs)) (λ h. zero-le)

pub run_accepted : (m : Machine) (bs : List ℕ) → All (λ o. o.reply ≡ accepted) (outcomes m (map write (take (run_length m bs) bs)))
run_accepted m [] = tt
run_accepted m (b ∷ bs) =
    choose (λ (n : ℕ). All (λ o. o.reply ≡ accepted) (outcomes m (map write (take n (b ∷ bs))))) (stores m) _ _
    (λ h. (stores_accepted m b h, run_accepted (data_write m b).machine bs)) (λ h. tt)

-- a data write that MWRITE serves and that does not store is refused
pub not_stored : (m : Machine) (b : ℕ) → stores m ≡ false → (served m.controller serves Mwrite) ≡ true → (data_write m b).reply ≡ refused (when sized m then 7 else 1)
unfolding stores data_write write_memory
not_stored m b h w = rw (serves_writes (served m.controller) m b w) (go (sized m) (inside m) (rw w at h))
  where
    go : (s i : Bool) → (s && true && i) ≡ false
        → (when not s then refuse 1 m.controller m.memory
        else when i then accept (accessed m.controller) (set m.memory m.controller.registers.cursor.address b)
        else refuse 7 (accessed m.controller) m.memory).reply ≡ refused (when s then 7 else 1)
    go false i e = refl
    go true false e = refl
    go true true e = absurd (subst T e tt)

-- the next data write after a run does not store: MWRITE does not serve it, or it is refused
pub run_ends : (m : Machine) (bs : List ℕ) → run_length m bs < length bs → stores (after m (map write (take (run_length m bs) bs))) ≡ false
run_ends m [] = λ h. absurd (omega arith)
run_ends m (b ∷ bs) =
    choose (λ (n : ℕ). n < suc (length bs) → stores (after m (map write (take n (b ∷ bs)))) ≡ false) (stores m) _ _
    (λ h shorter. run_ends (data_write m b).machine bs (le_of_suc-le-suc shorter)) (λ h shorter. h)

-- MWRITE pending, and a cursor that each access moves by the stride
module _ (c : Controller) (stride : ℕ) (pending : (served c serves Mwrite) ≡ true) (moves : (address : ℕ) → next c.registers address ≡ (address + stride) % 65536) where
  -- the cursor at an address
  abbrev from : ℕ → List ℕ → Machine
  from address memory = machine (controller (at c.registers address) c.pending.command c.pending.place) memory

  stores_inside : (address : ℕ) (memory : List ℕ) → length memory ≡ memory_size → stores (from address memory) ≡ (address <? length memory)
  unfolding stores served
  stores_inside address memory full = rw (eq-eqb _ _ full, pending)

  abbrev Strided : ℕ → StoredOutcome → RunOutcome → Type 0
  Strided done s o = (from s.address s.memory ≡ o.machine) × (s.length ≡ done + o.length)

  strided : (done address : ℕ) (memory bs : List ℕ) → length memory ≡ memory_size → Strided done (stored_from stride done address memory bs) (run_outcome (from address memory) bs)
  strided done address memory [] full = (refl, sym (add-zero done))
  strided done address memory (b ∷ bs) full =
      choose (λ (x : ℕ). Strided done (stored_from stride done address memory (b ∷ bs)) (run_outcome (from address memory) (b ∷ bs))) (address <? length memory) 0 0
      (λ e.
      let s = stores_inside address memory full ∙ e in
      let rest = strided (done + 1) ((address + stride) % 65536) (set memory address b) bs (length-set memory address b ∙ full) in
      rw (e, s, stored (from address memory) b s, moves) (rest.0, rest.1 ∙ omega arith))
      (λ e. rw (e, stores_inside address memory full ∙ e) (refl, sym (add-zero done)))

  pub run_strided : (memory bs : List ℕ) {s : StoredOutcome} → length memory ≡ memory_size → s ≡ stored_from stride 0 c.registers.cursor.address memory bs
      → record { machine = from s.address s.memory; length = s.length } ≡ run_outcome (machine c memory) bs
  run_strided memory bs full e = let r = strided 0 c.registers.cursor.address memory bs full in rw (e, r.0, r.1 ∙ zero-add _)
