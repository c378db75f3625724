-- Calls on saved controllers, from what the functions that carry them out promise.
use Rattle.std.proofs.Common.{◌≡◌, ℕ, Bool, true, false, Option, None, Some, Result, Ok, Err, List, length, sym, refl, ap, ◌∙◌, arith}
use Rattle.choice.specs.Choice.{when◌then◌else◌}
use Rattle.registers.specs.declared.Refusal.{Refusal}
use Rattle.registers.specs.Refusals.{Reply, reply}
use Rattle.model.specs.declared.Controller.{Controller}
use Rattle.model.specs.Machine.{Outcome, machine}
use Rattle.model.specs.Calls.{BusCall, call}
use Rattle.host.specs.Saved.{is_saved, controller_of, saved_bytes, saved_controller}
use Rattle.host.specs.Calls.{returned, saving, no_controller, answer_of, after_call}
use Rattle.host.proofs.SavedBytes.{saved_length}

-- a write answers with the refusal's number alone
pub number_alone : (a : Result Unit Refusal) → (reply a).refusal ≡ answer_of (reply a)
number_alone (Ok tt) = refl
number_alone (Err r) = omega arith

-- What was read of bytes, and which: all of them in the words of the answer
module _ (s : List ℕ) {o : Option Controller} (read : o ≡ saved_controller s) where
  pub is_read : {k : Controller} → o ≡ Some k → (is_saved s ≡ true) × (k ≡ controller_of s)
  is_read {k} e = go (is_saved s) refl (sym read ∙ e)
    where
      go : (t : Bool) → is_saved s ≡ t → (when t then Some (controller_of s) else None) ≡ Some k → (is_saved s ≡ true) × (k ≡ controller_of s)
      go true i h = (i, cc)
      go false i h = absurd cc

  pub read_length : {k : Controller} → o ≡ Some k → length s ≡ 48
  read_length e = saved_length s (is_read e).0

  pub not_read : o ≡ None → is_saved s ≡ false
  not_read e = go (is_saved s) refl (sym read ∙ e)
    where
      go : (t : Bool) → is_saved s ≡ t → (when t then Some (controller_of s) else None) ≡ None → is_saved s ≡ false
      go true i h = absurd cc
      go false i h = i

  -- a call on the controller that was read, answered and saved
  pub call_saved : (memory : List ℕ) (c : BusCall) {k k' : Controller} {a : Reply} {s' memory' : List ℕ} {n : ℕ}
      → o ≡ Some k → record { machine = machine k' memory'; reply = a } ≡ call (machine k memory) c
      → s' ≡ saved_bytes k' → n ≡ answer_of a → returned n s' memory' ≡ after_call s memory c
  call_saved memory c e outcome w n =
      let r = is_read e in
      rw (w, n, r.0) (ap (λ (x : Outcome). saving (answer_of x.reply) x.machine) outcome ∙ rw r.1)

  pub call_unread : (memory : List ℕ) (c : BusCall) → o ≡ None → returned no_controller s memory ≡ after_call s memory c
  call_unread memory c e = rw (not_read e)
