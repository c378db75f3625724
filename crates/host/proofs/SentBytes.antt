-- Records that are sent byte by byte.
use Rattle.std.proofs.Common.{◌≡◌, ℕ, zero, suc, ◌+◌, ◌<◌, ◌≤◌, Bool, true, false, Option, None, Some, List, [], ◌∷◌, ◌++◌, map, length, get_or, take, drop, set, replicate, sym, refl, ap, ◌∙◌, zero-le, lt_of_le_of_lt, zero-add, add-one, arith, length-drop, length-take-le, get_or-drop, get_or-take, take-suc, take-suc-set, ext_get_or, take-add, ltb-true, eqb-true}
use Rattle.std.proofs.Math.Bool.{and-false}
use Rattle.std.proofs.lemmas.List.{map-append, length-map, length-replicate, get_or-replicate}
use Rattle.choice.specs.Choice.{◌<?◌, ◌=?◌}
use Rattle.std.proofs.lemmas.Bool.{and_parts}
use Rattle.choice.proofs.Cases.{choose}
use Rattle.registers.specs.Refusals.{Reply, accepted}
use Rattle.model.specs.declared.Controller.{Controller}
use Rattle.model.specs.Machine.{Machine, Outcome, machine}
use Rattle.model.specs.Bus.{command_write, data_write}
use Rattle.model.specs.Calls.{BusCall, write, call, bus_calls, after, outcomes}
use Rattle.model.specs.Refresh.{All}
use Rattle.model.specs.WriteRun.{run_length, RunOutcome, run_outcome}
use Rattle.model.proofs.WriteRuns.{run_within, run_accepted}
use Rattle.host.specs.Sending.{numbers, refusal_count, refusals, send_outcome, sent_outcome, nothing_sent, fits, is_sendable, send_returned, send_saved, after_send}
use Rattle.host.specs.Saved.{is_saved, saved_controller, saved_bytes}
use Rattle.host.specs.Calls.{returned}
use Rattle.host.proofs.Outcomes.{is_read, not_read}

-- Lists of calls, one behind the other

after-append : (m : Machine) (cs ds : List BusCall) → after m (cs ++ ds) ≡ after (after m cs) ds
after-append m [] ds = refl
after-append m (c ∷ cs) ds = after-append (call m c).machine cs ds

numbers-append : (m : Machine) (cs ds : List BusCall) → numbers m (cs ++ ds) ≡ numbers m cs ++ numbers (after m cs) ds
numbers-append m [] ds = refl
numbers-append m (c ∷ cs) ds = ap (λ (ns : List ℕ). (call m c).reply.refusal ∷ ns) (numbers-append (call m c).machine cs ds)

refusals-append : (xs ys : List ℕ) → refusals (xs ++ ys) ≡ refusals xs + refusals ys
refusals-append [] ys = sym (zero-add _)
refusals-append (x ∷ xs) ys = rw (refusals-append xs ys) (omega arith)

calls-append : (xs ys : List ℕ) → 0 < length xs → bus_calls (xs ++ ys) ≡ bus_calls xs ++ map write ys
calls-append [] ys h = absurd (omega arith)
calls-append (x ∷ xs) ys h = rw (map-append write xs ys)

pub one_refusal : (n : ℕ) → refusal_count n ≤ 1
one_refusal n = choose (λ (k : ℕ). k ≤ 1) (n =? 0) 0 1 (λ h. zero-le) (λ h. omega arith)

refusals_within : (ns : List ℕ) → refusals ns ≤ length ns
refusals_within [] = zero-le
refusals_within (n ∷ ns) = omega (arith, one_refusal n, refusals_within ns)

numbers-length : (m : Machine) (cs : List BusCall) → length (numbers m cs) ≡ length cs
numbers-length m [] = refl
numbers-length m (c ∷ cs) = ap suc (numbers-length (call m c).machine cs)

calls-length : (bytes : List ℕ) → length (bus_calls bytes) ≡ length bytes
calls-length [] = refl
calls-length (b ∷ bs) = ap suc (length-map bs write)

-- Calls that are accepted

numbers_accepted : (m : Machine) (bs : List ℕ) → All (λ o. o.reply ≡ accepted) (outcomes m (map write bs)) → numbers m (map write bs) ≡ replicate (length bs) 0
numbers_accepted m [] all = refl
numbers_accepted m (b ∷ bs) all = rw (all.0, numbers_accepted (data_write m b).machine bs all.1)

refusals_none : (n : ℕ) → refusals (replicate n 0) ≡ 0
refusals_none zero = refl
refusals_none (suc n) = rw (refusals_none n)

-- The first i bytes are sent

pub record SentSoFar (m₀ : Machine) (bytes : List ℕ) (i refused : ℕ) (m : Machine) (answers : List ℕ) : Type 0 where
  pub some : 0 < i
  pub within : i ≤ length bytes
  pub leads : m ≡ after m₀ (bus_calls (take i bytes))
  pub told : take i answers ≡ numbers m₀ (bus_calls (take i bytes))
  pub counted : refused ≡ refusals (take i answers)

-- the command byte
pub command_sent : (m₀ : Machine) (bytes answers : List ℕ) {k : Controller} {a : Reply} {memory : List ℕ} {n r : ℕ} → 0 < length bytes → 0 < length answers
    → record { machine = machine k memory; reply = a } ≡ command_write m₀ (get_or bytes 0 0) → n ≡ a.refusal → r ≡ refusal_count n
    → SentSoFar m₀ bytes 1 r (machine k memory) (set answers 0 n)
command_sent m₀ [] [] h l e n r = absurd (omega arith)
command_sent m₀ [] (x ∷ xs) h l e n r = absurd (omega arith)
command_sent m₀ (b ∷ bs) [] h l e n r = absurd (omega arith)
command_sent m₀ (b ∷ bs) (x ∷ xs) h l e number count =
    record {
      some = omega arith;
      within = omega arith;
      leads = ap (λ (o : Outcome). o.machine) e;
      told = rw number (ap (λ (o : Outcome). o.reply.refusal ∷ []) e);
      counted = rw count (omega arith);
    }

-- data writes more
module _ {m₀ : Machine} {bytes : List ℕ} {i refused : ℕ} {m : Machine} {answers : List ℕ} (s : SentSoFar m₀ bytes i refused m answers) where
  more_sent : (bs : List ℕ) {j r : ℕ} {m' : Machine} {answers' : List ℕ} → i ≤ j → j ≤ length bytes → take j bytes ≡ take i bytes ++ bs → m' ≡ after m (map write bs)
      → take j answers' ≡ take i answers ++ numbers m (map write bs) → r ≡ refused + refusals (numbers m (map write bs)) → SentSoFar m₀ bytes j r m' answers'
  more_sent bs {j} up within e leads told counted =
      let both : bus_calls (take j bytes) ≡ bus_calls (take i bytes) ++ map write bs = rw e (calls-append (take i bytes) bs (rw (length-take-le i bytes s.within) s.some)) in
      record {
        some = omega (arith, s.some);
        within = within;
        leads = leads ∙ rw (s.leads, both, after-append);
        told = told ∙ rw (s.told, s.leads, both, numbers-append);
        counted = counted ∙ rw (s.counted, told, refusals-append);
      }

  -- the run that they start with
  pub run_sent : {o : RunOutcome} → o ≡ run_outcome m (drop i bytes) → ((k : ℕ) → i ≤ k → k < length bytes → get_or answers k 0 ≡ 0)
      → length answers ≡ length bytes → SentSoFar m₀ bytes (i + o.length) refused o.machine answers
  run_sent e zeros same =
      let n = run_length m (drop i bytes) in
      let within : i + n ≤ length bytes = omega (arith, run_within m (drop i bytes), length-drop i bytes, s.within) in
      let accepted : numbers m (map write (take n (drop i bytes))) ≡ replicate n 0 =
      numbers_accepted m (take n (drop i bytes)) (run_accepted m (drop i bytes)) ∙ rw (length-take-le n (drop i bytes) (run_within m (drop i bytes))) in
      rw e (more_sent (take n (drop i bytes)) (omega arith) within (take-add i n bytes) refl (take-add i n answers ∙ rw (accepted, cleared n within)) (rw (accepted, refusals_none) (omega arith)))
    where
      cleared : (n : ℕ) → i + n ≤ length bytes → take n (drop i answers) ≡ replicate n 0
      cleared n h =
          let size = length-take-le n (drop i answers) (omega (arith, length-drop i answers, same)) in
          ext_get_or 0 _ _ (size ∙ sym (length-replicate n 0))
          (λ k lt.
          let below : k < n = rw size at lt in
          get_or-take n (drop i answers) k 0 below ∙ get_or-drop i answers k 0 ∙ zeros (i + k) (omega arith) (omega arith) ∙ sym (get_or-replicate n k 0 0 below))

  -- one more
  pub write_sent : {k : Controller} {a : Reply} {memory : List ℕ} {n r : ℕ} → i < length bytes → i < length answers
      → record { machine = machine k memory; reply = a } ≡ data_write m (get_or bytes i 0) → n ≡ a.refusal → r ≡ refused + refusal_count n
      → SentSoFar m₀ bytes (i + 1) r (machine k memory) (set answers i n)
  write_sent h l e number count =
      let told = ap (λ (o : Outcome). o.reply.refusal) e in
      more_sent (get_or bytes i 0 ∷ []) (omega arith) (omega arith) (rw add-one (take-suc bytes i 0 h)) (ap (λ (o : Outcome). o.machine) e)
      (rw (add-one, number, ← told) (take-suc-set answers i _ l)) (rw (count, number, ← told) (omega arith))

-- Records sent to a saved controller

pub fitting : (bytes answers : List ℕ) → fits bytes answers ≡ true → (0 < length bytes) × (length bytes < nothing_sent) × (length answers ≡ length bytes)
fitting bytes answers e =
    let u = and_parts _ (length bytes <? nothing_sent) e in
    let v = and_parts (length answers =? length bytes) (0 <? length bytes) u.0 in
    (ltb-true _ _ v.1, ltb-true _ _ u.1, eqb-true _ _ v.0)

-- on the controller that was read, answered and saved
pub record_saved : (s memory bytes answers : List ℕ) {t : Bool} {o : Option Controller} {k k' : Controller} {s' memory' answers' : List ℕ} {n : ℕ}
    → t ≡ fits bytes answers → t ≡ true → o ≡ saved_controller s → o ≡ Some k → sent_outcome k' n memory' answers' ≡ send_outcome (machine k memory) bytes
    → s' ≡ saved_bytes k' → send_returned (returned n s' memory') answers' ≡ after_send s memory bytes answers
unfolding is_sendable
record_saved s memory bytes answers fit f read e o w = let r = is_read s read e in rw (w, sym fit ∙ f, r.0) (ap send_saved o ∙ rw r.1)

-- or sent to no call
module _ (s memory bytes answers : List ℕ) where
  abbrev Unsent : Type 0
  Unsent = send_returned (returned nothing_sent s memory) answers ≡ after_send s memory bytes answers

  pub unfit_unsent : {t : Bool} → t ≡ fits bytes answers → t ≡ false → Unsent
  unfolding is_sendable
  unfit_unsent fit e = rw (sym fit ∙ e)

  pub unread_unsent : {o : Option Controller} → o ≡ saved_controller s → o ≡ None → Unsent
  unfolding is_sendable
  unread_unsent read e = rw (not_read s read e, and-false (fits bytes answers))

-- the answer of a record that is sent is a count below the one that says that nothing is
pub never_a_count : (s bytes answers : List ℕ) (m : Machine) → is_sendable s bytes answers ≡ true → (send_outcome m bytes).refused < nothing_sent
unfolding is_sendable
never_a_count s bytes answers m e =
    let few : refusals (numbers m (bus_calls bytes)) ≤ length bytes = rw (← calls-length bytes, ← numbers-length m (bus_calls bytes)) (refusals_within (numbers m (bus_calls bytes))) in
    lt_of_le_of_lt few (fitting bytes answers (and_parts _ (is_saved s) e).0).1
