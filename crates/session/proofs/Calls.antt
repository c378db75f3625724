-- Calls carried out one by one.
use Rattle.std.proofs.Common.{◌≡◌, ℕ, suc, ◌+◌, ◌-◌, ◌<◌, ◌≤◌, List, [], ◌∷◌, ◌++◌, map, length, get_or, take, drop, replicate, sym, refl, ◌∙◌, subst, inl, append-nil, add-zero, add-one, arith, take-append-drop, length-drop, length-take-le, drop-cons, drop-drop}
use Rattle.registers.specs.Refusals.{accepted}
use Rattle.model.specs.Machine.{Machine, Outcome}
use Rattle.model.specs.Calls.{BusCall, write, read, call, after, outcomes}
use Rattle.model.specs.Refresh.{All}
use Rattle.model.specs.WriteRun.{run_length, RunOutcome, run_outcome}
use Rattle.model.proofs.WriteRuns.{run_within, run_accepted}
use Rattle.session.specs.Records.{call_lines}
use Rattle.session.specs.Carrying.{Live, CarriesOut, Prints, CarriesOutCalls}
use Rattle.session.proofs.Buffers.{printed_both, flushes_both, open_both}

abbrev moved : Live → Machine → Live
moved s m = record s { state = record { machine = m; output = s.state.output } }

-- a call whose outcome is known and whose lines are printed
pub one_call : (r k : ℕ) (s : Live) (c : BusCall) {w : Outcome} {t : Live} → w ≡ call s.state.machine c
    → Prints (call_lines r k c w.reply) (moved s w.machine) t → CarriesOutCalls r k (c ∷ []) s t
one_call r k s c e h =
    record {
      state = rw append-nil (rw e at h.state);
      stays = rw append-nil (rw e at h.stays);
      same = h.same;
    }

pub no_calls : (r k : ℕ) (s : Live) (cs : List BusCall) → cs ≡ [] → CarriesOutCalls r k cs s s
no_calls r k s cs e = rw e (record { state = refl; stays = inl refl; same = refl })

-- a call, and those after it
pub call_first : (r k : ℕ) (s : Live) (c : BusCall) (cs : List BusCall) {t u : Live} → CarriesOutCalls r k (c ∷ []) s t → CarriesOutCalls r (k + 1) cs t u
    → CarriesOutCalls r k (c ∷ cs) s u
call_first r k s c cs h rest =
    record {
      state = rest.state ∙ rw (h.state, append-nil, printed_both);
      stays = rw flushes_both (open_both _ _ (rw append-nil at h.stays) (rw (h.state, append-nil) at rest.stays));
      same = rest.same ∙ h.same;
    }

-- lines after lines
pub lines_both : (xs ys : List (List ℕ)) {s t u : Live} → CarriesOut [] xs s t → CarriesOut [] ys t u → CarriesOut [] (xs ++ ys) s u
lines_both xs ys h rest =
    record {
      state = rest.state ∙ rw (h.state, printed_both);
      stays = rw flushes_both (open_both _ _ h.stays (rw h.state at rest.stays));
      same = rest.same ∙ h.same;
    }

-- one data byte more of a payload
pub data_more : (r i : ℕ) (payload : List ℕ) (s : Live) {t u : Live} → i < length payload → CarriesOutCalls r (i + 1) (write (get_or payload i 0) ∷ []) s t
    → CarriesOutCalls r (i + 1 + 1) (map write (drop (i + 1) payload)) t u → CarriesOutCalls r (i + 1) (map write (drop i payload)) s u
data_more r i payload s {u = u} h e rest =
    subst (λ (bs : List ℕ). CarriesOutCalls r (i + 1) (map write bs) s u) (sym split)
    (call_first r (i + 1) s (write (get_or payload i 0)) (map write (drop (i + 1) payload)) e rest)
  where
    split : drop i payload ≡ get_or payload i 0 ∷ drop (i + 1) payload
    split = rw add-one (drop-cons payload i 0 h)

-- data writes that are accepted print nothing; those after them
writes_first : (r k : ℕ) (s : Live) (bs cs : List ℕ) {u : Live} → All (λ o. o.reply ≡ accepted) (outcomes s.state.machine (map write bs))
    → CarriesOutCalls r (k + length bs) (map write cs) (moved s (after s.state.machine (map write bs))) u → CarriesOutCalls r k (map write (bs ++ cs)) s u
writes_first r k s [] cs all rest = rw add-zero at rest
writes_first r k s (b ∷ bs) cs all rest =
    let m = s.state.machine in
    call_first r k s (write b) (map write (bs ++ cs))
    (one_call r k s (write b) refl (record { state = rw all.0 refl; stays = rw all.0 (inl refl); same = refl }))
    (writes_first r (k + 1) (moved s (call m (write b)).machine) bs cs all.1 (rw further at rest))
  where
    further : k + suc (length bs) ≡ k + 1 + length bs
    further = omega arith

-- the run takes no more than the data
pub run_in_data : (payload : List ℕ) (m : Machine) {o : RunOutcome} → o ≡ run_outcome m (drop 1 payload) → o.length ≤ length payload - 1
run_in_data payload m e = rw e (omega (arith, run_within m (drop 1 payload), length-drop 1 payload))

-- the run that a payload's data start with; the data after it
pub run_first : (r : ℕ) (payload : List ℕ) (s : Live) {o : RunOutcome} {u : Live} → o ≡ run_outcome s.state.machine (drop 1 payload)
    → CarriesOutCalls r (1 + o.length + 1) (map write (drop (1 + o.length) payload)) (moved s o.machine) u → CarriesOutCalls r 2 (map write (drop 1 payload)) s u
run_first r payload s {u = u} e rest =
    let m = s.state.machine in
    let n = run_length m (drop 1 payload) in
    subst (λ (bs : List ℕ). CarriesOutCalls r 2 (map write bs) s u) (take-append-drop n (drop 1 payload))
    (writes_first r 2 s (take n (drop 1 payload)) (drop n (drop 1 payload)) (run_accepted m (drop 1 payload))
    (rw (drop-drop, length-take-le n (drop 1 payload) (run_within m (drop 1 payload)), ← further n) (rw e at rest)))
  where
    further : (n : ℕ) → 1 + n + 1 ≡ 2 + n
    further n = omega arith

-- one read more, numbered i of a count
pub read_more : (r i count : ℕ) (s : Live) {t u : Live} → i ≤ count → CarriesOutCalls r i (read ∷ []) s t
    → CarriesOutCalls r (i + 1) (replicate (count + 1 - (i + 1)) read) t u → CarriesOutCalls r i (replicate (count + 1 - i) read) s u
read_more r i count s {u = u} h e rest =
    subst (λ (n : ℕ). CarriesOutCalls r i (replicate n read) s u) one_less
    (call_first r i s read (replicate (count + 1 - (i + 1)) read) e rest)
  where
    one_less : suc (count + 1 - (i + 1)) ≡ count + 1 - i
    one_less = omega arith
