-- A file that is read in parts: one turn more.
use Rattle.std.proofs.Common.{◌≡◌, ℕ, zero, suc, ◌+◌, ◌≤◌, Bool, true, false, ◌⊎◌, List, [], ◌++◌, length, replicate, sym, refl, ap, ◌∙◌, subst, inl, inr, ⊎_elim, append_assoc, append-nil, arith, length-append}
use Rattle.registers.specs.Sizes.{memory_size}
use Rattle.choice.specs.Choice.{when◌then◌else◌}
use Rattle.busfile.specs.declared.Found.{Found}
use Rattle.busfile.specs.declared.Found.TheVariants.{Record, Bad, End}
use Rattle.busfile.specs.Records.{record_at}
use Rattle.busfile.specs.Parts.{longest_record}
use Rattle.busfile.proofs.Ends.{record_ends}
use Rattle.session.specs.File.{Progress, start_of, following, found_lines, after_found, next_step, step_lines}
use Rattle.session.specs.Parts.{further_on}
use Rattle.session.specs.Output.{Buffer, printed_all, flushes, OpenAfter}
use Rattle.session.specs.Program.{steps, steps_lines}
use Rattle.session.specs.Reading.{SoFar, ReadsOn, RunPrints}
use Rattle.session.proofs.Buffers.{printed_both, flushes_both, open_both}
use Rattle.session.proofs.Parts.{steps_in_parts}
use Rattle.session.proofs.Program.{program_prints}

-- the last step apart
steps_last : (k : ℕ) (font file : List ℕ) (p : Progress) → steps (suc k) font file p ≡ next_step font file (steps k font file p)
steps_last zero font file p = refl
steps_last (suc k) font file p = steps_last k font file (next_step font file p)

lines_last : (k : ℕ) (font file : List ℕ) (p : Progress) → steps_lines (suc k) font file p ≡ steps_lines k font file p ++ step_lines font file (steps k font file p)
lines_last zero font file p = append-nil (step_lines font file p)
lines_last (suc k) font file p =
    ap (λ (l : List (List ℕ)). step_lines font file p ++ l) (lines_last k font file (next_step font file p)) ∙ sym (append_assoc (step_lines font file p) _ _)

-- what steps print is in the buffer
step_prints : (font file : List ℕ) (p : Progress) → (next_step font file p).state.output ≡ printed_all p.state.output (step_lines font file p)
step_prints font file p = go p.more (record_at file p.at)
  where
    go : (more : Bool) (f : Found)
        → (when more then after_found font file p.at p.good f p.state else p).state.output
        ≡ printed_all p.state.output (when more then found_lines (following p.good) p.state.machine font file f else [])
    go false f = refl
    go true End = refl
    go true Bad = refl
    go true (Record r) = refl

steps_print : (k : ℕ) (font file : List ℕ) (p : Progress) → (steps k font file p).state.output ≡ printed_all p.state.output (steps_lines k font file p)
steps_print zero font file p = refl
steps_print (suc k) font file p = rw (printed_both, ← step_prints font file p) (steps_print k font file (next_step font file p))

abbrev pub placed : ℕ → Progress → Progress
placed at p = record { state = p.state; at = at; good = p.good; more = p.more }

-- a file, cut before and after the reading on
same_file : (before past rest more after : List ℕ) {part part' : List ℕ} → part ≡ past ++ rest → part' ≡ rest ++ more
    → before ++ (part ++ (more ++ after)) ≡ (before ++ past) ++ (part' ++ after)
same_file before past rest more after was becomes = rw (was, becomes) (simp append_assoc)

pub turn_more : (font : List ℕ) (start : Progress) (k : ℕ) (p : Progress) (part part' : List ℕ) (at' : ℕ) (takes takes' ended ended' : Bool)
    → SoFar font start k p takes part ended → ReadsOn part p.at ended part' at' ended'
    → OpenAfter takes (flushes p.state.output (step_lines font part' (placed at' p))) takes'
    → SoFar font start (suc k) (next_step font part' (placed at' p)) takes' part' ended'
turn_more font start k p part part' at' takes takes' ended ended' done r opened =
    record { before = past; reached = λ after last. one_more after last; stays = λ after last. opened_more after last }
  where
    past : List ℕ
    past = done.before ++ r.past

    same_place : further_on (length done.before) p ≡ further_on (length past) (placed at' p)
    same_place = ap (λ (at : ℕ). placed at p) (omega (arith, length-append done.before r.past, r.place))

    none_after : (after : List ℕ) → (ended' ≡ true → after ≡ []) → ended ≡ true → r.more ++ after ≡ []
    none_after after last e = let s = r.still e in rw (s.0, last s.1)

    enough : (after : List ℕ) → (ended' ≡ true → after ≡ []) → (after ≡ []) ⊎ (at' + longest_record ≤ length part')
    enough after last = ⊎_elim (λ e. inl (last e)) (λ l. inr l) r.enough

    file : List ℕ → List ℕ
    file after = past ++ (part' ++ after)

    same : (after : List ℕ) → done.before ++ (part ++ (r.more ++ after)) ≡ file after
    same after = same_file done.before r.past r.rest r.more after r.was r.becomes

    reached : (after : List ℕ) → (ended' ≡ true → after ≡ []) → steps k font (file after) start ≡ further_on (length past) (placed at' p)
    reached after last =
        subst (λ (l : List ℕ). steps k font l start ≡ further_on (length done.before) p) (same after) (done.reached (r.more ++ after) (none_after after last))
        ∙ same_place

    one_more : (after : List ℕ) → (ended' ≡ true → after ≡ []) → steps (suc k) font (file after) start ≡ further_on (length past) (next_step font part' (placed at' p))
    one_more after last =
        steps_last k font (file after) start ∙ ap (next_step font (file after)) (reached after last)
        ∙ sym (steps_in_parts font past part' after (placed at' p) (enough after last)).0

    opened_more : (after : List ℕ) → (ended' ≡ true → after ≡ [])
        → OpenAfter true (flushes start.state.output (steps_lines (suc k) font (file after) start)) takes'
    opened_more after last =
        let was : OpenAfter true (flushes start.state.output (steps_lines k font (file after) start)) takes =
        subst (λ (l : List ℕ). OpenAfter true (flushes start.state.output (steps_lines k font l start)) takes) (same after)
        (done.stays (r.more ++ after) (none_after after last)) in
        let lines : step_lines font part' (placed at' p) ≡ step_lines font (file after) (steps k font (file after) start) =
        (steps_in_parts font past part' after (placed at' p) (enough after last)).1 ∙ ap (step_lines font (file after)) (sym (reached after last)) in
        let held : p.state.output ≡ printed_all start.state.output (steps_lines k font (file after) start) =
        ap (λ (q : Progress). q.state.output) (sym (reached after last)) ∙ steps_print k font (file after) start in
        let behind = printed_all start.state.output (steps_lines k font (file after) start) in
        let now =
        subst (λ (l : List (List ℕ)). OpenAfter takes (flushes behind l) takes') lines
        (subst (λ (b : Buffer). OpenAfter takes (flushes b (step_lines font part' (placed at' p))) takes') held opened) in
        rw (lines_last, flushes_both) (open_both _ _ was now)

-- a step stays within its part
pub place_within : (font part : List ℕ) (p : Progress) → p.at ≤ length part → (next_step font part p).at ≤ length part
place_within font part p h = go p.more (record_at part p.at) refl
  where
    go : (more : Bool) (f : Found) → record_at part p.at ≡ f
        → (when more then after_found font part p.at p.good f p.state else p).at ≤ length part
    go false f e = h
    go true End e = h
    go true Bad e = h
    go true (Record r) e = (record_ends part p.at r e).1

pub run_prints : RunPrints
run_prints font out turns p takes r stopped bytes room =
    let start = start_of (replicate memory_size 0) out in
    let all = (program_prints font r.file out bytes room).1 r.count (rw r.ran stopped) in
    let same = rw r.ran at all in
    record { prints = same.prints; whole = same.whole }
