-- The loop starts behind the command byte and a run, whose answers are the zeros that were there; a turn sends a byte more.
use Rattle.std.proofs.Common.{◌≡◌, ℕ, ◌+◌, ◌<◌, ◌≤◌, List, length, get_or, set, drop, sym, ap, ◌∙◌, arith, length-set, length-drop, get_or-set_other}
use Rattle.std.proofs.lemmas.List.{take_rest}
use Rattle.dots.specs.Tables.{table}
use Rattle.dots.proofs.Tables.{length_table, element}
use Rattle.model.specs.Machine.{machine}
use Rattle.model.specs.WriteRun.{RunOutcome}
use Rattle.model.proofs.WriteRuns.{run_within}
use Rattle.host.specs.Sending.{refusal_count}
use Rattle.host.proofs.SentBytes.{one_refusal, command_sent, run_sent, write_sent}
use Rattle.host.proofs.sending.send.Goals as goal

-- answers that were cleared, the first of them told
told_length : (l : List ℕ) (n first : ℕ) → l ≡ table n (λ c. 0) → length (set l 0 first) ≡ n
told_length l n first e = length-set l 0 first ∙ rw e (length_table n _)

told_zeros : (l : List ℕ) {m n : ℕ} (first : ℕ) → l ≡ table m (λ c. 0) → m ≡ n → (k : ℕ) → 1 ≤ k → k < n → get_or (set l 0 first) k 0 ≡ 0
told_zeros l first e same k h lt = get_or-set_other l 0 k first 0 (λ z. let same : k ≡ 0 = z in omega arith) ∙ element _ e same k lt

pub overflow_step-i : goal.overflow_step-i
overflow_step-i c =
    let bs = drop 1 c.args.bytes.now in
    let taken : c.write_run-taken.result.1 ≤ length bs = rw (ap (λ (o : RunOutcome). o.length) (rw take_rest at c.write_run-taken.ensures)) (run_within _ bs) in
    omega (arith, rw length-drop at taken)

pub loop-i-init : goal.loop-i-init
loop-i-init c =
    let cleared = c.clear.ensures in
    let some = c.requires.0 in
    let same = c.requires.2 in
    let as_long = told_length c.clear.new.line _ c.number.result cleared ∙ same in
    let room : 0 < length c.clear.new.line = rw (cleared, length_table, same) some in
    let count = c.refusal_count-refused.ensures ∙ ap refusal_count (sym c.number.ensures) in
    let first = command_sent (machine c.args.c c.args.memory.now) c.args.bytes.now c.clear.new.line some room (c.command_write-first.ensures c.args.memory.now) c.number.ensures count in
    record {
      sent = run_sent first (rw take_rest at c.write_run-taken.ensures) (told_zeros c.clear.new.line c.number.result cleared same) as_long;
      few = rw count (omega (arith, one_refusal c.number.result));
      as_long = as_long;
    }

pub loop-i-preserved : goal.loop-i-preserved
loop-i-preserved c =
    let l = c.loop-i in
    let n = c.number-in-loop-i in
    let count = c.refusal_count-refused-in-loop-i.ensures ∙ ap refusal_count (sym n.ensures) in
    record {
      sent = write_sent l.invariant.sent c.loop-i-test.true (rw l.invariant.as_long c.loop-i-test.true) c.data_write-answer.ensures n.ensures (ap (λ (k : ℕ). l.refused + k) count);
      few = rw count (omega (arith, l.invariant.few, one_refusal n.result));
      as_long = length-set l.answers l.i n.result ∙ l.invariant.as_long;
    }
