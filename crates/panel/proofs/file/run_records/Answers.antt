use Rattle.std.proofs.Common.{suc, ◌-◌, ◌^◌, List, ℕ, sym, ap, subst, ◌∙◌, inl, inr, arith}
use Rattle.session.specs.File.{progress}
use Rattle.session.specs.Records.{Lent}
use Rattle.panel.specs.Reading.{Done}
use Rattle.panel.proofs.Turns.{ran}
use Rattle.panel.proofs.file.run_records.Goals as goal
use Rattle.panel.proofs.file.run_records.Goals.{then-run, else-run}

pub returns-after-loop-clause-ran : goal.returns-after-loop-clause-ran
returns-after-loop-clause-ran g c =
    let s = c.args.run.now in
    let l = c.loop in
    ran s.font.now (progress s) l.counter (2 ^ 64 - 1) l.run l.input l.invariant.0 (inr (inr (omega (arith, l.auto.counter-end, c.loop-test.false))))

pub returns-then-not-run-clause-ran : goal.returns-then-not-run-clause-ran
returns-then-not-run-clause-ran g c =
    let s = c.args.run.now in
    let l = c.loop in
    let t = c.turn in
    let font = ap (λ (x : Lent). x.font) l.invariant.2 in
    let before = subst (λ (f : List ℕ). Done f (progress s) l.counter l.run l.input) (sym font) l.invariant.0 in
    let done = subst (λ (f : List ℕ). Done f (progress s) (suc l.counter) t.new.run t.new.input) font (t.ensures.done (progress s) l.counter before) in
    ran s.font.now (progress s) (suc l.counter) (2 ^ 64 - 1) t.new.run t.new.input done
    (elim c.if-run.branch [
      | then-run w ↦ inr (inl (sym w.value-is ∙ c.if-not-run.true))
      | else-run w ↦ inl w.if-run.false
    ])
