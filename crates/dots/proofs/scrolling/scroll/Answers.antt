use Rattle.std.proofs.Common.{ℕ, ◌≡◌, ◌+◌, ◌-◌, length, get_or, arith, ◌∙◌, subst, length-set, ne_eqb}
use Rattle.std.proofs.lemmas.List.{get_or_past}
use Rattle.dots.specs.Scrolled.{scrolled_byte, scrolled}
use Rattle.dots.proofs.InPlace.{Replaced, one_more, all_replaced}
use Rattle.dots.proofs.scrolling.scroll.Goals as goal

-- the last column goes on with 0
pub returns-in-Some : goal.returns-in-Some
unfolding scrolled
returns-in-Some c =
    let a = c.args in
    let l = c.loop-i in
    let item = c.in-Some.ensures.item in
    let k : ℕ = length l.line - 1 in
    let at_last : l.i - 1 ≡ k = omega (arith, item.3.0, l.auto.line, l.auto.i, l.auto.i-end, c.loop-i-test.false) in
    let before : Replaced (λ x. scrolled_byte a.per a.n (get_or a.line.now x 0) (get_or a.line.now (x + 1) 0)) a.line.now l.line k =
    subst (λ (x : ℕ). Replaced (λ y. scrolled_byte a.per a.n (get_or a.line.now y 0) (get_or a.line.now (y + 1) 0)) a.line.now l.line x) at_last l.invariant in
    let last : c.scrolled_byte-in-Some.result ≡ scrolled_byte a.per a.n (get_or a.line.now k 0) (get_or a.line.now (k + 1) 0) =
    c.scrolled_byte-in-Some.ensures
    ∙ rw (item.3.1 0 ∙ before.rest k (omega arith), get_or_past a.line.now (k + 1) 0 (omega (arith, item.3.0, l.auto.line))) in
    simp (ne_eqb _ _ c.if-n-eq0.false)
    (all_replaced _ _ _ _ (one_more _ _ _ _ _ before (omega (arith, item.3.0)) last) (omega (arith, length-set l.line k c.scrolled_byte-in-Some.result)))

pub returns-in_default : goal.returns-in_default
unfolding scrolled
returns-in_default c =
    let none = c.in_default.ensures.item.3 in
    simp (ne_eqb _ _ c.if-n-eq0.false) (all_replaced _ _ _ _ c.loop-i.invariant (omega (arith, none)))
