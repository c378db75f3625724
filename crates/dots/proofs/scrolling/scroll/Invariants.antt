use Rattle.std.proofs.Common.{◌+◌, ◌-◌, get_or}
use Rattle.dots.specs.Scrolled.{scrolled_byte}
use Rattle.dots.proofs.InPlace.{Replaced}
use Rattle.dots.proofs.scrolling.scroll.Given as goal

abbrev pub invariant-loop-i : goal.invariant-loop-i
invariant-loop-i l = Replaced (λ c. scrolled_byte l.per l.n (get_or l.initial.line c 0) (get_or l.initial.line (c + 1) 0)) l.initial.line l.line (l.i - 1)
