use Rattle.dots.proofs.InPlace.{Replaced}
use Rattle.dots.proofs.clearing.clear.Given as goal

abbrev pub invariant-loop-byte : goal.invariant-loop-byte
invariant-loop-byte l = Replaced (λ c. 0) l.initial.line l.line l.byte-index
