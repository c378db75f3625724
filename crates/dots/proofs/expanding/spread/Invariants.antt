use Rattle.std.proofs.Common.{ℕ, ◌≡◌, ◌<◌, get_or}
use Rattle.dots.specs.Bytes.{dot_of}
use Rattle.dots.proofs.expanding.spread.Given as goal

abbrev pub invariant-loop-j : goal.invariant-loop-j
invariant-loop-j g l = (k : ℕ) → k < l.j → get_or l.out k 0 ≡ dot_of g.row.BITS l.b k
