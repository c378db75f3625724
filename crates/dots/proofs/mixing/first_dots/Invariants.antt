use Rattle.std.proofs.Common.{◌≡◌}
use Rattle.dots.specs.MixedBytes.{first_dots}
use Rattle.dots.proofs.mixing.first_dots.Given as goal

abbrev pub invariant-loop-j : goal.invariant-loop-j
invariant-loop-j g l = l.mixed ≡ first_dots g.row.BITS l.j l.a l.b
