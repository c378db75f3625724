use Rattle.std.proofs.Common.{◌∙◌, ap₂}
use Rattle.dots.specs.Mixing.{first_of}
use Rattle.dots.proofs.MixedBytes.{one_dot_more}
use Rattle.dots.proofs.mixing.first_dots.Goals as goal

pub loop-j-preserved : goal.loop-j-preserved
loop-j-preserved g c = one_dot_more _ _ _ _ _ _ c.requires c.loop-j-test.true c.loop-j.invariant (c.first_of.ensures ∙ ap₂ (λ x y. first_of x y 0) c.dot.ensures c.dot-in-loop-j.ensures)
