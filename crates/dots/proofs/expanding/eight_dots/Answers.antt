use Rattle.dots.proofs.Halves.{both_halves}
use Rattle.dots.proofs.expanding.eight_dots.Goals as goal

pub returns : goal.returns
returns c = both_halves c.args.b c.half_dots.ensures c.half_dots-2.ensures
