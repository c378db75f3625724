use Rattle.std.proofs.Common.{arith}
use Rattle.std.proofs.lemmas.Grind.{common_steps}
use Rattle.busfile.proofs.Ends.{at_left}
use Rattle.busfile.proofs.reading.record_at.Goals as goal

pub returns-in_default : goal.returns-in_default
returns-in_default c =
    let here = at_left c.args.s.now c.rest-left.result.now c.args.at c.rest-left.ensures c.if-left-lt4.false in
    grind (arith, common_steps)

pub returns : goal.returns
returns c =
    let here = at_left c.args.s.now c.rest-left.result.now c.args.at c.rest-left.ensures c.if-left-lt4.false in
    grind (arith, common_steps)
