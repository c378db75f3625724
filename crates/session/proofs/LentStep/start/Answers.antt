use Rattle.std.proofs.Common.{◌∙◌}
use Rattle.session.proofs.LentStep.start.Goals as goal

pub returns-clause-value : goal.returns-clause-value
returns-clause-value g c = c.lend.ensures.value ∙ c.start.ensures.by_index c.args.memory.now c.args.out.now
