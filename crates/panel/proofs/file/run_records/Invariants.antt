-- As many steps of the file are done as turns were taken.
use Rattle.std.proofs.Common.{◌≡◌}
use Rattle.session.specs.File.{progress}
use Rattle.session.specs.Records.{lent}
use Rattle.panel.specs.Reading.{InPart, Done}
use Rattle.panel.proofs.file.run_records.Given as goal

abbrev pub invariant-loop : goal.invariant-loop
invariant-loop g l =
    Done l.initial.run.font.now (progress l.initial.run) l.counter l.run l.input
    × InPart l.run.step.at l.input
    × (lent l.run ≡ lent l.initial.run)
