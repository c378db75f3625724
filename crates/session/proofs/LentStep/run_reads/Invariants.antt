-- What carries the rest out from here carries the whole out from the start.
use Rattle.std.proofs.Common.{◌+◌, ◌-◌, replicate}
use Rattle.model.specs.Calls.{read}
use Rattle.session.specs.Carrying.{Live, live, CarriesOutCalls}
use Rattle.session.proofs.LentStep.run_reads.Given as goal

abbrev pub invariant-loop-i : goal.invariant-loop-i
invariant-loop-i g l =
    (t : Live) → CarriesOutCalls l.«record» l.i (replicate (l.count + 1 - l.i) read) (live l.self) t
    → CarriesOutCalls l.«record» 1 (replicate l.count read) (live l.initial.self) t
