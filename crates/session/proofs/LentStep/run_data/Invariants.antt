-- What carries the rest out from here carries out what the run left.
use Rattle.std.proofs.Common.{◌+◌, map, drop}
use Rattle.model.specs.Calls.{write}
use Rattle.session.specs.Carrying.{Live, live, CarriesOutCalls}
use Rattle.session.proofs.LentStep.run_data.Given as goal

abbrev pub invariant-loop-i : goal.invariant-loop-i
invariant-loop-i g l =
    (t : Live) → CarriesOutCalls l.«record» (l.i + 1) (map write (drop l.i l.payload)) (live l.self) t
    → CarriesOutCalls l.«record» (l.initial.i + 1) (map write (drop l.initial.i l.payload)) (live l.initial.self) t
