-- What the functions below `next` promise: calls carried out and lines printed, from one state to another. Nothing public cites it.
use Rattle.std.specs.Prelude.{◌≡◌, ℕ, Bool, List, []}
use Rattle.model.specs.Calls.{BusCall}
use Rattle.busfile.specs.declared.Kind.{Kind}
use Rattle.session.specs.declared.LentStep.{LentStep}
use Rattle.session.specs.Output.{flushes, OpenAfter}
use Rattle.session.specs.Records.{State, Lent, state, lent, carried_out, calls_lines, record_calls, record_lines}

-- what stays while a record is carried out: what is lent, and how far the file is
pub record Kept : Type 0 where
  pub lent : Lent
  pub at : ℕ
  pub good : ℕ
  pub more : Bool

abbrev pub kept : {P : Type 0} → LentStep P → Kept
kept s = record { lent = lent s; at = s.step.at; good = s.step.good; more = s.step.more }

-- a state, whether standard output takes bytes, and what stays
pub record Live : Type 0 where
  pub state : State
  pub takes : Bool
  pub kept : Kept

abbrev pub live : {P : Type 0} → LentStep P → Live
live s = record { state = state s; takes = s.step.session.output.open; kept = kept s }

-- calls are carried out, and lines are printed
pub record CarriesOut (calls : List BusCall) (lines : List (List ℕ)) (s t : Live) : Type 0 where
  pub state : t.state ≡ carried_out s.state calls lines
  pub stays : OpenAfter s.takes (flushes s.state.output lines) t.takes
  pub same : t.kept ≡ s.kept

-- lines alone are printed, into the same buffer
abbrev pub Prints : List (List ℕ) → Live → Live → Type 0
Prints lines s t = CarriesOut [] lines s t

-- calls that are numbered from k on are carried out, and their lines are printed
abbrev pub CarriesOutCalls : ℕ → ℕ → List BusCall → Live → Live → Type 0
CarriesOutCalls r k calls s t = CarriesOut calls (calls_lines r k s.state.machine calls) s t

-- a record is carried out
abbrev pub CarriesOutRecord : ℕ → Kind → List ℕ → Live → Live → Type 0
CarriesOutRecord r kind payload s t =
    CarriesOut (record_calls kind payload) (record_lines r s.state.machine s.kept.lent.font kind payload) s t
