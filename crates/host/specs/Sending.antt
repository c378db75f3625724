-- Reference, 'The library': a record of kind 1 sent to a saved controller, with an answer byte for each of its bytes.
use Rattle.std.specs.Prelude.{ℕ, ◌+◌, Bool, ◌&&◌, List, [], ◌∷◌, map, length}
use Rattle.choice.specs.Choice.{when◌then◌else◌, ◌<?◌, ◌=?◌}
use Rattle.model.specs.Machine.{Machine, machine}
use Rattle.model.specs.Calls.{BusCall, bus_calls, after, outcomes}
use Rattle.model.specs.declared.Controller.{Controller}
use Rattle.host.specs.Saved.{is_saved, controller_of}
use Rattle.host.specs.Calls.{Returned, returned, saving}

-- the number of each call's refusal, 0 where there is none
abbrev pub numbers : Machine → List BusCall → List ℕ
numbers m cs = map (λ o. o.reply.refusal) (outcomes m cs)

abbrev pub refusal_count : ℕ → ℕ
refusal_count number = when number =? 0 then 0 else 1

-- how many of them are refusals
abbrev pub refusals : List ℕ → ℕ
refusals [] = 0
refusals (n ∷ ns) = refusal_count n + refusals ns

-- what the calls of a record leave and answer, and how many are refused
pub record SendOutcome : Type 0 where
  pub machine : Machine
  pub refused : ℕ
  pub answers : List ℕ

abbrev pub answered : Machine → List ℕ → SendOutcome
answered m ns = record { machine = m; refused = refusals ns; answers = ns }

abbrev pub send_outcome : Machine → List ℕ → SendOutcome
send_outcome m bytes = answered (after m (bus_calls bytes)) (numbers m (bus_calls bytes))

-- the outcome that the code's answer stands for, with controller, memory and answers as it leaves them
abbrev pub sent_outcome : Controller → ℕ → List ℕ → List ℕ → SendOutcome
sent_outcome c refused memory answers = record { machine = machine c memory; refused = refused; answers = answers }

-- the answer where nothing is sent
abbrev pub nothing_sent : ℕ
nothing_sent = 0xFFFFFFFF

-- one byte or more, and an answer for each; and so few that the count of refused bytes is never the answer above
abbrev pub fits : List ℕ → List ℕ → Bool
fits bytes answers = length answers =? length bytes && 0 <? length bytes && length bytes <? nothing_sent

-- to a saved controller
unfoldable pub is_sendable : List ℕ → List ℕ → List ℕ → Bool
is_sendable s bytes answers = fits bytes answers && is_saved s

pub record SendReturned : Type 0 where
  pub returned : Returned
  pub answers : List ℕ

abbrev pub send_returned : Returned → List ℕ → SendReturned
send_returned r answers = record { returned = r; answers = answers }

abbrev pub send_saved : SendOutcome → SendReturned
send_saved o = send_returned (saving o.refused o.machine) o.answers

abbrev pub after_send : List ℕ → List ℕ → List ℕ → List ℕ → SendReturned
after_send s memory bytes answers =
    when is_sendable s bytes answers then send_saved (send_outcome (machine (controller_of s) memory) bytes)
    else send_returned (returned nothing_sent s memory) answers
