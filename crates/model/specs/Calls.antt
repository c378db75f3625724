-- Reference, 'The full refresh'; 01, 'The full refresh': lists of calls. Each call gets the controller and the memory that the
-- one before it left.
use Rattle.std.specs.Prelude.{ℕ, List, [], ◌∷◌, map}
use Rattle.registers.specs.Refusals.{Reply}
use Rattle.row.specs.Rows.{RowAnswer, row_answer}
use Rattle.model.specs.Machine.{Machine, Outcome, machine, reset_controller}
use Rattle.model.specs.Bus.{command_write, data_write, data_read}

pub data BusCall : Type 0 where
  command : ℕ → BusCall
  write : ℕ → BusCall
  read : BusCall

-- a command with its data
abbrev pub sending : ℕ → List ℕ → List BusCall
sending code bs = command code ∷ map write bs

-- 'Bus files', a record of kind 1: the same as bytes, the command's code first
abbrev pub bus_calls : List ℕ → List BusCall
bus_calls [] = []
bus_calls (b ∷ bs) = sending b bs

abbrev pub call : Machine → BusCall → Outcome
call m (command b) = command_write m b
call m (write b) = data_write m b
call m read = data_read m

-- the machine that a list leaves
abbrev pub after : Machine → List BusCall → Machine
after m [] = m
after m (c ∷ cs) = after (call m c).machine cs

-- what each call of a list leaves and answers
abbrev pub outcomes : Machine → List BusCall → List Outcome
outcomes m [] = []
outcomes m (c ∷ cs) = call m c ∷ outcomes (call m c).machine cs

-- a controller as reset leaves it, beside any memory
abbrev pub reset : List ℕ → Machine
reset memory = machine reset_controller memory

-- Calls with rows among them

-- what a row is asked with
pub record RowRequest : Type 0 where
  pub row : ℕ
  pub font : List ℕ
  pub frame : ℕ
  pub buffer_length : ℕ

pub data Call : Type 0 where
  bus : BusCall → Call
  row : RowRequest → Call

pub data CallAnswer : Type 0 where
  replied : Reply → CallAnswer
  composed : RowAnswer → CallAnswer

pub record CallOutcome : Type 0 where
  pub machine : Machine
  pub answer : CallAnswer

-- a row leaves the machine as it is
abbrev pub call_outcome : Machine → Call → CallOutcome
call_outcome m (bus c) = record { machine = (call m c).machine; answer = replied (call m c).reply }
call_outcome m (row q) =
    record {
      machine = m;
      answer = composed (row_answer m.controller.registers m.memory q.font q.frame q.row q.buffer_length);
    }

-- after each call of a list: registers, cursor and memory, and the answer
abbrev pub trace : Machine → List Call → List CallOutcome
trace m [] = []
trace m (c ∷ cs) = call_outcome m c ∷ trace (call_outcome m c).machine cs
