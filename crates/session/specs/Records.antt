-- Reference, 'The program'; 01, 'Bus file and its program': what each record does, and the lines that it prints.
use Rattle.std.specs.Prelude.{ℕ, zero, suc, ◌+◌, List, [], ◌∷◌, ◌++◌, replicate}
use Rattle.choice.specs.Choice.{when◌then◌else◌, ◌=?◌}
use Rattle.registers.specs.Refusals.{Reply}
use Rattle.row.specs.Rows.{RowAnswer, row_answer, frame_size}
use Rattle.model.specs.Machine.{Machine, machine}
use Rattle.model.specs.Calls.{BusCall, command, write, read, bus_calls, call, after}
use Rattle.busfile.specs.declared.Kind.{Kind}
use Rattle.busfile.specs.declared.Kind.TheVariants.{Bus, Reads, Frame}
use Rattle.busfile.specs.Records.{word_of, double_word_of}
use Rattle.lines.specs.Lines.{refused_line, read_line, frame_line, row_line}
use Rattle.session.specs.declared.Session.{Session}
use Rattle.session.specs.declared.LentStep.{LentStep}
use Rattle.session.specs.Output.{Buffer, buffer, printed_all}

-- The calls of a record: a command byte, then its data writes; a count of reads

abbrev pub record_calls : Kind → List ℕ → List BusCall
record_calls Bus payload = bus_calls payload
record_calls Reads payload = replicate (word_of payload) read
record_calls Frame payload = []

-- Their lines: `refused RECORD BYTE NUMBER`, or of a read that is not refused `read RECORD INDEX VALUE`

abbrev pub write_reply_lines : ℕ → ℕ → Reply → List (List ℕ)
write_reply_lines r k a = when a.refusal =? 0 then [] else refused_line r k a.refusal ∷ []

abbrev pub read_reply_lines : ℕ → ℕ → Reply → List (List ℕ)
read_reply_lines r k a = when a.refusal =? 0 then read_line r k a.value ∷ [] else refused_line r k a.refusal ∷ []

abbrev pub call_lines : ℕ → ℕ → BusCall → Reply → List (List ℕ)
call_lines r k (command b) a = write_reply_lines r k a
call_lines r k (write b) a = write_reply_lines r k a
call_lines r k read a = read_reply_lines r k a

-- of calls that are numbered from k on
abbrev pub calls_lines : ℕ → ℕ → Machine → List BusCall → List (List ℕ)
calls_lines r k m [] = []
calls_lines r k m (c ∷ cs) = call_lines r k c (call m c).reply ++ calls_lines r (k + 1) (call m c).machine cs

-- A frame: `frame RECORD FRAME WIDTH ROWS`, then one line a row; its refusal, byte zero, once and in place of it. Its rows are accepted or refused
-- together, so the first one tells.

-- k rows from row n on
abbrev pub row_lines : (ℕ → RowAnswer) → ℕ → ℕ → List (List ℕ)
row_lines row n zero = []
row_lines row n (suc k) = row_line (row n).dots ∷ row_lines row (n + 1) k

abbrev pub framed : ℕ → ℕ → ℕ → ℕ → (ℕ → RowAnswer) → List (List ℕ)
framed r frame width rows row =
    when (row 0).refusal =? 0 then frame_line r frame width rows ∷ row_lines row 0 rows
    else refused_line r 0 (row 0).refusal ∷ []

-- row n, asked of a machine with a buffer of a length
abbrev pub row_of : Machine → List ℕ → ℕ → ℕ → ℕ → RowAnswer
row_of m font frame buffer_length n = row_answer m.controller.registers m.memory font frame n buffer_length

abbrev pub frame_lines : ℕ → Machine → List ℕ → ℕ → List (List ℕ)
frame_lines r m font frame =
    let size = frame_size m.controller.registers in
    framed r frame size.width size.rows.0 (row_of m font frame size.width)

-- A record

abbrev pub record_lines : ℕ → Machine → List ℕ → Kind → List ℕ → List (List ℕ)
record_lines r m font Bus payload = calls_lines r 1 m (record_calls Bus payload)
record_lines r m font Reads payload = calls_lines r 1 m (record_calls Reads payload)
record_lines r m font Frame payload = frame_lines r m font (double_word_of payload)

-- a machine, and the output's buffer
pub record State : Type 0 where
  pub machine : Machine
  pub output : Buffer

-- the state that a session stands for, beside memory and the bytes of the output's buffer
abbrev pub state_with : Session → List ℕ → List ℕ → State
state_with s memory out = record { machine = machine s.controller memory; output = buffer out s.output.used }

-- the state that a lent step stands for, and the output's buffer alone
abbrev pub state : {P : Type 0} → LentStep P → State
state s = state_with s.step.session s.memory.now s.out.now

abbrev pub buffer_of : {P : Type 0} → LentStep P → Buffer
buffer_of s = (state s).output

-- what it is lent: the bytes of the font, and which memory and which buffer
pub record Lent : Type 0 where
  pub font : List ℕ
  pub memory : ℕ
  pub buffer : ℕ

abbrev pub lent : {P : Type 0} → LentStep P → Lent
lent s = record { font = s.font.now; memory = s.memory.ghost_name; buffer = s.out.ghost_name }

-- calls carried out, and lines printed
abbrev pub carried_out : State → List BusCall → List (List ℕ) → State
carried_out s cs lines = record { machine = after s.machine cs; output = printed_all s.output lines }

-- the state after a record
abbrev pub after_record : ℕ → List ℕ → Kind → List ℕ → State → State
after_record r font kind payload s = carried_out s (record_calls kind payload) (record_lines r s.machine font kind payload)
