-- Every line of a record is short.
use Rattle.std.proofs.Common.{◌≡◌, ℕ, not, Option, None, Some, zero, suc, ◌+◌, ◌^◌, ◌<◌, ◌≤◌, List, [], ◌∷◌, ◌++◌, length, get_or, drop, replicate, refl, arith, lit<, get_or-drop, eqb-true}
use Rattle.std.proofs.lemmas.List.{length-map, length-replicate}
use Rattle.registers.specs.declared.Command.{Command}
use Rattle.registers.specs.declared.Registers.{Registers}
use Rattle.registers.specs.Commands.{command_of}
use Rattle.choice.specs.Choice.{◌=?◌}
use Rattle.choice.proofs.Cases.{choose}
use Rattle.registers.specs.Refusals.{Reply}
use Rattle.registers.specs.Layout.{in_layout}
use Rattle.dots.proofs.Tables.{length_table}
use Rattle.row.specs.Dots.{dots}
use Rattle.row.specs.Refusals.{row_refusal}
use Rattle.row.specs.Rows.{RowAnswer, row_answer, frame_size}
use Rattle.row.proofs.Accepting.{accepted_width}
use Rattle.model.specs.Bus.{sized, served, take_command, command_write, write_data, data_write, read_data, data_read, write_memory, write_parameter, read_memory, read_cursor}
use Rattle.model.specs.Calls.{BusCall, command, write, read, bus_calls, call}
use Rattle.model.specs.Machine.{Machine, Outcome}
use Rattle.model.specs.Refresh.{All, Byte}
use Rattle.model.proofs.Runs.{byte_at_lem}
use Rattle.busfile.specs.declared.Kind.TheVariants.{Bus, Reads, Frame}
use Rattle.busfile.specs.Records.{word_of, double_word_of}
use Rattle.lines.specs.Lines.{ascii, refused_line, read_line, frame_line}
use Rattle.lines.proofs.Lengths.{Small, line-length, row-length}
use Rattle.session.specs.Records.{write_reply_lines, read_reply_lines, call_lines, calls_lines, row_lines, framed, frame_lines}
use Rattle.session.specs.Stream.{Short, LinesShort}

-- The number of a refusal fits in a byte

abbrev SmallRefusal : Outcome → Type 0
SmallRefusal o = Byte o.reply.refusal

taken_refusal : (o : Option Command) (m : Machine) (b : ℕ) → SmallRefusal (take_command o m b)
unfolding take_command
taken_refusal None m b = lit< tt
taken_refusal (Some c) m b = search (choose SmallRefusal, lit<) depth 12

written_refusal : (o : Option Command) (m : Machine) (b : ℕ) → SmallRefusal (write_data o m b)
unfolding write_data write_memory write_parameter
written_refusal None m b = lit< tt
written_refusal (Some c) m b = search (choose SmallRefusal, lit<) depth 12

read_refusal : (o : Option Command) (m : Machine) → SmallRefusal (read_data o m)
unfolding read_data read_memory read_cursor
read_refusal None m = lit< tt
read_refusal (Some c) m = search (choose SmallRefusal, lit<) depth 12

call_refusal : (m : Machine) (c : BusCall) → SmallRefusal (call m c)
unfolding command_write data_write data_read
call_refusal m (command b) = taken_refusal (command_of b) m b
call_refusal m (write b) = choose SmallRefusal (not (sized m)) _ _ (λ e. lit< tt) (λ e. written_refusal (served m.controller) m b)
call_refusal m read = choose SmallRefusal (not (sized m)) _ _ (λ e. lit< tt) (λ e. read_refusal (served m.controller) m)

row_refusal_lem : (r : Registers) (memory font n buffer : ℕ) → Byte (row_refusal r memory font n buffer)
unfolding row_refusal
row_refusal_lem r memory font n buffer = search (choose Byte, lit<) depth 28

-- Calls: a line has at most three numbers, each of 64 bits

refused_short : (r k n : ℕ) → Small (r ∷ k ∷ n ∷ []) → Short (refused_line r k n)
refused_short r k n small = line-length (ascii "refused") (r ∷ k ∷ n ∷ []) (ascii "\n") small (omega arith)

write_short : (r k : ℕ) (a : Reply) → Small (r ∷ k ∷ a.refusal ∷ []) → All Short (write_reply_lines r k a)
write_short r k a small = choose (All Short) (a.refusal =? 0) [] (refused_line r k a.refusal ∷ []) (λ e. tt) (λ e. (refused_short r k a.refusal small, tt))

read_short : (r k : ℕ) (a : Reply) → Small (r ∷ k ∷ a.refusal ∷ []) → All Short (read_reply_lines r k a)
read_short r k a small =
    choose (All Short) (a.refusal =? 0) (read_line r k a.value ∷ []) (refused_line r k a.refusal ∷ [])
    (λ e. (line-length (ascii "read") (r ∷ k ∷ []) _ (omega arith) (omega arith), tt))
    (λ e. (refused_short r k a.refusal small, tt))

call_short : (r k : ℕ) (c : BusCall) (a : Reply) → Small (r ∷ k ∷ a.refusal ∷ []) → All Short (call_lines r k c a)
call_short r k (command b) = write_short r k
call_short r k (write b) = write_short r k
call_short r k read = read_short r k

pub both_short : (xs ys : List (List ℕ)) → All Short xs → All Short ys → All Short (xs ++ ys)
both_short [] ys p q = q
both_short (x ∷ xs) ys p q = (p.0, both_short xs ys p.1 q)

-- calls that are numbered from k on, the last number being of 64 bits too
calls_short : (r k : ℕ) (m : Machine) (cs : List BusCall) → r < 2 ^ 64 → k + length cs ≤ 2 ^ 64 → All Short (calls_lines r k m cs)
calls_short r k m [] h l = tt
calls_short r k m (c ∷ cs) h l =
    both_short (call_lines r k c (call m c).reply) (calls_lines r (k + 1) (call m c).machine cs)
    (call_short r k c (call m c).reply (omega (arith, call_refusal m c)))
    (calls_short r (k + 1) (call m c).machine cs h (omega arith))

-- A frame: a row has at most 640 dots, so the frame's width is small too

-- a refused row has no dots, an accepted one is at most 640 wide
few_dots : (registers : Registers) (memory font : List ℕ) (frame n buffer : ℕ) → length (row_answer registers memory font frame n buffer).dots ≤ 640
unfolding row_answer dots
few_dots registers memory font frame n buffer =
    let r = in_layout registers in
    choose (λ (ds : List ℕ). length ds ≤ 640) (row_refusal r (length memory) (length font) n buffer =? 0) (dots r memory font frame n) []
    (λ e. rw length_table (accepted_width r (length memory) (length font) n buffer (eqb-true _ 0 e)))
    (λ e. omega arith)

rows_short : (row : ℕ → RowAnswer) (n k : ℕ) → ((n : ℕ) → length (row n).dots ≤ 640) → All Short (row_lines row n k)
rows_short row n zero few = tt
rows_short row n (suc k) few = (omega (arith, row-length (row n).dots, few n), rows_short row (n + 1) k few)

framed_short : (r frame width rows : ℕ) (row : ℕ → RowAnswer) → Small (r ∷ frame ∷ rows ∷ (row 0).refusal ∷ []) → ((row 0).refusal ≡ 0 → width ≤ 640)
    → ((n : ℕ) → length (row n).dots ≤ 640) → All Short (framed r frame width rows row)
framed_short r frame width rows row small narrow few =
    choose (All Short) ((row 0).refusal =? 0) (frame_line r frame width rows ∷ row_lines row 0 rows) (refused_line r 0 (row 0).refusal ∷ [])
    (λ e. (line-length (ascii "frame") (r ∷ frame ∷ width ∷ rows ∷ []) (ascii "\n") (omega (arith, narrow (eqb-true _ 0 e))) (omega arith), rows_short row 0 rows few))
    (λ e. (refused_short r 0 (row 0).refusal (omega arith), tt))

few_rows : (registers : Registers) → registers.system.lf.0 < 256 → (frame_size registers).rows.0 ≤ 256
unfolding in_layout
few_rows registers h = omega arith

frame_short : (r : ℕ) (m : Machine) (font : List ℕ) (frame : ℕ) → r < 2 ^ 64 → m.controller.registers.system.lf.0 < 256 → frame < 2 ^ 32
    → All Short (frame_lines r m font frame)
unfolding row_answer
frame_short r m font frame h l f =
    let registers = m.controller.registers in
    let size = frame_size registers in
    framed_short r frame size.width size.rows.0 (λ n. row_answer registers m.memory font frame n size.width)
    (omega (arith, few_rows registers l, row_refusal_lem (in_layout registers) (length m.memory) (length font) 0 size.width))
    (accepted_width (in_layout registers) (length m.memory) (length font) 0 size.width)
    (λ n. few_dots registers m.memory font frame n size.width)

-- The numbers in a payload of bytes

word_below : (s : List ℕ) → ((i : ℕ) → Byte (get_or s i 0)) → word_of s < 2 ^ 16
unfolding word_of
word_below s h = omega (arith, h 0, h 1)

double_word_below : (s : List ℕ) → ((i : ℕ) → Byte (get_or s i 0)) → double_word_of s < 2 ^ 32
unfolding double_word_of
double_word_below s h = omega (arith, word_below s h, word_below (drop 2 s) (λ i. rw get_or-drop (h (2 + i))))

-- a call for each byte
bus_count : (payload : List ℕ) → length (bus_calls payload) ≡ length payload
bus_count [] = refl
bus_count (b ∷ bs) = rw length-map

pub lines_short : LinesShort
lines_short r m font Bus payload h l bytes long = calls_short r 1 m (bus_calls payload) h (omega (arith, bus_count payload))
lines_short r m font Reads payload h l bytes long =
    calls_short r 1 m (replicate (word_of payload) read) h (omega (arith, length-replicate (word_of payload) read, word_below payload (byte_at_lem payload bytes)))
lines_short r m font Frame payload h l bytes long = frame_short r m font (double_word_of payload) h l (double_word_below payload (byte_at_lem payload bytes))
