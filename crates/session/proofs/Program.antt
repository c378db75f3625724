-- All that the program prints of a file.
use Rattle.std.proofs.Common.{◌≡◌, ℕ, zero, suc, ◌+◌, ◌-◌, ◌^◌, ◌<◌, ◌≤◌, Bool, true, false, List, [], ◌∷◌, ◌++◌, length, drop, replicate, sym, refl, ap, ◌∙◌, suc-add, zero-add, arith, length-take}
use mathlib.Core.List.{flatten}
use Rattle.choice.specs.Choice.{when◌then◌else◌}
use Rattle.registers.specs.Sizes.{memory_size}
use Rattle.model.specs.Machine.{Machine}
use Rattle.model.specs.Calls.{after}
use Rattle.model.specs.Refresh.{All, Byte}
use Rattle.busfile.specs.declared.Found.{Found}
use Rattle.busfile.specs.declared.Found.TheVariants.{Record, Bad, End}
use Rattle.busfile.specs.Records.{record_at, part_of}
use Rattle.busfile.proofs.Ends.{record_ends}
use Rattle.lines.specs.Lines.{ascii, decimal, end_line, longest_line}
use Rattle.lines.proofs.Lengths.{line-length}
use Rattle.session.specs.Output.{Buffer, buffer, printed, printed_all}
use Rattle.session.specs.Records.{State, after_record, record_calls, record_lines}
use Rattle.session.specs.File.{Progress, start_of, following, found_lines, after_found, next_step}
use Rattle.session.specs.Stream.{held, written_out, Short}
use Rattle.session.specs.Program.{later_lines, lines_from, program_lines, steps, PrintsAll, ProgramPrints}
use Rattle.session.proofs.Buffers.{printed_both}
use Rattle.session.proofs.Bytes.{LfByte, part_bytes, record_keeps}
use Rattle.session.proofs.Short.{both_short, lines_short}
use Rattle.session.proofs.Stream.{nothing_lost}

-- Every line is short

-- the number of a record has 64 bits
following_below : (good : ℕ) → following good < 2 ^ 64
unfolding following
following_below good = omega arith

-- `bad RECORD` and `end COUNT`: a name and a number
number_short : (name : List ℕ) (n : ℕ) → length name ≤ 7 → n < 2 ^ 64 → Short (name ++ decimal n ++ ascii "\n")
number_short name n h below = line-length name (n ∷ []) (ascii "\n") (below, tt) (h, omega arith, omega arith)

module _ (font file : List ℕ) (bytes : All Byte file) where
  -- of what was found, where the lines of the rest are short from any machine and place on
  found_short : (m : Machine) (at good : ℕ) (f : Found) → record_at file at ≡ f → good < 2 ^ 64 → LfByte m → (rest : Machine → ℕ → List (List ℕ))
      → ((m : Machine) (at : ℕ) → LfByte m → All Short (rest m at)) → All Short (found_lines (following good) m font file f ++ later_lines file m good f rest)
  found_short m at good End e h l rest short = (number_short (ascii "end") good (omega arith) h, tt)
  found_short m at good Bad e h l rest short =
      (number_short (ascii "bad") (following good) (omega arith) (following_below good), (number_short (ascii "end") good (omega arith) h, tt))
  found_short m at good (Record r) e h l rest short =
      let payload = part_of file r.start r.end in
      let payload_bytes = part_bytes file r.start r.end bytes in
      let size = length-take (r.end - r.start) (drop r.start file) in
      both_short (record_lines (following good) m font r.kind payload) (rest (after m (record_calls r.kind payload)) r.end)
      (lines_short (following good) m font r.kind payload (following_below good) l payload_bytes (omega (arith, size, record_ends file at r e)))
      (short (after m (record_calls r.kind payload)) r.end (record_keeps m r.kind payload payload_bytes l))

  -- of a file from a place on
  all_short : (k : ℕ) (m : Machine) (at good : ℕ) → good < 2 ^ 64 → LfByte m → All Short (lines_from k font file m at good)
  all_short zero m at good h l = tt
  all_short (suc k) m at good h l =
      found_short m at good (record_at file at) refl h l (λ m' at'. lines_from k font file m' at' (following good))
      (λ m' at' l'. all_short k m' at' (following good) (following_below good) l')

-- Steps print the lines

-- a file came to its end, and with the last line the output is this buffer
record Ends (p : Progress) (b : Buffer) : Type 0 where
  stops : p.more ≡ false
  prints : printed p.state.output (end_line p.good) ≡ b

module _ (font file : List ℕ) where
  -- a file that stopped has no further steps
  stopped : (k : ℕ) (s : State) (at good : ℕ)
      → Ends (steps k font file (record { state = s; at = at; good = good; more = false })) (printed s.output (end_line good))
  stopped zero s at good = record { stops = refl; prints = refl }
  stopped (suc k) s at good = stopped k s at good

  -- the steps from a place on come to the end, and all lines from there on are printed
  abbrev EndsFrom : ℕ → State → ℕ → ℕ → Type 0
  EndsFrom k s at good =
      Ends (steps k font file (record { state = s; at = at; good = good; more = true }))
      (printed_all s.output (lines_from k font file s.machine at good))

  -- what was found is printed and leaves fewer steps, or stops
  found_ends : (k : ℕ) (s : State) (at good : ℕ) (f : Found) → record_at file at ≡ f → length file - at < suc k
      → ((s : State) (at : ℕ) → length file - at < k → EndsFrom k s at (following good))
      → Ends (steps k font file (after_found font file at good f s))
      (printed_all s.output
      (found_lines (following good) s.machine font file f ++ later_lines file s.machine good f (λ m' at'. lines_from k font file m' at' (following good))))
  found_ends k s at good End e h rest = stopped k s at good
  found_ends k s at good Bad e h rest = stopped k (after_found font file at good Bad s).state at good
  found_ends k s at good (Record r) e h rest =
      let done = after_record (following good) font r.kind (part_of file r.start r.end) s in
      rw printed_both (rest done r.end (omega (arith, record_ends file at r e)))

  -- each record is longer than nothing: as many steps as bytes are left, and one more, are enough
  steps_end : (k : ℕ) (s : State) (at good : ℕ) → length file - at < k → EndsFrom k s at good
  steps_end zero s at good h = absurd (omega arith)
  steps_end (suc k) s at good h =
      found_ends k s at good (record_at file at) refl h (λ s' at' h'. steps_end k s' at' (following good) h')

-- nothing is lost from an empty buffer on
from_empty : (out : List ℕ) (lines : List (List ℕ)) (b : Buffer) → longest_line ≤ length out → All Short lines → b ≡ printed_all (buffer out 0) lines
    → written_out (buffer out 0) lines ++ held b ≡ flatten lines
from_empty out lines b room short e = rw e (nothing_lost (buffer out 0) lines room short)

-- Any number of steps

module _ (font file : List ℕ) where
  steps_both : (k j : ℕ) (p : Progress) → steps (k + j) font file p ≡ steps j font file (steps k font file p)
  steps_both zero j p = rw zero-add
  steps_both (suc k) j p = rw suc-add (steps_both k j (next_step font file p))

  -- a progress that stopped stays
  stays : (k : ℕ) (p : Progress) → p.more ≡ false → steps k font file p ≡ p
  stays zero p e = refl
  stays (suc k) p e =
      let found = after_found font file p.at p.good (record_at file p.at) p.state in
      ap (λ (more : Bool). steps k font file (when more then found else p)) e ∙ stays k p e

  -- so all numbers of steps after which a file has stopped come to the same
  same_stop : (k j : ℕ) (p : Progress) → (steps k font file p).more ≡ false → (steps j font file p).more ≡ false → steps k font file p ≡ steps j font file p
  same_stop k j p e f =
      let turned : k + j ≡ j + k = omega arith in
      sym (steps_both k j p ∙ stays j (steps k font file p) e) ∙ ap (λ (n : ℕ). steps n font file p) turned
      ∙ steps_both j k p ∙ stays k (steps j font file p) f

pub program_prints : ProgramPrints
program_prints font file out bytes room =
    let start = start_of (replicate memory_size 0) out in
    let done = steps_end font file (length file + 1) start.state 0 0 (omega arith) in
    let short = all_short font file bytes (length file + 1) start.state.machine 0 0 (omega arith) (omega arith) in
    let all : PrintsAll font file out (steps (length file + 1) font file start) =
    record { prints = done.prints; whole = from_empty out (program_lines font file) _ room short done.prints } in
    (done.stops, λ k stopped. rw (same_stop font file k (length file + 1) start stopped done.stops) all)
