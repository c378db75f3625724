-- Reference, 'The program'; 01, 'Bus file and its program': all that the program prints of a file.
use Rattle.std.specs.Prelude.{◌≡◌, ℕ, zero, suc, ◌+◌, ◌≤◌, false, List, [], ◌∷◌, ◌++◌, length, replicate}
use mathlib.Core.List.{flatten}
use Rattle.registers.specs.Sizes.{memory_size}
use Rattle.model.specs.Machine.{Machine}
use Rattle.model.specs.Calls.{after, reset}
use Rattle.model.specs.Refresh.{All, Byte}
use Rattle.busfile.specs.declared.Found.{Found}
use Rattle.busfile.specs.declared.Found.TheVariants.{Record, Bad, End}
use Rattle.busfile.specs.Records.{record_at, part_of}
use Rattle.lines.specs.Lines.{end_line, longest_line}
use Rattle.session.specs.Output.{buffer, printed, printed_all}
use Rattle.session.specs.Records.{record_calls}
use Rattle.session.specs.File.{Progress, start_of, following, found_lines, next_step, step_lines}
use Rattle.session.specs.Stream.{held, written_out}

-- the lines after those of what was found: a bad record and the end stop; last, always, `end COUNT`
abbrev pub later_lines : List ℕ → Machine → ℕ → Found → (Machine → ℕ → List (List ℕ)) → List (List ℕ)
later_lines file m good End rest = end_line good ∷ []
later_lines file m good Bad rest = end_line good ∷ []
later_lines file m good (Record r) rest = rest (after m (record_calls r.kind (part_of file r.start r.end))) r.end

-- the lines from a place on, where fewer than k records stand
abbrev pub lines_from : ℕ → List ℕ → List ℕ → Machine → ℕ → ℕ → List (List ℕ)
lines_from zero font file m at good = []
lines_from (suc k) font file m at good =
    let found = record_at file at in
    found_lines (following good) m font file found ++ later_lines file m good found (λ m' at'. lines_from k font file m' at' (following good))

-- from reset with cleared memory; a file has no more records than bytes
abbrev pub program_lines : List ℕ → List ℕ → List (List ℕ)
program_lines font file = lines_from (length file + 1) font file (reset (replicate memory_size 0)) 0 0

-- k steps
abbrev pub steps : ℕ → List ℕ → List ℕ → Progress → Progress
steps zero font file p = p
steps (suc k) font file p = steps k font file (next_step font file p)

-- the lines that they print
abbrev pub steps_lines : ℕ → List ℕ → List ℕ → Progress → List (List ℕ)
steps_lines zero font file p = []
steps_lines (suc k) font file p = step_lines font file p ++ steps_lines k font file (next_step font file p)

-- With the last line all lines of the program are printed, each behind the one before it
pub record PrintsAll (font file out : List ℕ) (p : Progress) : Type 0 where
  pub prints : printed p.state.output (end_line p.good) ≡ printed_all (buffer out 0) (program_lines font file)
  -- so what was written out and what is held then are the whole text
  pub whole : written_out (buffer out 0) (program_lines font file) ++ held (printed p.state.output (end_line p.good)) ≡ flatten (program_lines font file)

-- the steps of a file come to a stop, and wherever they have stopped, all lines are printed
abbrev pub ProgramPrints : Type 0
ProgramPrints =
    (font file out : List ℕ) → All Byte file → longest_line ≤ length out
    → let start = start_of (replicate memory_size 0) out in
    ((steps (length file + 1) font file start).more ≡ false)
    × ((k : ℕ) → (steps k font file start).more ≡ false → PrintsAll font file out (steps k font file start))
