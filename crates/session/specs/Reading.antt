-- Reference, 'Bus files': a file of any length is read in parts, and its records are carried out in turn.
use Rattle.std.specs.Prelude.{◌≡◌, ℕ, ◌+◌, ◌≤◌, Bool, true, false, ◌⊎◌, List, [], ◌++◌, length, replicate}
use Rattle.registers.specs.Sizes.{memory_size}
use Rattle.model.specs.Refresh.{All, Byte}
use Rattle.busfile.specs.Parts.{longest_record}
use Rattle.lines.specs.Lines.{longest_line}
use Rattle.session.specs.Output.{flushes, OpenAfter}
use Rattle.session.specs.File.{Progress, start_of}
use Rattle.session.specs.Parts.{further_on}
use Rattle.session.specs.Program.{steps, steps_lines, PrintsAll}

-- Some of a file is read, and k steps are done from an open output: a progress stands at a place in the last part. With the bytes before the part it is
-- what k steps of the file come to, and standard output takes bytes as it may after their lines; whatever follows the part, and nothing does where
-- the file has ended.
pub record SoFar (font : List ℕ) (start : Progress) (k : ℕ) (p : Progress) (takes : Bool) (part : List ℕ) (ended : Bool) : Type 0 where
  pub before : List ℕ
  pub reached : (after : List ℕ) → (ended ≡ true → after ≡ []) → steps k font (before ++ (part ++ after)) start ≡ further_on (length before) p
  pub stays : (after : List ℕ) → (ended ≡ true → after ≡ [])
      → OpenAfter true (flushes start.state.output (steps_lines k font (before ++ (part ++ after)) start)) takes

-- reading on from a place in a part: bytes before the place may go, and more come behind the rest, until the longest record would be whole or the
-- file has ended
pub record ReadsOn (part : List ℕ) (at : ℕ) (ended : Bool) (part' : List ℕ) (at' : ℕ) (ended' : Bool) : Type 0 where
  pub past : List ℕ
  pub rest : List ℕ
  pub more : List ℕ
  pub was : part ≡ past ++ rest
  pub becomes : part' ≡ rest ++ more
  pub place : at ≡ length past + at'
  pub still : ended ≡ true → (more ≡ []) × (ended' ≡ true)
  pub enough : (ended' ≡ true) ⊎ (at' + longest_record ≤ length part')

-- The records of a file, which is all bytes that were read, were carried out until it stopped or standard output took no more, which only a write can
-- tell; or a number of turns is used up.
pub record Ran (font : List ℕ) (start : Progress) (turns : ℕ) (p : Progress) (takes : Bool) : Type 0 where
  pub file : List ℕ
  pub count : ℕ
  pub past : ℕ
  pub ran : steps count font file start ≡ further_on past p
  pub stays : OpenAfter true (flushes start.state.output (steps_lines count font file start)) takes
  pub stopped : (p.more ≡ false) ⊎ ((takes ≡ false) ⊎ (count ≡ turns))

-- so a run that stopped has printed all lines of the file that was read
abbrev pub RunPrints : Type 0
RunPrints =
    (font out : List ℕ) (turns : ℕ) (p : Progress) (takes : Bool) (r : Ran font (start_of (replicate memory_size 0) out) turns p takes)
    → p.more ≡ false → All Byte r.file → longest_line ≤ length out → PrintsAll font r.file out p
