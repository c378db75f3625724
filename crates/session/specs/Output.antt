-- Reference, 'The program': lines in the output's buffer. Each is put behind the used bytes, which are written out first where there is less room than
-- for the longest line. One that does not fit is left out; LinesShort (Stream) says that none is.
use Rattle.std.specs.Prelude.{◌≡◌, ℕ, ◌+◌, Bool, true, false, ◌||◌, ◌⊎◌, List, [], ◌∷◌, length}
use Rattle.choice.specs.Choice.{when◌then◌else◌, ◌<?◌}
use Rattle.lines.specs.Lines.{appended, used_after, longest_line}

pub record Buffer : Type 0 where
  pub bytes : List ℕ
  pub used : ℕ

abbrev pub buffer : List ℕ → ℕ → Buffer
buffer bytes used = record { bytes = bytes; used = used }

-- there is less room than for the longest line
abbrev pub is_full : Buffer → Bool
is_full b = length b.bytes <? b.used + longest_line

-- how many bytes are still used when a line comes
unfoldable pub used_before : Buffer → ℕ
used_before b = when is_full b then 0 else b.used

abbrev pub printed : Buffer → List ℕ → Buffer
printed b line = buffer (appended b.bytes (used_before b) line) (used_after b.bytes (used_before b) line)

abbrev pub printed_all : Buffer → List (List ℕ) → Buffer
printed_all b [] = b
printed_all b (line ∷ lines) = printed_all (printed b line) lines

-- whether the buffer is written out while lines are printed
abbrev pub flushes : Buffer → List (List ℕ) → Bool
flushes b [] = false
flushes b (line ∷ lines) = is_full b || flushes (printed b line) lines

-- Whether standard output takes bytes, before and after. Only the system knows whether a write succeeds, so it may be closed where the buffer was
-- written out; otherwise it stays as it was, and it never opens again
abbrev pub OpenAfter : Bool → Bool → Bool → Type 0
OpenAfter before written after = (after ≡ before) ⊎ ((written ≡ true) × (after ≡ false))
