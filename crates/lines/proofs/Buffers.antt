-- A text in a buffer where it fits.
use Rattle.std.proofs.Common.{ℕ, ◌+◌, ◌≤◌, List, ◌++◌, length, take, drop, ◌≡◌, append_assoc, length-append}
use Rattle.std.proofs.lemmas.Bool.{le-leb}
use Rattle.std.proofs.lemmas.List.{length-take-le, take_at}
use Rattle.lines.specs.Lines.{appended, used_after}

module _ (buffer : List ℕ) (used : ℕ) (text : List ℕ) where
  pub stands : used + length text ≤ length buffer
      → (used + length text ≡ used_after buffer used text)
      × (take used buffer ++ (text ++ drop (used + length text) buffer) ≡ appended buffer used text)
  stands h = let e = le-leb (used + length text) (length buffer) h in (rw e, rw e)

  pub front : (rest : List ℕ) → used ≤ length buffer → take (used + length text) (take used buffer ++ (text ++ rest)) ≡ take used buffer ++ text
  front rest h = rw (← append_assoc) (take_at (take used buffer ++ text) rest (used + length text) (rw (length-append, length-take-le used buffer)))
