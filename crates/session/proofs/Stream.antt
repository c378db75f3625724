-- Nothing that is printed is lost.
use Rattle.std.proofs.Common.{◌≡◌, ℕ, ◌+◌, ◌≤◌, Bool, true, false, List, [], ◌∷◌, ◌++◌, length, take, drop, sym, refl, append_assoc, append-nil, arith, length-append, length-drop, length-take-le, ltb-false}
use mathlib.Core.List.{flatten}
use Rattle.choice.specs.Choice.{when◌then◌else◌, ◌<?◌}
use Rattle.lines.specs.Lines.{longest_line}
use Rattle.lines.proofs.Buffers.{stands, front}
use Rattle.session.specs.Output.{Buffer, used_before, printed}
use Rattle.session.specs.Stream.{held, Short, NothingLost}

-- what is written out before a line comes, and the bytes that are still used then, are what the buffer held
kept : (b : Buffer) (rest : List ℕ)
    → (when length b.bytes <? b.used + longest_line then held b else []) ++ (take (used_before b) b.bytes ++ rest) ≡ held b ++ rest
unfolding used_before
kept b rest = go (length b.bytes <? b.used + longest_line)
  where
    go : (t : Bool) → (when t then held b else []) ++ (take (when t then 0 else b.used) b.bytes ++ rest) ≡ held b ++ rest
    go true = refl
    go false = refl

module _ (b : Buffer) (line : List ℕ) (room : longest_line ≤ length b.bytes) (short : Short line) where
  -- a short line fits behind the bytes that are still used
  fits : used_before b + length line ≤ length b.bytes
  unfolding used_before
  fits = go (length b.bytes <? b.used + longest_line) (ltb-false (length b.bytes) (b.used + longest_line))
    where
      go : (t : Bool) → (t ≡ false → b.used + longest_line ≤ length b.bytes) → (when t then 0 else b.used) + length line ≤ length b.bytes
      go true f = omega arith
      go false f = omega (arith, f refl)

  -- a buffer stays as long as it was
  same_length : length (printed b line).bytes ≡ length b.bytes
  same_length =
      let h = fits in
      rw (← (stands b.bytes (used_before b) line h).1, length-append, length-append, length-drop, length-take-le (used_before b) b.bytes (omega arith))
      (omega arith)

  -- it holds the line behind the bytes that are still used
  holds : held (printed b line) ≡ take (used_before b) b.bytes ++ line
  holds =
      let h = fits in
      let s = stands b.bytes (used_before b) line h in
      rw (← s.0, ← s.1) (front b.bytes (used_before b) line (drop (used_before b + length line) b.bytes) (omega arith))

pub nothing_lost : NothingLost
unfolding flatten
nothing_lost b [] room short = sym (append-nil (held b))
nothing_lost b (line ∷ lines) room short =
    let rest = nothing_lost (printed b line) lines (rw (same_length b line room short.0) room) short.1 in
    rw (append_assoc, rest, holds b line room short.0, append_assoc) (kept b (line ++ flatten lines))
