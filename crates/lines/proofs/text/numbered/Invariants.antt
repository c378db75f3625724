-- The numbers passed stand in the line.
use Rattle.std.proofs.Common.{◌+◌, ◌*◌, ◌≤◌, ◌≡◌, take}
use Rattle.arrayvec.specs.ArrayString.{array_string_len}
use Rattle.lines.specs.Pieces.{with_numbers}
use Rattle.lines.proofs.text.numbered.Given as goal

abbrev pub invariant-loop-n : goal.invariant-loop-n
invariant-loop-n l =
    (array_string_len l.line ≤ 7 + 21 * l.n-index) × (l.line.bytes ≡ with_numbers l.fn.name (take l.n-index l.numbers))
