-- The bytes of the line that are passed stand behind the used ones.
use Rattle.std.proofs.Common.{◌≡◌}
use Rattle.std.proofs.Math.Seq.{paste}
use Rattle.lines.specs.Lines.{row_line}
use Rattle.lines.proofs.Lines.append_row.Given as goal

abbrev pub invariant-loop-i : goal.invariant-loop-i
invariant-loop-i l = l.buffer ≡ paste l.initial.buffer l.used (row_line l.dots) l.i
