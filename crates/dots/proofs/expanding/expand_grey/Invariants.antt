use Rattle.std.proofs.Common.{length, get_or}
use Rattle.dots.specs.Bytes.{dot_of}
use Rattle.dots.proofs.Tables.{ColumnsDone}
use Rattle.dots.proofs.expanding.expand_grey.Given as goal

abbrev pub invariant-loop-c : goal.invariant-loop-c
invariant-loop-c g l = ColumnsDone (λ x. dot_of g.row.BITS (get_or l.line x 0)) (length l.line) l.per l.out l.c
