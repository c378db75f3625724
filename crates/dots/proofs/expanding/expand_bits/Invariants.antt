use Rattle.std.proofs.Common.{length, get_or}
use Rattle.dots.specs.Bytes.{dot_of}
use Rattle.dots.proofs.Tables.{ColumnsDone}
use Rattle.dots.proofs.expanding.expand_bits.Given as goal

abbrev pub invariant-loop-c : goal.invariant-loop-c
invariant-loop-c l = ColumnsDone (λ x. dot_of 1 (get_or l.fn.line x 0)) (length l.fn.line) l.per l.out l.c

abbrev pub invariant-loop-c-2 : goal.invariant-loop-c-2
invariant-loop-c-2 l = ColumnsDone (λ x. dot_of 1 (get_or l.fn.line x 0)) (length l.fn.line) l.per l.out l.c
