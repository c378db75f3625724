use Rattle.std.proofs.Common.{arith, sym, refl, le_of_eq}
use Rattle.dots.specs.Expanded.{expanded_dot}
use Rattle.dots.proofs.Tables.{column_next, next_length, next_column, all_columns}
use Rattle.dots.proofs.expanding.expand_grey.Goals as goal

pub loop-c-preserved : goal.loop-c-preserved
loop-c-preserved g c =
    let k = c.loop-c.invariant in
    let h = c.loop-c-test.true in
    next_column k _ h refl (omega arith) (le_of_eq (sym (next_length k _ (sym (column_next c.loop-c.c _)) h))) c.spread.ensures

pub returns : goal.returns
unfolding expanded_dot
returns g c = all_columns c.loop-c.invariant c.loop-c-test.false
