use Rattle.std.proofs.Common.{◌≡◌, length, take, arith, ap, length-take-le}
use Rattle.dots.specs.Bytes.{depth_code, bits_per_dot}
use Rattle.dots.proofs.Scrolled.{at_most_8, scrolled_columns}
use Rattle.dots.proofs.scrolling.expand_scrolled.Goals as goal

pub returns-clause-out_after : goal.returns-clause-out_after
returns-clause-out_after c =
    let a = c.args in
    let r = c.requires in
    let size : length (take a.shown c.scroll.new.line) ≡ a.shown = length-take-le a.shown c.scroll.new.line (omega arith) in
    scrolled_columns (bits_per_dot (depth_code a.depth)) a.per a.n a.line.now a.shown r.1 (at_most_8 r.0) (λ moved. ap bits_per_dot (r.2 moved)) r.3
    c.scroll.ensures size c.expand.ensures
