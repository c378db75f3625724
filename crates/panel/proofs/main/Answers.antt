use Rattle.std.proofs.Common.{replicate, sym, ap, ◌∙◌, lit≤}
use Rattle.std.proofs.lemmas.List.{length-replicate}
use Rattle.registers.specs.Sizes.{memory_size}
use Rattle.session.specs.File.{Progress, start_of}
use Rattle.panel.proofs.main.Goals as goal

pub run_file-requires : goal.run_file-requires
run_file-requires c =
    let begun = c.start-run.ensures.value in
    let out = ap (λ (p : Progress). p.state.output.bytes) begun in
    record {
      begun = begun ∙ ap (start_of (replicate memory_size 0)) (sym out);
      takes = c.start-run.ensures.open_value;
      room = rw (out, length-replicate) (lit≤ tt);
      unread = c.new-input.ensures.unread.0;
      goes_on = c.new-input.ensures.unread.1;
      roomy = rw (c.new-input.ensures.buffer, length-replicate) (lit≤ tt);
    }
