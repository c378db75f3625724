use Rattle.std.proofs.Common.{◌-◌, ◌^◌, replicate, sym, ◌∙◌, subst}
use Rattle.registers.specs.Sizes.{memory_size}
use Rattle.session.specs.File.{Progress, progress, start_of}
use Rattle.session.specs.Reading.{Ran}
use Rattle.session.proofs.Reading.{run_prints}
use Rattle.panel.proofs.file.run_file.Goals as goal

pub returns : goal.returns
returns g c =
    let s = c.args.run.now in
    let font = s.font.now in
    let out = s.out.now in
    let r = c.run_records in
    let last = progress r.new.run in
    let takes = r.new.run.step.session.output.open in
    let cleared : Ran font (start_of (replicate memory_size 0) out) (2 ^ 64 - 1) last takes =
    subst (λ (p : Progress). Ran font p (2 ^ 64 - 1) last takes) c.requires.begun r.ensures.ran in
    record {
      last = last;
      takes = takes;
      ran = cleared;
      memory_left = sym c.finish.ensures.memory_unchanged;
      ends = sym c.finish.ensures.out_after;
      nothing_held = c.finish.ensures.used_value;
      stays = c.finish.ensures.open_after;
      same = c.finish.ensures.lent ∙ r.ensures.lent;
      whole = λ stopped bytes. run_prints font out (2 ^ 64 - 1) last takes cleared stopped bytes c.requires.room;
    }
