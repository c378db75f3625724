use Rattle.std.proofs.Common.{◌≡◌, ℕ, length, take, min, replicate, ap, ◌∙◌, length-take, arith}
use Rattle.row.specs.declared.FrameSize.{FrameSize}
use Rattle.session.specs.Records.{state}
use Rattle.session.proofs.FrameLines.{in_640}
use Rattle.session.proofs.LentStep.show.Goals as goal

pub returns : goal.returns
returns g c =
    let a = c.args in
    let s = a.self.now in
    let size : length (take c.min-width.result (replicate {A = ℕ} 640 0)) ≡ min 640 c.frame_size-size.result.width =
    rw length-take (omega (arith, c.into.ensures, c.min-width.ensures)) in
    rw (← in_640 (state s).machine s.font.now a.number a.«record»
    (size ∙ ap (λ (x : FrameSize). min 640 x.width) c.frame_size-size.ensures)
    (ap (λ (x : FrameSize). x.rows) c.frame_size-size.ensures))
    c.show_frame.ensures
