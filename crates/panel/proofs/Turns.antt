-- One turn: the file is read on, and a record is carried out in the part at hand.
use Rattle.std.proofs.Common.{◌≡◌, ℕ, suc, ◌≤◌, false, ◌⊎◌, List, [], ◌++◌, length, refl, sym, ap, subst, ◌∙◌, arith, length-take-le}
use Rattle.session.specs.declared.LentStep.{LentStep}
use Rattle.session.specs.Output.{flushes, OpenAfter}
use Rattle.session.specs.Records.{buffer_of}
use Rattle.session.specs.File.{Progress, progress, next_step, step_lines}
use Rattle.session.specs.Reading.{SoFar, Ran}
use Rattle.session.proofs.Reading.{placed, turn_more, place_within}
use Rattle.panel.specs.declared.reading.Input.{Input}
use Rattle.panel.specs.Reading.{InPart, at_hand, Filled, Done}

module _ {P R : Type 0} (font file : List ℕ) (run s : LentStep P) (input input' : Input R) (at : ℕ) (filled : Filled run.step.at input at input') (part : file ≡ at_hand input')
    (done : progress s ≡ next_step font file (placed at (progress run)))
    (opened : OpenAfter run.step.session.output.open (flushes (buffer_of run) (step_lines font file (placed at (progress run)))) s.step.session.output.open) where
  -- the step from the place to which the file was read on
  stepped : progress s ≡ next_step font (at_hand input') (placed at (progress run))
  stepped = done ∙ ap (λ (l : List ℕ). next_step font l (placed at (progress run))) part

  -- and what it does to the output
  reopened : OpenAfter run.step.session.output.open (flushes (buffer_of run) (step_lines font (at_hand input') (placed at (progress run)))) s.step.session.output.open
  reopened = rw part at opened

  pub turn_done : (start : Progress) (k : ℕ) → Done font start k run input → Done font start (suc k) s input'
  turn_done start k h =
      subst (λ (p : Progress). SoFar font start (suc k) p s.step.session.output.open (at_hand input') input'.ended) (sym stepped)
      (turn_more font start k (progress run) (at_hand input) (at_hand input') at run.step.session.output.open s.step.session.output.open
      input.ended input'.ended h filled.reads reopened)

  pub turn_inside : InPart s.step.at input'
  turn_inside =
      let size = length-take-le input'.filled input'.buffer.now filled.inside.part in
      let start : at ≤ length (at_hand input') = omega (arith, size, filled.inside.place) in
      let within = place_within font (at_hand input') (placed at (progress run)) start in
      record {
        place = omega (arith, within, size, ap (λ (p : Progress). p.at) stepped);
        part = filled.inside.part;
        roomy = filled.inside.roomy;
      }

-- the file is what was read
pub ran : {P R : Type 0} (font : List ℕ) (start : Progress) (k turns : ℕ) (run : LentStep P) (input : Input R) → Done font start k run input
    → (run.step.more ≡ false) ⊎ ((run.step.session.output.open ≡ false) ⊎ (k ≡ turns))
    → Ran font start turns (progress run) run.step.session.output.open
ran font start k turns run input done stopped =
    record {
      file = done.before ++ (at_hand input ++ []);
      count = k;
      past = length done.before;
      ran = done.reached [] (λ _. refl);
      stays = done.stays [] (λ _. refl);
      stopped = stopped;
    }
