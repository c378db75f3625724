use Rattle.panel.proofs.Turns.{turn_done, turn_inside}
use Rattle.panel.proofs.file.turn.Goals as goal

pub returns-clause-in_part : goal.returns-clause-in_part
returns-clause-in_part g c =
    let a = c.args in
    turn_inside a.run.now.font.now c.at_hand.result.now a.run.now c.next.new.self a.input.now c.read_on-run.new.self c.read_on-run.result
    c.read_on-run.ensures c.at_hand.ensures c.next.ensures.out_after c.next.ensures.open_after

pub returns-clause-done : goal.returns-clause-done
returns-clause-done g c =
    let a = c.args in
    turn_done a.run.now.font.now c.at_hand.result.now a.run.now c.next.new.self a.input.now c.read_on-run.new.self c.read_on-run.result
    c.read_on-run.ensures c.at_hand.ensures c.next.ensures.out_after c.next.ensures.open_after
