use Rattle.row.proofs.Dots.{mixed_in}
use Rattle.row.proofs.scene.Scene.mix_layer.Goals as goal

pub returns : goal.returns
returns c =
    let s = c.args.self.now in
    mixed_in s.registers s.memory.now s.font.now s.frame _ _ c.args.line.now c.requires c.layer_bytes.ensures (rw c.depth.ensures at c.mix_bytes.ensures)
