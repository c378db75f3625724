use Rattle.std.proofs.Common.{sym, ◌∙◌}
use Rattle.row.proofs.Dots.{TwoDots, two_mixed, two_layers_lem, three_layers_lem}
use Rattle.row.proofs.scene.Scene.mix_layers.Goals as goal

pub mix_layer-requires : goal.mix_layer-requires
mix_layer-requires c = c.requires.scratch ∙ sym (c.invert.auto.line ∙ c.layer_bytes.auto.line ∙ c.requires.line.0)

pub returns-then-is_some : goal.returns-then-is_some
returns-then-is_some c =
    let s = c.args.self.now in
    let columns = c.requires.line.0 in
    let first = c.layer_bytes.auto.line ∙ columns in
    let cursor = c.invert.auto.line ∙ first in
    let two : TwoDots s.registers s.memory.now s.font.now s.frame c.args.n c.mix_layer.new.line =
    two_mixed s.registers s.memory.now s.font.now s.frame c.args.n s.composable columns first cursor
    (rw c.layer1-layer.ensures at c.layer_bytes.ensures) (rw c.layer1-layer.ensures at c.invert.ensures) (rw (c.layer2.ensures, c.mix-mix.ensures) at c.mix_layer.ensures) in
    three_layers_lem s.registers s.memory.now s.font.now s.frame c.args.n c.mix_layer.new.line s.composable (c.mix_layer.auto.line ∙ cursor) two
    (rw (c.layer3-third.ensures, c.third.ensures, c.mix-mix.ensures) at c.mix_layer-then-is_some.ensures)

pub returns-else-is_some : goal.returns-else-is_some
returns-else-is_some c =
    let s = c.args.self.now in
    let columns = c.requires.line.0 in
    let first = c.layer_bytes.auto.line ∙ columns in
    two_layers_lem s.registers s.memory.now s.font.now s.frame c.args.n c.mix_layer.new.line (rw (← c.layer3-third.ensures) (sym c.is_some.ensures ∙ c.if-is_some.false))
    (two_mixed s.registers s.memory.now s.font.now s.frame c.args.n s.composable columns first (c.invert.auto.line ∙ first)
    (rw c.layer1-layer.ensures at c.layer_bytes.ensures) (rw c.layer1-layer.ensures at c.invert.ensures) (rw (c.layer2.ensures, c.mix-mix.ensures) at c.mix_layer.ensures))
