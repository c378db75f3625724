use Rattle.std.proofs.Common.{arith, lt-ltb}
use Rattle.row.specs.Glyphs.{cg_ram_byte}
use Rattle.row.proofs.Addresses.{fetch_at}
use Rattle.row.proofs.scene.Scene.cg_ram_byte.Goals as goal

pub returns-then-r : goal.returns-then-r
unfolding cg_ram_byte
returns-then-r c =
    simp (c.if-r.true, c.fetch.ensures)
    (fetch_at _ _ _ (omega (arith, c.from.ensures)))

pub returns-then-row-lt8 : goal.returns-then-row-lt8
unfolding cg_ram_byte
returns-then-row-lt8 c =
    simp (c.if-r.false, lt-ltb _ _ c.if-row-lt8.true, c.fetch-then-row-lt8.ensures)
    (fetch_at _ _ _ (omega (arith, c.from-then-row-lt8.ensures)))
