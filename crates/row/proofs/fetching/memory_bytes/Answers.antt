use Rattle.std.proofs.Common.{ℕ, ◌+◌, length, take, drop, ap, ◌∙◌, arith}
use Rattle.std.proofs.Math.Nat.{add-sub_cancel_left}
use Rattle.dots.proofs.InPlace.{none_replaced, one_more, all_replaced}
use Rattle.row.specs.Glyphs.{fetch}
use Rattle.row.proofs.Addresses.{fetch_mod, bytes_copied}
use Rattle.row.proofs.fetching.memory_bytes.Goals as goal

pub returns-then-end-le32768 : goal.returns-then-end-le32768
returns-then-end-le32768 c =
    let at = c.from-at.result in
    rw (← c.from-at.ensures)
    (bytes_copied c.args.memory.now c.args.line.now _ at (omega arith) (omega arith)
    (c.copy_from_slice.ensures.after ∙ ap (λ (m : ℕ). take m (drop at c.args.memory.now)) (add-sub_cancel_left at (length c.args.line.now))))

pub loop-byte-init : goal.loop-byte-init
loop-byte-init c = (none_replaced _ _, omega arith)

pub loop-byte-preserved : goal.loop-byte-preserved
loop-byte-preserved c =
    let l = c.loop-byte in (
      one_more _ _ _ _ _ l.invariant.0 (omega arith)
          (c.fetch.ensures ∙ ap (λ (x : ℕ). fetch c.args.memory.now x) l.invariant.1 ∙ fetch_mod c.args.memory.now (c.args.start + l.byte-index)),
      omega arith,
    )

pub returns-after-loop-byte : goal.returns-after-loop-byte
returns-after-loop-byte c = all_replaced _ _ _ _ c.loop-byte.invariant.0 (omega arith)
