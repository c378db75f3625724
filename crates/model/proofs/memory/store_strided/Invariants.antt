use Rattle.std.proofs.Common.{◌≡◌, length, drop}
use Rattle.model.specs.Strides.{stored_from, strides_on}
use Rattle.model.proofs.memory.store_strided.Given as goal

abbrev pub invariant-loop-byte : goal.invariant-loop-byte
invariant-loop-byte l =
    (stored_from l.stride l.byte-index l.next l.memory (drop l.byte-index l.bytes) ≡ stored_from l.stride 0 l.address l.initial.memory l.bytes)
    × (length l.memory ≡ length l.initial.memory) × (l.next ≡ strides_on l.address l.stride l.byte-index)
