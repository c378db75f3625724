use Rattle.std.proofs.Common.{◌≡◌, ◌+◌, ◌%◌}
use Rattle.dots.proofs.InPlace.{Replaced}
use Rattle.row.specs.Glyphs.{fetch}
use Rattle.row.proofs.fetching.memory_bytes.Given as goal

abbrev pub invariant-loop-byte : goal.invariant-loop-byte
invariant-loop-byte l =
    Replaced (λ x. fetch l.memory (l.start + x)) l.initial.line l.line l.byte-index × (l.address ≡ (l.start + l.byte-index) % 65536)
