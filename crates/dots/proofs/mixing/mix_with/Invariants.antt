use Rattle.std.proofs.Common.{ℕ, ◌≡◌, ◌<◌, ◌≤◌, get_or}
use Rattle.dots.proofs.mixing.mix_with.Given as goal

abbrev pub invariant-loop-c : goal.invariant-loop-c
invariant-loop-c g l =
    ((k : ℕ) → k < l.c → goal.F-post g l.mix (get_or l.initial.line k 0) (get_or l.layer k 0) (get_or l.line k 0))
    × ((k : ℕ) → l.c ≤ k → get_or l.line k 0 ≡ get_or l.initial.line k 0)
