-- Arithmetic of two-byte registers.
use Rattle.std.proofs.Common.{◌≡◌, ℕ, ◌+◌, ◌*◌, ◌<◌, arith}
use Rattle.registers.specs.Parameters.{with_low, with_high}

-- a register of which both bytes came does not depend on what it was
pub both_bytes : {low : ℕ} → low < 256 → (high x : ℕ) → with_high (with_low x low) high ≡ high * 256 + low
unfolding with_low with_high
both_bytes h high x = omega arith
