-- The dots that a line of bytes expands to.
use Rattle.std.specs.Prelude.{ℕ, ◌/◌, ◌%◌, ◌<◌, ◌≤◌, List, ◌≡◌, get_or}
use Rattle.dots.specs.Bytes.{dot_of}

-- dot x of a row of bytes
unfoldable pub expanded_dot : ℕ → ℕ → List ℕ → ℕ → ℕ
expanded_dot bits per_column line x = dot_of bits (get_or line (x / per_column) 0) (x % per_column)

-- n dots are what a byte gives at a grey code
pub record DotsFit (grey n : ℕ) : Type 0 where
  pub code : grey < 3
  pub one : grey ≡ 0 → n ≤ 8
  pub two : grey ≡ 1 → n ≡ 4
  pub four : grey ≡ 2 → n ≡ 2
