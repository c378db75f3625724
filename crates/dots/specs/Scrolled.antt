-- Reference, 'Scrolling'; request #101: a line of bytes moved left by n dots. Dot x of it is the line's dot x + n: `scrolled_dot` in proofs/Scrolled.
use Rattle.std.specs.Prelude.{ℕ, ◌+◌, ◌-◌, ◌*◌, ◌/◌, ◌%◌, ◌^◌, List, length, get_or}
use Rattle.choice.specs.Choice.{when◌then◌else◌, ◌=?◌}
use Rattle.dots.specs.Tables.{table}

-- the eight dots from dot n of a column on: the first per_column of its byte a, then those of the next one's, b. `b % 256` is b, a byte
unfoldable pub scrolled_byte : ℕ → ℕ → ℕ → ℕ → ℕ
scrolled_byte per_column n a b = (a / 2 ^ (8 - per_column) * 256 + b % 256) / 2 ^ (per_column - n) % 256

-- a column's byte goes on with the next column's, the last one's with 0
unfoldable pub scrolled : ℕ → ℕ → List ℕ → List ℕ
scrolled per_column n line =
    when n =? 0 then line else table (length line) (λ c. scrolled_byte per_column n (get_or line c 0) (get_or line (c + 1) 0))
