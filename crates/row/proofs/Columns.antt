-- How wide a row is that can be composed. It knows no code.
use Rattle.std.proofs.Common.{◌≡◌, ℕ, zero, suc, ◌+◌, ◌-◌, ◌*◌, ◌/◌, ◌<◌, ◌≤◌, sym, ap, subst, mul-le-mul_left, mul-one, suc-ne-zero, arith, ne_eqb}
use Rattle.registers.specs.declared.Code.{Code}
use Rattle.registers.specs.declared.Registers.{Registers}
use Rattle.choice.specs.Choice.{when◌then◌else◌, ◌=?◌}
use Rattle.registers.specs.Counts.{⁅◌⁆}
use Rattle.dots.specs.Bytes.{bits_per_dot}
use Rattle.dots.specs.Expanded.{DotsFit}
use Rattle.dots.proofs.Tables.{column_next}
use Rattle.row.specs.Dots.{dots_per_column, per_column, shown_columns, width}
use Rattle.row.specs.Stages.{Composable}

-- the dots of a column are what a byte gives
pub columns_fit : (r : Registers) → Composable r → (0 < per_column r) × DotsFit r.grey (per_column r)
unfolding dots_per_column
columns_fit r h = (
  go r.grey h.code,
  record {
    code = h.code;
    one = λ e. subst (λ (g : ℕ). (when g =? 0 then ⁅ r.system.fx ⁆ else 8 / bits_per_dot g) ≤ 8) (sym e) h.narrow;
    two = λ e. ap (λ (g : ℕ). when g =? 0 then ⁅ r.system.fx ⁆ else 8 / bits_per_dot g) e;
    four = λ e. ap (λ (g : ℕ). when g =? 0 then ⁅ r.system.fx ⁆ else 8 / bits_per_dot g) e;
  },
)
  where
    go : (g : ℕ) → g < 3 → 0 < (when g =? 0 then ⁅ r.system.fx ⁆ else 8 / bits_per_dot g)
    go zero l = omega arith
    go (suc zero) l = omega arith
    go (suc (suc zero)) l = omega arith
    go (suc (suc (suc g))) l = absurd (omega arith)

-- a row is scrolled by less than a column, and at one bit a dot
pub scroll_fits : (r : Registers) → Composable r → (r.hdot < per_column r) × ((r.hdot ≡ 0 → ⊥) → r.grey ≡ 0)
unfolding dots_per_column
scroll_fits r h = (go r.hdot h.scrolls, λ moved. (h.scrolls moved).0)
  where
    go : (n : ℕ) → ((n ≡ 0 → ⊥) → (r.grey ≡ 0) × (n < ⁅ r.system.fx ⁆) × (1 < ⁅ r.system.cr ⁆)) → n < per_column r
    go zero f = (columns_fit r h).0
    go (suc n) f = let z = f (suc-ne-zero n) in rw z.0 z.1

one_less : (n : ℕ) (cr : Code) → shown_columns (suc n) cr ≡ ⁅ cr ⁆ - 1
unfolding shown_columns
one_less n cr = rw (ne_eqb (suc n) 0 (suc-ne-zero n))

-- scrolled, a row has no dot that it lacks without scrolling
pub in_unscrolled : (hdot : ℕ) (cr : Code) (p : ℕ) → hdot < p → shown_columns hdot cr * p + hdot ≤ ⁅ cr ⁆ * p
unfolding shown_columns
in_unscrolled zero cr p h = omega arith
in_unscrolled (suc n) cr p h =
    let e : ⁅ cr ⁆ - 1 + 1 ≡ ⁅ cr ⁆ = omega arith in
    rw (one_less n cr) (omega (arith, column_next (⁅ cr ⁆ - 1) p, ap (λ (k : ℕ). k * p) e))

pub columns_shown : (hdot : ℕ) (cr : Code) → shown_columns hdot cr ≤ ⁅ cr ⁆
unfolding shown_columns
columns_shown zero cr = omega arith
columns_shown (suc n) cr = omega (arith, one_less n cr)

-- a row has room for the bytes of all columns
pub columns_in_row : (r : Registers) → Composable r → ⁅ r.system.cr ⁆ ≤ width r
unfolding width shown_columns
columns_in_row r h = go r.hdot (scroll_fits r h).0 (λ moved. (h.scrolls moved).2)
  where
    cr : Code
    cr = r.system.cr

    p : ℕ
    p = per_column r

    go : (n : ℕ) → n < p → ((n ≡ 0 → ⊥) → 1 < ⁅ cr ⁆) → ⁅ cr ⁆ ≤ shown_columns n cr * p
    go zero l f = subst (λ (x : ℕ). x ≤ ⁅ cr ⁆ * p) (mul-one ⁅ cr ⁆) (mul-le-mul_left ⁅ cr ⁆ l)
    go (suc n) l f =
        let two : 2 ≤ p = omega arith in
        let wide = f (suc-ne-zero n) in
        rw (one_less n cr) (omega (arith, mul-le-mul_left (⁅ cr ⁆ - 1) two))
