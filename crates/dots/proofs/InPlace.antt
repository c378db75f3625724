-- Loops that put f i in place of element i of a list, from the front on.
use Rattle.std.proofs.Common.{ℕ, zero-le, ◌+◌, ◌<◌, ◌≤◌, List, ◌≡◌, refl, ◌∙◌, arith, length, get_or, set, length-set, get_or-set_other, below_none}
use Rattle.std.proofs.lemmas.List.Edits.{fill_by_more}
use Rattle.dots.specs.Tables.{table}
use Rattle.dots.proofs.Tables.{is_table}

-- the first i elements of l₀ are replaced in l
pub record Replaced (f : ℕ → ℕ) (l₀ l : List ℕ) (i : ℕ) : Type 0 where
  pub within : i ≤ length l₀
  pub same : length l ≡ length l₀
  pub done : (k : ℕ) → k < i → get_or l k 0 ≡ f k
  pub rest : (k : ℕ) → i ≤ k → get_or l k 0 ≡ get_or l₀ k 0

pub none_replaced : (f : ℕ → ℕ) (l : List ℕ) → Replaced f l l 0
none_replaced f l = record { within = zero-le; same = refl; done = below_none _; rest = λ k h. refl }

pub one_more : (f : ℕ → ℕ) (l₀ l : List ℕ) (i v : ℕ) → Replaced f l₀ l i → i < length l → v ≡ f i → Replaced f l₀ (set l i v) (i + 1)
one_more f l₀ l i v h lt e =
    record {
      within = omega (arith, h.same);
      same = length-set l i v ∙ h.same;
      done = rw e (fill_by_more f l i 0 lt h.done);
      rest = λ k le. get_or-set_other l i k v 0 (λ q. let z : k ≡ i = q in omega arith) ∙ h.rest k (omega arith);
    }

pub all_replaced : (f : ℕ → ℕ) (l₀ l : List ℕ) (i : ℕ) → Replaced f l₀ l i → length l ≤ i → l ≡ table (length l₀) f
all_replaced f l₀ l i h le = is_table (length l₀) f l h.same (λ k lt. h.done k (omega (arith, h.same)))
