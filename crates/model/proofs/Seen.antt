-- Which commands a list has, whatever their order.
use Rattle.std.proofs.Common.{◌≡◌, ◌<◌, Bool, true, false, ◌||◌, List, [], ◌∷◌, refl, ◌∙◌, arith, eq-eqb}
use Rattle.std.proofs.Math.Bool.{or-true}
use Rattle.registers.specs.declared.Command.{Command}
use Rattle.registers.specs.Commands.{code, ◌is◌}
use Rattle.model.specs.Refresh.{All, occurrences, without}

abbrev pub none : Command → Bool
none c = false

abbrev pub also : Command → (Command → Bool) → Command → Bool
also d seen c = c is d || seen c

abbrev pub adds : List Command → (Command → Bool) → Command → Bool
adds [] seen = seen
adds (d ∷ ds) seen = adds ds (also d seen)

adds_seen : (ds : List Command) (seen : Command → Bool) (c : Command) → seen c ≡ true → adds ds seen c ≡ true
adds_seen [] seen c h = h
adds_seen (d ∷ ds) seen c h = adds_seen ds (also d seen) c (rw (h, or-true))

-- what a list has is seen
pub adds_counted : (ds : List Command) (seen : Command → Bool) (c : Command) → 0 < occurrences c ds → adds ds seen c ≡ true
adds_counted [] seen c h = absurd (omega arith)
adds_counted (d ∷ ds) seen c h = go (c is d) refl (adds_counted ds (also d seen) c)
  where
    go : (t : Bool) → (c is d) ≡ t → (0 < occurrences c ds → adds ds (also d seen) c ≡ true) → adds ds (also d seen) c ≡ true
    go true e below = adds_seen ds (also d seen) c (rw e)
    go false e below = below (rw e at h)

-- what is left out is not
pub adds_without : (c : Command) (ds : List Command) (seen : Command → Bool) → adds (without c ds) seen c ≡ seen c
adds_without c [] seen = refl
adds_without c (d ∷ ds) seen = go (c is d) refl (adds_without c ds)
  where
    go : (t : Bool) → (c is d) ≡ t → ((f : Command → Bool) → adds (without c ds) f c ≡ f c) → adds (without c (d ∷ ds)) seen c ≡ seen c
    go true e below = rw e (below seen)
    go false e below = rw e (below (also d seen) ∙ rw e)

-- a property of every command that a list has is one of all its members
pub all_counted : (P : Command → Type 0) (ds : List Command) → ((c : Command) → 0 < occurrences c ds → P c) → All P ds
all_counted P [] h = tt
all_counted P (d ∷ ds) h = (h d (rw (eq-eqb (code d) (code d) refl) (omega arith)), all_counted P ds (λ c k. h c (go c (c is d) refl k)))
  where
    go : (c : Command) (t : Bool) → (c is d) ≡ t → 0 < occurrences c ds → 0 < occurrences c (d ∷ ds)
    go c true e k = rw e (omega arith)
    go c false e k = rw e k

pub all_without : (P : Command → Type 0) (c : Command) (ds : List Command) → All P ds → All P (without c ds)
all_without P c [] h = tt
all_without P c (d ∷ ds) h = go (c is d) refl (all_without P c ds h.1)
  where
    go : (t : Bool) → (c is d) ≡ t → All P (without c ds) → All P (without c (d ∷ ds))
    go true e k = rw e k
    go false e k = rw e (h.0, k)
