-- Lines in the output's buffer.
use Rattle.std.proofs.Common.{◌≡◌, ℕ, Bool, ◌||◌, List, [], ◌∷◌, ◌++◌, sym, refl, ap, ◌∙◌, inl, inr}
use Rattle.std.proofs.Math.Bool.{or_assoc}
use Rattle.std.proofs.lemmas.Bool.{or_right}
use Rattle.session.specs.Output.{Buffer, is_full, printed, printed_all, flushes, OpenAfter}

pub printed_both : (b : Buffer) (xs ys : List (List ℕ)) → printed_all b (xs ++ ys) ≡ printed_all (printed_all b xs) ys
printed_both b [] ys = refl
printed_both b (x ∷ xs) ys = printed_both (printed b x) xs ys

-- Standard output, over two steps

pub open_both : {a b c : Bool} (v w : Bool) → OpenAfter a v b → OpenAfter b w c → OpenAfter a (v || w) c
open_both v w (inl e) (inl f) = inl (f ∙ e)
open_both v w (inl e) (inr f) = inr (or_right v w f.0, f.1)
open_both v w (inr e) (inl f) = inr (rw e.0, f ∙ e.1)
open_both v w (inr e) (inr f) = inr (rw e.0, f.1)

pub flushes_both : (b : Buffer) (xs ys : List (List ℕ)) → flushes b (xs ++ ys) ≡ (flushes b xs || flushes (printed_all b xs) ys)
flushes_both b [] ys = refl
flushes_both b (x ∷ xs) ys = ap (λ (w : Bool). is_full b || w) (flushes_both (printed b x) xs ys) ∙ sym (or_assoc (is_full b) _ _)
