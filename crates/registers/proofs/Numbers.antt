-- 01, 'Refusal numbers': no two answers have the same reply; so no two refusals have one number, and none has 0 or 255.
use Rattle.std.proofs.Common.{◌≡◌, ℕ, ◌<◌, List, [], ◌∷◌, get_or, Result, Ok, Err, sym, refl, ap, ◌∙◌, ⊎_elim, le_trans, arith, lit≤}
use Rattle.std.proofs.Math.ListN.{get_or-eq_default}
use Rattle.std.proofs.lemmas.Bool.{cases_lt}
use Rattle.registers.specs.declared.Refusal.{Refusal}
use Rattle.registers.specs.declared.Refusal.TheVariants.{MemorySize, UnknownCommand, NothingWanted, NotAllowed, Asleep, NothingToRead, OutsideMemory, FontSize, GreyMode, CharacterWidth, RowWidth, OddLines, ShortLine, LayerOrder, CursorShape, RowNumber, BufferSize, SmoothScroll, DisplayOff}
use Rattle.registers.specs.Refusals.{Reply, number, reply, read_reply}

-- what is answered: nothing, or a refusal
abbrev Answer : Type 0
Answer = Result Unit Refusal

abbrev answers : List Answer
answers =
    Ok tt ∷ Err MemorySize ∷ Err UnknownCommand ∷ Err NothingWanted ∷ Err NotAllowed ∷ Err Asleep
    ∷ Err NothingToRead ∷ Err OutsideMemory ∷ Err FontSize ∷ Err GreyMode ∷ Err CharacterWidth ∷ Err RowWidth
    ∷ Err OddLines ∷ Err ShortLine ∷ Err LayerOrder ∷ Err CursorShape ∷ Err RowNumber ∷ Err BufferSize ∷ Err SmoothScroll
    ∷ Err DisplayOff ∷ []

abbrev answered : ℕ → Answer
answered n = get_or answers n (Ok tt)

of_number : (r : Refusal) → Err r ≡ answered (number r)
of_number MemorySize = refl
of_number UnknownCommand = refl
of_number NothingWanted = refl
of_number NotAllowed = refl
of_number Asleep = refl
of_number NothingToRead = refl
of_number OutsideMemory = refl
of_number FontSize = refl
of_number GreyMode = refl
of_number CharacterWidth = refl
of_number RowWidth = refl
of_number OddLines = refl
of_number ShortLine = refl
of_number LayerOrder = refl
of_number CursorShape = refl
of_number RowNumber = refl
of_number BufferSize = refl
of_number SmoothScroll = refl
of_number DisplayOff = refl

of_reply : (a : Answer) → a ≡ answered (reply a).refusal
of_reply (Ok tt) = refl
of_reply (Err r) = of_number r

pub replies_distinct : (a b : Answer) → reply a ≡ reply b → a ≡ b
replies_distinct a b e = of_reply a ∙ ap (λ (r : Reply). answered r.refusal) e ∙ sym (of_reply b)

abbrev to_read : ℕ → Answer → Result ℕ Refusal
to_read v (Ok tt) = Ok v
to_read v (Err r) = Err r

of_read : (a : Result ℕ Refusal) → a ≡ to_read (read_reply a).value (answered (read_reply a).refusal)
of_read (Ok v) = refl
of_read (Err r) = ap (to_read 0) (of_number r)

pub read_replies_distinct : (a b : Result ℕ Refusal) → read_reply a ≡ read_reply b → a ≡ b
read_replies_distinct a b e = of_read a ∙ ap (λ (r : Reply). to_read r.value (answered r.refusal)) e ∙ sym (of_read b)

not_accepted : (r : Refusal) → answered (number r) ≡ Ok tt → ⊥
not_accepted r e =
    let a : Err r ≡ Ok tt = of_number r ∙ e in
    let z : ◌≡◌ {A = ℕ} 0 1 = cc in
    omega arith

pub number_not_0 : (r : Refusal) → number r ≡ 0 → ⊥
number_not_0 r e = not_accepted r (ap answered e)

-- 255 is free to say something else
pub number_below : (r : Refusal) → number r < 255
number_below r = ⊎_elim (λ h. h) (λ h. absurd (not_accepted r (get_or-eq_default answers (Ok tt) (le_trans (lit≤ tt) h)))) (cases_lt (number r) 255)
