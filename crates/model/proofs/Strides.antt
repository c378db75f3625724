-- Bytes stored a stride apart: none, those that stand one behind the other, and how many fit backwards.
use Rattle.std.proofs.Common.{◌≡◌, ℕ, zero, suc, ◌+◌, ◌-◌, ◌*◌, ◌%◌, ◌<◌, ◌≤◌, min, List, [], ◌∷◌, ◌++◌, length, take, drop, set, refl, ◌∙◌, append_assoc, add-zero, mul-add, add-one, arith, length-set, drop-drop, le-ltb, lt-ltb}
use Rattle.std.proofs.Math.Nat.{add-sub_cancel_left}
use Rattle.std.proofs.Math.Seq.{sets, sets-eq}
use Rattle.registers.specs.Sizes.{memory_size}
use Rattle.model.specs.Strides.{outcome, stored_from, InRoom, Fitting}

pub none_stored : (stride done address : ℕ) (memory bs : List ℕ) → (0 < length bs → length memory ≤ address) → outcome address memory done ≡ stored_from stride done address memory bs
none_stored stride done address memory [] h = refl
none_stored stride done address memory (b ∷ bs) h = rw (le-ltb address (length memory) (h (omega arith)))

-- as many as there are, or as there is room for
pub adjacent : (done address n : ℕ) (memory bs : List ℕ) → length memory ≡ memory_size → n ≡ min (length bs) (length memory - address)
    → outcome (address + n) (sets memory address (take n bs)) (done + n) ≡ stored_from 1 done address memory bs
adjacent done address zero memory [] full e = simp add-zero
adjacent done address (suc n) memory [] full e = absurd (omega arith)
adjacent done address zero memory (b ∷ bs) full e = rw (le-ltb address (length memory) (omega arith)) (simp add-zero)
adjacent done address (suc n) memory (b ∷ bs) full e =
    rw (lt-ltb address (length memory) (omega arith), next, add-one done, further address, further done)
    (adjacent (suc done) (suc address) n (set memory address b) bs (length-set memory address b ∙ full) (rw length-set (omega arith)))
  where
    next : (address + 1) % 65536 ≡ suc address
    next = omega arith

    further : (x : ℕ) → x + suc n ≡ suc x + n
    further x = omega arith

-- a part put back, with bytes copied over it
pub put_back : (l bs : List ℕ) (at n : ℕ) → length bs ≡ n → at + n ≤ length l → take at l ++ (bs ++ drop (at + n - at) (drop at l)) ≡ sets l at bs
put_back l bs at n e h = rw (add-sub_cancel_left, drop-drop, sets-eq bs l at (omega arith), append_assoc, e)

-- a step in the room is a stride inside memory, and one out of it a stride outside
pub back : {step address stride all count : ℕ} → address < 32768 → step + stride ≡ 65536 → step ≤ 32768 → InRoom address step all count → Fitting address stride all count
back {step = step} {stride = stride} {count = count} a e s r =
    record {
      within = r.within;
      inside = λ i h. omega (arith, both i, r.inside i h);
      outside = λ h. omega (arith, both count, r.outside h);
    }
  where
    both : (i : ℕ) → i * 65536 ≡ i * step + i * stride
    both i = rw e at (mul-add i step stride)
