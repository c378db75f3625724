-- Where a record that was found stands.
use Rattle.std.proofs.Common.{◌≡◌, ℕ, ◌+◌, ◌-◌, ◌≤◌, Option, Some, None, List, length, drop, sym, ◌∙◌, arith, drop-drop}
use Rattle.std.proofs.lemmas.Grind.{common_steps}
use Rattle.busfile.specs.declared.Record as R
use Rattle.busfile.specs.declared.Kind.{Kind}
use Rattle.busfile.specs.declared.Found.TheVariants.{Record}
use Rattle.busfile.specs.Records.{word_of, shape_of, body_of, record_at}

-- the shape that a header says
abbrev pub shape_at : List ℕ → ℕ → Option Kind
shape_at l at = shape_of (word_of (drop (at + 2) l)) (word_of (drop at l))

-- what stands at a whole header
pub header : (l : List ℕ) (at : ℕ) → at + 4 ≤ length l → record_at l at ≡ body_of (shape_at l at) (length l) at (word_of (drop at l))
unfolding record_at
header l at h = grind (arith, common_steps)

-- the same by the bytes that are left at the place
pub at_left : (l left : List ℕ) (at : ℕ) → left ≡ drop at l → 4 ≤ length left
    → record_at l at ≡ body_of (shape_of (word_of (drop 2 left)) (word_of left)) (length l) at (word_of left)
at_left l left at e h = rw (e, drop-drop 2 at l) (header l at (grind (arith, common_steps)))

-- one that was found has a whole header
has_header : (l : List ℕ) (at : ℕ) (r : R.Record) → record_at l at ≡ Record r → at + 4 ≤ length l
unfolding record_at
has_header l at r e = grind (arith, common_steps)

-- its payload stands behind the header and ends within the list
pub body_ends : (shape : Option Kind) (n at size : ℕ) (r : R.Record) → at + 4 ≤ n → body_of shape n at size ≡ Record r
    → (r.start ≡ at + 4) × (r.end ≡ at + 4 + size) × (r.end ≤ n)
body_ends None n at size r h e = grind (arith, common_steps)
body_ends (Some kind) n at size r h e = grind (arith, common_steps)

-- its length is one that is allowed
body_short : (kind n at size : ℕ) (r : R.Record) → body_of (shape_of kind size) n at size ≡ Record r → size ≤ 65532
unfolding shape_of
body_short kind n at size r e = grind (arith, common_steps)

-- so a record takes at least its header, ends within the list, and has a payload of an allowed length
pub record_ends : (l : List ℕ) (at : ℕ) (r : R.Record) → record_at l at ≡ Record r
    → (at + 4 ≤ r.end) × (r.end ≤ length l) × (r.end - r.start ≤ 65532)
record_ends l at r e =
    let h = has_header l at r e in
    let here = header l at h in
    let short = body_short (word_of (drop (at + 2) l)) (length l) at (word_of (drop at l)) r (sym here ∙ e) in
    grind (arith, common_steps)
