-- Reading in parts. Bytes before a part move its places (`shifted`); bytes after it change nothing for a record that ends within it (`long`).
use Rattle.std.proofs.Common.{◌≡◌, ℕ, ◌+◌, ◌≤◌, Option, Some, None, List, [], ◌++◌, length, drop, ⊎_elim, refl, sym, ap, ◌∙◌, arith, append-nil, length-append}
use Rattle.std.proofs.lemmas.List.{drop-append-le}
use Rattle.std.proofs.Math.Seq.{drop-append-add}
use Rattle.std.proofs.lemmas.Grind.{common_steps}
use Rattle.busfile.specs.declared.Record as R
use Rattle.busfile.specs.declared.Kind.{Kind}
use Rattle.busfile.specs.declared.Found.TheVariants.{Record}
use Rattle.busfile.specs.Records.{word_of, shape_of, body_of, record_at, part_of}
use Rattle.busfile.specs.Parts.{further, longest_record, PartsSuffice}
use Rattle.busfile.proofs.Ends.{shape_at, header, body_ends}

-- Bytes before

body_shifted : (shape : Option Kind) (k n at size : ℕ) → further k (body_of shape n at size) ≡ body_of shape (k + n) (k + at) size
body_shifted None k n at size = refl
body_shifted (Some kind) k n at size = grind (arith, common_steps)

shifted : (before l : List ℕ) (at : ℕ) → further (length before) (record_at l at) ≡ record_at (before ++ l) (length before + at)
unfolding record_at
shifted before l at =
    let kind = drop-append-add before l (at + 2) in
    let size = drop-append-add before l at in
    let shape = body_shifted (shape_at l at) (length before) (length l) at (word_of (drop at l)) in
    grind (arith, common_steps)

-- the same for a payload
part_shifted : (before l : List ℕ) (start end : ℕ) → part_of l start end ≡ part_of (before ++ l) (length before + start) (length before + end)
part_shifted before l start end = grind (arith, common_steps, drop-append-add before l start)

-- Bytes after

word_same : (part after : List ℕ) (n : ℕ) → n + 2 ≤ length part → word_of (drop n part) ≡ word_of (drop n (part ++ after))
unfolding word_of
word_same part after n h = rw (drop-append-le n part after (omega arith)) (grind (arith, common_steps))

part_same : (part after : List ℕ) (start end : ℕ) → start ≤ end → end ≤ length part → part_of part start end ≡ part_of (part ++ after) start end
part_same part after start end h room = grind (arith, common_steps)

-- none is cut where the longest would not be
body_same : (n m at kind size : ℕ) → at + longest_record ≤ n → body_of (shape_of kind size) n at size ≡ body_of (shape_of kind size) (n + m) at size
unfolding shape_of
body_same n m at kind size h = grind (arith, common_steps)

-- the same record and payload with the bytes after the part
abbrev Same : List ℕ → List ℕ → ℕ → Type 0
Same part after at =
    (record_at part at ≡ record_at (part ++ after) at)
    × ((r : R.Record) → record_at part at ≡ Record r → part_of part r.start r.end ≡ part_of (part ++ after) r.start r.end)

last : (part after : List ℕ) (at : ℕ) → after ≡ [] → Same part after at
last part after at e = let same : part ++ after ≡ part = rw (e, append-nil) in (rw same, λ r found. rw same)

long : (part after : List ℕ) (at : ℕ) → at + longest_record ≤ length part → Same part after at
long part after at h =
    let here = header part at (omega arith) in
    let there = header (part ++ after) at (rw length-append (omega arith)) in
    let shape = word_same part after (at + 2) (omega arith) in
    let size = word_same part after at (omega arith) in (
      here ∙ body_same (length part) (length after) at (word_of (drop (at + 2) part)) (word_of (drop at part)) h
          ∙ rw (shape, size, ← length-append part after) (sym there),
      λ r found.
          let ends = body_ends (shape_at part at) (length part) at (word_of (drop at part)) r (omega arith) (sym here ∙ found) in
          part_same part after r.start r.end (omega arith) ends.2,
    )

pub parts_suffice : PartsSuffice
parts_suffice before part after at h =
    let same = ⊎_elim (last part after at) (long part after at) h in
    record {
      found = ap (further (length before)) same.0 ∙ shifted before (part ++ after) at;
      payload = λ r found. same.1 r found ∙ part_shifted before (part ++ after) r.start r.end;
    }
