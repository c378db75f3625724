use Rattle.std.proofs.Common.{◌≡◌, ℕ, ◌+◌, ◌-◌, ◌≤◌, ◌⊎◌, Bool, true, false, T, List, [], ◌++◌, ltb, length, take, drop, refl, sym, ap, subst, ◌∙◌, inl, inr, ⊎_elim, arith, append-nil, zero-le, length-take-le, take-add, take_at}
use Rattle.std.proofs.lemmas.Bool.{cases_lt, leb-true, lt-ltb}
use Rattle.busfile.specs.Records.{part_of, compacted}
use Rattle.busfile.specs.Parts.{longest_record}
use Rattle.session.specs.Reading.{ReadsOn}
use Rattle.panel.specs.declared.reading.Input.{Input}
use Rattle.panel.specs.Reading.{InPart, at_hand, Filled}
use Rattle.panel.proofs.reading.Input.read_on.Goals as goal
use Rattle.panel.proofs.reading.Input.read_on.Goals.{then-self-via-then-self, then-self-via-else-self+then-suffices}

-- nothing is read where the file has ended, or the longest record would be whole
unread : {R : Type 0} (at : ℕ) (input : Input R) → InPart at input → (input.ended ≡ true) ⊎ (at + longest_record ≤ length (at_hand input)) → Filled at input at input
unread at input inside enough =
    record {
      reads =
          record {
            past = [];
            rest = at_hand input;
            more = [];
            was = refl;
            becomes = sym (append-nil (at_hand input));
            place = omega arith;
            still = λ e. (refl, e);
            enough = enough;
          };
      inside = inside;
    }

-- a buffer that was not filled up has ended, and one that was holds the longest record
filled_up : (total size : ℕ) → longest_record ≤ size → (ltb total size ≡ true) ⊎ (longest_record ≤ total)
filled_up total size h = ⊎_elim (λ l. inl (lt-ltb total size l)) (λ l. inr (omega (arith, h, l))) (cases_lt total size)

-- what is left of the part moves to the front, and what was read stands behind it
read_behind : (input moved read : List ℕ) (at filled kept total : ℕ) (ended : Bool) → at ≤ filled → filled ≤ length input → longest_record ≤ length input → ended ≡ false
    → kept ≡ length (part_of input at filled) → moved ≡ compacted input at filled → take kept read ≡ take kept moved → kept ≤ total → total ≤ length read
    → length read ≡ length input → ReadsOn (take filled input) at ended (take total read) 0 (ltb total (length read))
read_behind input moved read at filled kept total ended place inside roomy goes_on k m stays least most same =
    record {
      past = take at input;
      rest = part_of input at filled;
      more = take (total - kept) (drop kept read);
      was = ap (λ (n : ℕ). take n input) cut ∙ take-add at (filled - at) input;
      becomes = ap (λ (n : ℕ). take n read) whole ∙ take-add kept (total - kept) read ∙ ap (λ (l : List ℕ). l ++ take (total - kept) (drop kept read)) front;
      place = omega (arith, length-take-le at input (omega arith));
      still = λ e. absurd (subst T (sym e ∙ goes_on) tt);
      enough = long (filled_up total (length read) (omega arith));
    }
  where
    cut : filled ≡ at + (filled - at)
    cut = omega arith

    whole : total ≡ kept + (total - kept)
    whole = omega arith

    front : take kept read ≡ part_of input at filled
    front = stays ∙ rw m (take_at (part_of input at filled) _ kept (sym k))

    long : (ltb total (length read) ≡ true) ⊎ (longest_record ≤ total) → (ltb total (length read) ≡ true) ⊎ (0 + longest_record ≤ length (take total read))
    long (inl e) = inl e
    long (inr l) = inr (omega (arith, l, length-take-le total read most))

pub returns-then-self : goal.returns-then-self
returns-then-self g c =
    let a = c.args in
    let s = a.self.now in
    unread a.at s c.requires
    (elim c.then-self.branch [
      | then-self-via-then-self w ↦ inl w.if-self.true
      | then-self-via-else-self+then-suffices w ↦ inr (leb-true (a.at + longest_record) (length (at_hand s)) (rw w.at_hand.ensures at (sym w.suffices.ensures ∙ w.if-suffices.true)))
    ])

pub returns : goal.returns
returns g c =
    let a = c.args in
    let s = a.self.now in
    let read = c.read_behind.ensures in
    let size = read.room ∙ c.compact-kept.auto.buffer in
    record {
      reads =
          rw read.ends
          (read_behind s.buffer.now c.compact-kept.new.buffer c.read_behind.new.self.buffer.now a.at s.filled c.compact-kept.result c.read_behind.new.self.filled
          s.ended c.requires.place c.requires.part c.requires.roomy c.if-self.false c.compact-kept.ensures.part_length
          c.compact-kept.ensures.moved_to_front read.stays read.behind read.part size);
      inside = record { place = zero-le; part = read.part; roomy = omega (arith, c.requires.roomy, size) };
    }
