-- Steps in a part of a file.
use Rattle.std.proofs.Common.{◌≡◌, ℕ, ◌+◌, Bool, true, false, List, [], ◌++◌, length, refl, ap, ◌∙◌}
use Rattle.choice.specs.Choice.{when◌then◌else◌}
use Rattle.busfile.specs.declared.Found.{Found}
use Rattle.busfile.specs.declared.Found.TheVariants.{Record, Bad, End}
use Rattle.busfile.specs.Records.{record_at}
use Rattle.busfile.specs.Parts.{further, SameRecord}
use Rattle.busfile.proofs.Parts.{parts_suffice}
use Rattle.model.specs.Machine.{Machine}
use Rattle.session.specs.Records.{State}
use Rattle.session.specs.File.{following, found_lines, after_found}
use Rattle.session.specs.Parts.{further_on, StepsInParts}

-- what was found in a part, carried out in it and in the file
found_further : (font before part after : List ℕ) (at good : ℕ) (s : State) → SameRecord before part after at → (f : Found) → record_at part at ≡ f
    → further_on (length before) (after_found font part at good f s)
    ≡ after_found font (before ++ (part ++ after)) (length before + at) good (further (length before) f) s
found_further font before part after at good s same End e = refl
found_further font before part after at good s same Bad e = refl
found_further font before part after at good s same (Record r) e = rw (same.payload r e)

-- its lines
found_same : (r : ℕ) (m : Machine) (font before part after : List ℕ) (at : ℕ) → SameRecord before part after at → (f : Found) → record_at part at ≡ f
    → found_lines r m font part f ≡ found_lines r m font (before ++ (part ++ after)) (further (length before) f)
found_same r m font before part after at same End e = refl
found_same r m font before part after at same Bad e = refl
found_same r m font before part after at same (Record x) e = rw (same.payload x e)

pub steps_in_parts : StepsInParts
steps_in_parts font before part after p h = (go p.more, go_lines p.more)
  where
    file : List ℕ
    file = before ++ (part ++ after)

    same : SameRecord before part after p.at
    same = parts_suffice before part after p.at h

    go : (more : Bool)
        → further_on (length before) (when more then after_found font part p.at p.good (record_at part p.at) p.state else p)
        ≡ (when more then after_found font file (length before + p.at) p.good (record_at file (length before + p.at)) p.state else further_on (length before) p)
    go true =
        found_further font before part after p.at p.good p.state same (record_at part p.at) refl
        ∙ ap (λ (f : Found). after_found font file (length before + p.at) p.good f p.state) same.found
    go false = refl

    go_lines : (more : Bool)
        → (when more then found_lines (following p.good) p.state.machine font part (record_at part p.at) else [])
        ≡ (when more then found_lines (following p.good) p.state.machine font file (record_at file (length before + p.at)) else [])
    go_lines true =
        found_same (following p.good) p.state.machine font before part after p.at same (record_at part p.at) refl
        ∙ ap (found_lines (following p.good) p.state.machine font file) same.found
    go_lines false = refl
