-- Reference, 'Bus files': a file that is read in parts has the steps of the whole file.
use Rattle.std.specs.Prelude.{◌≡◌, ℕ, ◌+◌, ◌≤◌, ◌⊎◌, List, [], ◌++◌, length}
use Rattle.busfile.specs.Parts.{longest_record}
use Rattle.session.specs.File.{Progress, next_step, step_lines}

-- a progress, k bytes further on
abbrev pub further_on : ℕ → Progress → Progress
further_on k p = record { state = p.state; at = k + p.at; good = p.good; more = p.more }

-- A part, with bytes before and after it: the step from a place in it is the file's, where the file ends with the part, or the part has from
-- that place on as many bytes as the longest record; and so are its lines.
abbrev pub StepsInParts : Type 0
StepsInParts =
    (font before part after : List ℕ) (p : Progress) → (after ≡ []) ⊎ (p.at + longest_record ≤ length part)
    → let file = before ++ (part ++ after) in
    (further_on (length before) (next_step font part p) ≡ next_step font file (further_on (length before) p))
    × (step_lines font part p ≡ step_lines font file (further_on (length before) p))
