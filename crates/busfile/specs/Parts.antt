-- Reference, 'Bus files': a bus file that is read in parts has the records of the whole file.
use Rattle.std.specs.Prelude.{ℕ, ◌+◌, ◌≤◌, List, [], ◌++◌, ◌⊎◌, ◌≡◌, length}
use Rattle.busfile.specs.declared.Record as R
use Rattle.busfile.specs.declared.Found.{Found}
use Rattle.busfile.specs.declared.Found.TheVariants.{Record, Bad, End}
use Rattle.busfile.specs.Records.{record_at, part_of}

-- what was found, k bytes further on
abbrev pub further : ℕ → Found → Found
further k (Record r) = Record (record { kind = r.kind; start = k + r.start; end = k + r.end })
further k Bad = Bad
further k End = End

-- the longest record: a header of 4 bytes and a payload of 65,532
abbrev pub longest_record : ℕ
longest_record = 65536

-- A place in a part, with bytes before and after the part: what is found there stands there in the file, its payload too.
pub record SameRecord (before part after : List ℕ) (at : ℕ) : Type 0 where
  pub found : further (length before) (record_at part at) ≡ record_at (before ++ (part ++ after)) (length before + at)
  pub payload : (r : R.Record) → record_at part at ≡ Record r
      → part_of part r.start r.end ≡ part_of (before ++ (part ++ after)) (length before + r.start) (length before + r.end)

-- So it is where the file ends with the part, or the part has from that place on as many bytes as the longest record.
abbrev pub PartsSuffice : Type 0
PartsSuffice = (before part after : List ℕ) (at : ℕ) → (after ≡ []) ⊎ (at + longest_record ≤ length part) → SameRecord before part after at
