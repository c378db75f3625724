-- Reference, 'Bus files'; 01, 'Bus file and its program': records.
use Rattle.std.specs.Prelude.{ℕ, ◌+◌, ◌-◌, ◌*◌, List, ◌++◌, Option, Some, None, length, get_or, take, drop}
use Rattle.choice.specs.Choice.{when◌then◌else◌, ◌<?◌, ◌=?◌}
use Rattle.busfile.specs.declared.Kind.{Kind}
use Rattle.busfile.specs.declared.Kind.TheVariants.{Bus, Reads, Frame}
use Rattle.busfile.specs.declared.Found.{Found}
use Rattle.busfile.specs.declared.Found.TheVariants.{Record, Bad, End}

-- a number of two bytes, and one of four, little-endian; a byte past the end is 0
unfoldable pub word_of : List ℕ → ℕ
word_of s = get_or s 0 0 + 256 * get_or s 1 0

unfoldable pub double_word_of : List ℕ → ℕ
double_word_of s = word_of s + 65536 * word_of (drop 2 s)

-- the number of a kind
abbrev pub kind_number : Kind → ℕ
kind_number Bus = 1
kind_number Reads = 2
kind_number Frame = 3

-- Bus: at least 1 byte. Reads: a 2-byte count. Frame: a 4-byte frame number. A length above 65,532 is wrong.
unfoldable pub shape_of : ℕ → ℕ → Option Kind
shape_of kind size =
    when 65532 <? size then None
    else when kind =? kind_number Bus then (when size =? 0 then None else Some Bus)
    else when kind =? kind_number Reads then (when size =? 2 then Some Reads else None)
    else when kind =? kind_number Frame then (when size =? 4 then Some Frame else None)
    else None

-- a record whose header stands at a place: cut, where it does not end within the file
abbrev pub body_of : Option Kind → ℕ → ℕ → ℕ → Found
body_of None file at size = Bad
body_of (Some kind) file at size =
    when file - (at + 4) <? size then Bad
    else Record (record { kind = kind; start = at + 4; end = at + 4 + size })

-- what stands at a place: payload length, kind, payload. Another kind, a wrong length or a cut record is bad.
unfoldable pub record_at : List ℕ → ℕ → Found
record_at s at =
    when length s - at =? 0 then End
    else when length s - at <? 4 then Bad
    else body_of (shape_of (word_of (drop (at + 2) s)) (word_of (drop at s))) (length s) at (word_of (drop at s))

-- the part of a list from start to end
abbrev pub part_of : List ℕ → ℕ → ℕ → List ℕ
part_of s start end = take (end - start) (drop start s)

-- a buffer with that part of it moved to its front
abbrev pub compacted : List ℕ → ℕ → ℕ → List ℕ
compacted s start end = part_of s start end ++ drop (length (part_of s start end)) s
