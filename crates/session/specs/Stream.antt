-- Reference, 'The program': nothing that is printed is lost: what was written out of the buffer and what it still holds are all its lines, one behind the other.
use Rattle.std.specs.Prelude.{◌≡◌, ℕ, ◌^◌, ◌<◌, ◌≤◌, List, [], ◌∷◌, ◌++◌, length, take}
use mathlib.Core.List.{flatten}
use Rattle.choice.specs.Choice.{when◌then◌else◌}
use Rattle.model.specs.Machine.{Machine}
use Rattle.model.specs.Refresh.{All, Byte}
use Rattle.busfile.specs.declared.Kind.{Kind}
use Rattle.lines.specs.Lines.{longest_line}
use Rattle.session.specs.Output.{Buffer, is_full, printed, printed_all}
use Rattle.session.specs.Records.{record_lines}

-- what a buffer holds
abbrev pub held : Buffer → List ℕ
held b = take b.used b.bytes

-- what is written out while lines are printed, where `flush` writes what the buffer holds
abbrev pub written_out : Buffer → List (List ℕ) → List ℕ
written_out b [] = []
written_out b (line ∷ lines) =
    (when is_full b then held b else []) ++ written_out (printed b line) lines

abbrev pub Short : List ℕ → Type 0
Short line = length line ≤ longest_line

abbrev pub NothingLost : Type 0
NothingLost =
    (b : Buffer) (lines : List (List ℕ)) → longest_line ≤ length b.bytes → All Short lines
    → written_out b lines ++ held (printed_all b lines) ≡ held b ++ flatten lines

-- every line of a record is short: with a record number of 64 bits, L/F a byte, and a payload of bytes as long as a record's may be
abbrev pub LinesShort : Type 0
LinesShort =
    (r : ℕ) (m : Machine) (font : List ℕ) (kind : Kind) (payload : List ℕ) → r < 2 ^ 64 → m.controller.registers.system.lf.0 < 256
    → All Byte payload → length payload ≤ 65532 → All Short (record_lines r m font kind payload)
