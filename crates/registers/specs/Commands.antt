-- Reference, 'Commands'; 01, the command table: codes, commands and how many parameters each takes.
use Rattle.std.specs.Prelude.{ℕ, Bool, ◌&&◌, List, [], ◌∷◌, Option, None, Some}
use Rattle.choice.specs.Choice.{when◌then◌else◌, ◌≤?◌, ◌=?◌}
use Rattle.registers.specs.declared.Command.{Command}
use Rattle.registers.specs.declared.Command.TheVariants.{SystemSet, SleepIn, Disp, Scroll, CsrForm, CsrDir, Ovlay, CgramAdr, HdotScr, GrayScale, Csrw, Csrr, Mwrite, Mread}

infix 45 ◌is◌
-- an entry of the table: the command's first and last code, and how many parameters it takes
abbrev pub entry : Command → ℕ × ℕ × ℕ
entry SystemSet = (0x40, 0x40, 8)
entry SleepIn = (0x53, 0x53, 0)
entry Disp = (0x58, 0x59, 1)
entry Scroll = (0x44, 0x44, 10)
entry CsrForm = (0x5D, 0x5D, 2)
entry CsrDir = (0x4C, 0x4F, 0)
entry Ovlay = (0x5B, 0x5B, 1)
entry CgramAdr = (0x5C, 0x5C, 2)
entry HdotScr = (0x5A, 0x5A, 1)
entry GrayScale = (0x60, 0x60, 1)
entry Csrw = (0x46, 0x46, 2)
entry Csrr = (0x47, 0x47, 0)
entry Mwrite = (0x42, 0x42, 0)
entry Mread = (0x43, 0x43, 0)

abbrev pub code : Command → ℕ
code c = (entry c).0

abbrev pub parameters : Command → ℕ
parameters c = (entry c).2

abbrev pub commands : List Command
commands =
    SystemSet ∷ SleepIn ∷ Disp ∷ Scroll ∷ CsrForm ∷ CsrDir ∷ Ovlay ∷ CgramAdr ∷ HdotScr ∷ GrayScale ∷ Csrw ∷ Csrr ∷ Mwrite ∷ Mread ∷ []

-- the first that has a byte as a code
abbrev pub find : ℕ → List Command → Option Command
find b [] = None
find b (c ∷ cs) = when (entry c).0 ≤? b && b ≤? (entry c).1 then Some c else find b cs

-- the command of a byte, `None` where it is none of the 18 codes
unfoldable pub command_of : ℕ → Option Command
command_of b = find b commands

-- the same command
abbrev pub ◌is◌ : Command → Command → Bool
c is d = code c =? code d
