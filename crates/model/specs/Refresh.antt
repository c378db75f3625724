-- Reference, 'The full refresh'; 01, 'The full refresh'.
use Rattle.std.specs.Prelude.{◌≡◌, ℕ, zero, suc, ◌+◌, ◌<◌, Bool, ◌&&◌, T, List, [], ◌∷◌, ◌++◌, length}
use Rattle.registers.specs.declared.Command.{Command}
use Rattle.registers.specs.declared.Command.TheVariants.{SystemSet, Disp, Scroll, CsrForm, CsrDir, Ovlay, CgramAdr, HdotScr, GrayScale, Csrw, Mwrite}
use Rattle.choice.specs.Choice.{when◌then◌else◌}
use Rattle.registers.specs.Commands.{code, ◌is◌, parameters}
use Rattle.registers.specs.Parameters.{allowed}
use Rattle.registers.specs.Sizes.{memory_size}
use Rattle.model.specs.Calls.{BusCall, sending}

abbrev pub All : {A : Type 0} → (A → Type 0) → List A → Type 0
All P [] = Unit {0}
All P (x ∷ xs) = P x × All P xs

abbrev pub Byte : ℕ → Type 0
Byte b = b < 256

-- k parameters of a command from a place on, each a byte that the command table allows
abbrev pub Values : Command → ℕ → ℕ → Type 0
Values c place zero = Unit {0}
Values c place (suc k) = (b : ℕ) × Byte b × T (allowed c place b) × Values c (place + 1) k

abbrev pub bytes : (c : Command) (place k : ℕ) → Values c place k → List ℕ
bytes c place zero vs = []
bytes c place (suc k) vs = vs.0 ∷ bytes c (place + 1) k vs.3

-- all parameters of a command
abbrev pub AllValues : Command → Type 0
AllValues c = Values c 0 (parameters c)

abbrev pub all_bytes : (c : Command) → AllValues c → List ℕ
all_bytes c vs = bytes c 0 (parameters c) vs

-- how often a command stands in a list
abbrev pub occurrences : Command → List Command → ℕ
occurrences c [] = 0
occurrences c (d ∷ ds) = when c is d then suc (occurrences c ds) else occurrences c ds

-- what stands between SYSTEM SET and MWRITE
abbrev pub nine : List Command
nine = Scroll ∷ CsrForm ∷ CsrDir ∷ Ovlay ∷ CgramAdr ∷ HdotScr ∷ GrayScale ∷ Disp ∷ Csrw ∷ []

abbrev pub eleven : List Command → List Command
eleven between = SystemSet ∷ (between ++ (Mwrite ∷ []))

pub record Refresh : Type 0 where
  -- each with all its parameters, each one that the table allows
  pub values : (c : Command) → AllValues c
  -- CSRW with 0000
  pub home : all_bytes Csrw (values Csrw) ≡ 0 ∷ 0 ∷ []
  -- 59, or 58
  pub on : Bool
  -- between them in any order, each once
  pub order : List Command
  pub once : (c : Command) → occurrences c order ≡ occurrences c nine
  -- MWRITE with 32,768 bytes
  pub memory : List ℕ
  pub memory_bytes : All Byte memory
  pub memory_full : length memory ≡ memory_size

module _ (r : Refresh) where
  -- 4C of CSRDIR, 58 or 59 of DISP
  abbrev pub opcode : Command → ℕ
  opcode c = when c is Disp && r.on then 0x59 else code c

  abbrev pub sent_data : Command → List ℕ
  sent_data c = when c is Mwrite then r.memory else all_bytes c (r.values c)

  -- a command with its data
  abbrev pub send : Command → List BusCall
  send c = sending (opcode c) (sent_data c)

  abbrev pub sends : List Command → List BusCall
  sends [] = []
  sends (c ∷ cs) = send c ++ sends cs

  -- the full refresh
  abbrev pub sent : List BusCall
  sent = sends (eleven r.order)

-- a list of commands with one left out
abbrev pub without : Command → List Command → List Command
without c [] = []
without c (d ∷ ds) = when c is d then without c ds else d ∷ without c ds
