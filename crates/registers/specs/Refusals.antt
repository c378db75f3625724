-- Reference, 'Refusals'; 01, 'Refusal numbers', and requests #101 and #102.
use Rattle.std.specs.Prelude.{ℕ, Result, Ok, Err}
use Rattle.registers.specs.declared.Refusal.{Refusal}
use Rattle.registers.specs.declared.Refusal.TheVariants.{MemorySize, UnknownCommand, NothingWanted, NotAllowed, Asleep, NothingToRead, OutsideMemory, FontSize, GreyMode, CharacterWidth, RowWidth, OddLines, ShortLine, LayerOrder, CursorShape, RowNumber, BufferSize, SmoothScroll, DisplayOff}

abbrev pub number : Refusal → ℕ
-- memory is not 32,768 bytes
number MemorySize = 1
-- command byte is none of the 18 codes
number UnknownCommand = 2
-- data write and no parameter or memory byte is wanted
number NothingWanted = 3
-- parameter value not allowed
number NotAllowed = 4
-- asleep and the code is not 40h
number Asleep = 5
-- data read and nothing to read
number NothingToRead = 6
-- memory write or read at 8000h or above
number OutsideMemory = 7
-- font is not 1,280 bytes
number FontSize = 8
-- grey set and (DM not 11 or [FX] not 8)
number GreyMode = 9
-- [FX] above 8
number CharacterWidth = 10
-- row wider than 640 dots
number RowWidth = 11
-- W/S = 1 and [L/F] odd
number OddLines = 12
-- TC/R code below C/R code + 4
number ShortLine = 13
-- W/S = 0, two layers, SL2 below SL1, DM not 11
number LayerOrder = 14
-- FC not 00, and (CRY code 0 or [CRX] above [FX])
number CursorShape = 15
-- row number not below [L/F]
number RowNumber = 16
-- row buffer, a byte a dot, is not exactly the row's width
number BufferSize = 17
-- #101: HDOT SCR not 0, and (grey set, HDOT SCR at least [FX], or [C/R] 1)
number SmoothScroll = 18
-- #102: SLEEP IN with D = 0
number DisplayOff = 19

-- What is answered: the refusal's number, or 0 where there is none, and the value read, or 0. A refused read gives the value 0.
pub record Reply : Type 0 where
  pub refusal : ℕ
  pub value : ℕ

abbrev pub accepted : Reply
accepted = record { refusal = 0; value = 0 }

abbrev pub valued : ℕ → Reply
valued v = record { refusal = 0; value = v }

abbrev pub refused : ℕ → Reply
refused n = record { refusal = n; value = 0 }

-- the reply of a write or a row, and of a read
abbrev pub reply : Result Unit Refusal → Reply
reply (Ok _) = accepted
reply (Err r) = refused (number r)

abbrev pub read_reply : Result ℕ Refusal → Reply
read_reply (Ok v) = valued v
read_reply (Err r) = refused (number r)
