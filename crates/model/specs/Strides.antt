-- What the code of a run computes: bytes stored a stride apart, whatever direction that is, and how many fit. Nothing public cites it.
use Rattle.std.specs.Prelude.{ℕ, ◌+◌, ◌*◌, ◌%◌, ◌<◌, ◌≤◌, List, [], ◌∷◌, length, slice_set}
use Rattle.choice.specs.Choice.{when◌then◌else◌, ◌<?◌}
use Rattle.registers.specs.Sizes.{memory_size}
use Rattle.model.specs.declared.memory.Stored.{Stored}

-- the address behind the bytes stored, the memory, and how many they are
pub record StoredOutcome : Type 0 where
  pub address : ℕ
  pub memory : List ℕ
  pub length : ℕ

abbrev pub outcome : ℕ → List ℕ → ℕ → StoredOutcome
outcome address memory length = record { address = address; memory = memory; length = length }

abbrev pub stored_outcome : Stored → List ℕ → StoredOutcome
stored_outcome s memory = outcome s.address memory s.length

-- bytes stored from an address on, up to the first address that is not inside, after so many others
abbrev pub stored_from : ℕ → ℕ → ℕ → List ℕ → List ℕ → StoredOutcome
stored_from stride done address memory [] = outcome address memory done
stored_from stride done address memory (b ∷ bs) =
    when address <? length memory
    then stored_from stride (done + 1) ((address + stride) % 65536) (slice_set memory address b) bs
    else outcome address memory done

-- how many of all accesses stay in so much room, each a step further: the next leaves it, by a step at most
pub record InRoom (room step all count : ℕ) : Type 0 where
  pub within : count ≤ all
  pub inside : (i : ℕ) → i < count → i * step ≤ room
  pub outside : count < all → (room < count * step) × (count * step ≤ room + step)

-- the address so many strides on
abbrev pub strides_on : ℕ → ℕ → ℕ → ℕ
strides_on address stride n = (address + n * stride) % 65536

-- how many of all accesses a stride apart come before the first that is not inside
pub record Fitting (address stride all count : ℕ) : Type 0 where
  pub within : count ≤ all
  pub inside : (i : ℕ) → i < count → strides_on address stride i < memory_size
  pub outside : count < all → memory_size ≤ strides_on address stride count
