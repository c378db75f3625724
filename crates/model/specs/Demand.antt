-- Reference, 'The full refresh'; demand 3, over the definitions of one call: one claim about whole lists.
use Rattle.std.specs.Prelude.{◌≡◌, ℕ, ◌≢◌, ◌⊎◌, List, length}
use Rattle.registers.specs.declared.Command.{Command}
use Rattle.registers.specs.Sizes.{memory_size}
use Rattle.model.specs.Machine.{Machine, Outcome}
use Rattle.model.specs.Calls.{BusCall, command, write, read, after, outcomes, reset, Call, trace}
use Rattle.model.specs.Refresh.{All, Byte, Refresh, nine, eleven, sends, sent, without}

abbrev pub OnBus : BusCall → Type 0
OnBus (command b) = Byte b
OnBus (write b) = Byte b
OnBus read = Unit {0}

-- a controller from reset with any memory of its own, sent a list of its own
pub record Prior : Type 0 where
  pub memory : List ℕ
  pub memory_bytes : All Byte memory
  pub memory_full : length memory ≡ memory_size
  pub calls : List BusCall
  pub calls_bytes : All OnBus calls

abbrev pub reached : Prior → Machine
reached p = after (reset p.memory) p.calls

-- Two controllers, the same full refresh, and the same list after it

abbrev pub Accepted : Outcome → Type 0
Accepted o = o.reply.refusal ≡ 0

pub record Settled (m₁ m₂ : Machine) (r : Refresh) (later : List Call) : Type 0 where
  -- no byte of the refresh gets a refusal
  pub accepted₁ : All Accepted (outcomes m₁ (sent r))
  pub accepted₂ : All Accepted (outcomes m₂ (sent r))
  -- when it ends, registers, cursor and memory are equal
  pub equal : after m₁ (sent r) ≡ after m₂ (sent r)
  -- and after every later call, of a row too, with the same answers
  pub equal_later : trace (after m₁ (sent r)) later ≡ trace (after m₂ (sent r)) later

abbrev pub RefreshSettles : Type 0
RefreshSettles = (p₁ p₂ : Prior) (r : Refresh) (later : List Call) → Settled (reached p₁) (reached p₂) r later

-- Each of the eleven commands is needed

-- 7 is the only refusal that may come
abbrev pub Only7 : Outcome → Type 0
Only7 o = (o.reply.refusal ≡ 0) ⊎ (o.reply.refusal ≡ 7)

-- a refresh with c left out, in its order
abbrev pub rest : Refresh → Command → List BusCall
rest r c = sends r (without c (eleven r.order))

-- two controllers that still differ after it
pub record Differ (r : Refresh) (c : Command) : Type 0 where
  pub p₁ : Prior
  pub p₂ : Prior
  pub only_7₁ : All Only7 (outcomes (reached p₁) (rest r c))
  pub only_7₂ : All Only7 (outcomes (reached p₂) (rest r c))
  pub differ : after (reached p₁) (rest r c) ≢ after (reached p₂) (rest r c)

abbrev pub EachNeeded : Type 0
EachNeeded = (r : Refresh) → All (Differ r) (eleven nine)

-- Demand 3; a full refresh exists, so that it is not about nothing
pub record Demand3 : Type 0 where
  pub settles : RefreshSettles
  pub needed : EachNeeded
  pub exists : Refresh
