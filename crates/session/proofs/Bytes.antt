-- Bytes stay bytes: those of a payload, and L/F while its calls are carried out.
use Rattle.std.proofs.Common.{ℕ, zero, suc, ◌-◌, List, [], ◌∷◌, map, take, drop, replicate}
use Rattle.registers.specs.declared.Code.{Code}
use Rattle.registers.specs.declared.Command.{Command}
use Rattle.registers.specs.declared.Command.TheVariants.{SystemSet}
use Rattle.registers.specs.declared.System.{System}
use Rattle.registers.specs.declared.Registers.{Registers}
use Rattle.choice.specs.Choice.{◌=?◌}
use Rattle.choice.proofs.Cases.{choose}
use Rattle.registers.specs.Commands.{◌is◌}
use Rattle.registers.specs.Parameters.{begin, store, store_system}
use Rattle.model.specs.Calls.{BusCall, command, write, read, call, after}
use Rattle.model.specs.Machine.{Machine}
use Rattle.model.specs.Demand.{OnBus}
use Rattle.model.specs.Refresh.{All, Byte}
use Rattle.model.proofs.Runs.{command_leaves, write_leaves, read_leaves}
use Rattle.busfile.specs.declared.Kind.{Kind}
use Rattle.busfile.specs.declared.Kind.TheVariants.{Bus, Reads, Frame}
use Rattle.busfile.specs.Records.{word_of, part_of}
use Rattle.session.specs.Records.{record_calls}

-- what all of a list have, all of its front and all of its rest have
cut : {A : Type 0} (P : A → Type 0) (n : ℕ) (l : List A) → All P l → All P (take n l) × All P (drop n l)
cut P zero l h = (tt, h)
cut P (suc n) [] h = (tt, tt)
cut P (suc n) (x ∷ l) h = let rest = cut P n l h.1 in ((h.0, rest.0), rest.1)

-- so a payload has bytes only
pub part_bytes : (file : List ℕ) (start end : ℕ) → All Byte file → All Byte (part_of file start end)
part_bytes file start end h = (cut Byte (end - start) (drop start file) (cut Byte start file h).1).0

-- data writes of bytes, and any number of reads
writes_bytes : (bs : List ℕ) → All Byte bs → All OnBus (map write bs)
writes_bytes [] h = tt
writes_bytes (b ∷ bs) h = (h.0, writes_bytes bs h.1)

reads_bytes : (n : ℕ) → All OnBus (replicate n read)
reads_bytes zero = tt
reads_bytes (suc n) = (tt, reads_bytes n)

-- the calls of a record hand over the bytes of its payload
record_bytes : (kind : Kind) (payload : List ℕ) → All Byte payload → All OnBus (record_calls kind payload)
record_bytes Bus [] h = tt
record_bytes Bus (b ∷ bs) h = (h.0, writes_bytes bs h.1)
record_bytes Reads payload h = reads_bytes (word_of payload)
record_bytes Frame payload h = tt

-- L/F is a byte
abbrev pub LfByte : Machine → Type 0
LfByte m = Byte m.controller.registers.system.lf.0

-- a parameter leaves it as it was, or sets it to a byte
store_keeps : (c : Command) (place b : ℕ) (r : Registers) → Byte b → Byte r.system.lf.0 → Byte (store c place b r).system.lf.0
unfolding store store_system
store_keeps c place b r h l =
    choose (λ (s : System). Byte s.lf.0) (c is SystemSet) _ _
    (λ e. choose (λ (lf : Code). Byte lf.0) (place =? 5) _ _ (λ e. h) (λ e. l))
    (λ e. l)

-- no call but a parameter's touches it
call_keeps : (m : Machine) (c : BusCall) → OnBus c → LfByte m → LfByte (call m c).machine
unfolding begin
call_keeps m (command b) h l = command_leaves (λ r bs. Byte r.system.lf.0) m b l (λ c awake on. l)
call_keeps m (write b) h l = write_leaves (λ r bs. Byte r.system.lf.0) m b l (λ c place. store_keeps c place b m.controller.registers h l) (λ bs same. l)
call_keeps m read h l = read_leaves (λ r bs. Byte r.system.lf.0) m l l

calls_keep : (m : Machine) (cs : List BusCall) → All OnBus cs → LfByte m → LfByte (after m cs)
calls_keep m [] h l = l
calls_keep m (c ∷ cs) h l = calls_keep (call m c).machine cs h.1 (call_keeps m c h.0 l)

-- so it is a byte after each record
pub record_keeps : (m : Machine) (kind : Kind) (payload : List ℕ) → All Byte payload → LfByte m → LfByte (after m (record_calls kind payload))
record_keeps m kind payload h l = calls_keep m (record_calls kind payload) (record_bytes kind payload h) l
