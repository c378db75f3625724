-- What was sent of the bytes so far.
use Rattle.std.proofs.Common.{◌≡◌, ◌≤◌, length}
use Rattle.model.specs.Machine.{machine}
use Rattle.host.proofs.SentBytes.{SentSoFar}
use Rattle.host.proofs.sending.send.Given as goal

abbrev pub invariant-loop-i : goal.invariant-loop-i
invariant-loop-i l =
    record {
      sent : SentSoFar (machine l.fn.c l.fn.memory) l.bytes l.i l.refused (machine l.c l.memory) l.answers;
      few : l.refused ≤ l.i;
      as_long : length l.answers ≡ length l.bytes;
    }
