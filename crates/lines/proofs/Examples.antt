-- The definitions at lines that 01's example does not have: a read, and a bad record with the number 0.
use Rattle.std.proofs.Common.{◌≡◌, refl}
use Rattle.lines.specs.Lines.{ascii, digit, decimal_below, decimal, read_line, bad_line}

read_a5 : read_line 9 65535 0xA5 ≡ ascii "read 9 65535 A5\n"
unfolding decimal decimal_below digit
read_a5 = refl

bad_0 : bad_line 0 ≡ ascii "bad 0\n"
unfolding decimal decimal_below digit
bad_0 = refl
