-- Digits: their characters, and those of a decimal number.
use Rattle.std.proofs.Common.{ℕ, ◌+◌, ◌%◌, ◌^◌, ◌<◌, ◌≤◌, true, List, [], ◌∷◌, ◌++◌, eqb, length, ◌≡◌, refl, arith, append_assoc}
use Rattle.std.proofs.lemmas.Bool.{agree_below_at, eqb-true, lt-ltb, le-ltb}
use Rattle.std.proofs.lemmas.Fmt.{AppendsLastDigit, decimal_from_appends, length-decimal-le, length-decimal-le_succ}
pub use Rattle.std.proofs.lemmas.Str.{encode_ascii}
use Rattle.std.specs.Fmt.{decimal as printed_decimal}
use Rattle.choice.specs.Choice.{when◌then◌else◌, ◌<?◌}
use Rattle.lines.specs.Lines.{digit, decimal_below, decimal}

abbrev code : ℕ → ℕ
code d = when d <? 10 then 0x30 + d else 0x37 + d

-- the characters of the digits follow each other, but for a gap before A
pub digit_code : (d : ℕ) → d < 16 → digit d ≡ code d
unfolding digit
digit_code d h = eqb-true _ _ (agree_below_at (λ x. eqb (digit x) (code x)) (λ _. true) 16 d refl h)

-- the digits are what the library prints
by_last_digit : AppendsLastDigit decimal_below
unfolding decimal_below
by_last_digit = record {
  one = λ k n h. let low : n % 10 ≡ n = omega arith in rw (lt-ltb n 10 h, low, digit_code n (omega arith), lt-ltb n 10 h) refl;
  more = λ k n h. rw (le-ltb n 10 h, digit_code (n % 10) (omega arith), lt-ltb (n % 10) 10 (omega arith)) refl;
}

printed : (n : ℕ) → n < 2 ^ 64 → decimal_below (n + 1) n ≡ printed_decimal n
printed n h = decimal_from_appends decimal_below by_last_digit (n + 1) n h (length-decimal-le_succ n h)

-- so is a number in a line, behind its blank
pub number_text : (line : List ℕ) (n : ℕ) → n < 2 ^ 64 → (line ++ (32 ∷ [])) ++ printed_decimal n ≡ line ++ decimal n
unfolding decimal
number_text line n h = rw (append_assoc, printed n h) refl

-- a number of 64 bits has at most 20 digits
pub number_length : (n : ℕ) → n < 2 ^ 64 → length (decimal n) ≤ 21
unfolding decimal
number_length n h = let l = length-decimal-le 20 n (omega arith) (omega (arith, h)) h in rw (printed n h) (omega arith)
