-- Reference, 'The program'; 01, 'Bus file and its program': the lines that the program prints, as bytes, and how they stand in a buffer.
use Prim.Native.Char.{code}
use Rattle.std.specs.Prelude.{ℕ, zero, suc, ◌+◌, ◌/◌, ◌%◌, List, [], ◌∷◌, ◌++◌, map, length, get_or, take, drop}
use Prim.Native.String.{String, [] as none, ◌∷◌ as ◌then◌}
use Rattle.choice.specs.Choice.{when◌then◌else◌, ◌<?◌, ◌≤?◌}
use Rattle.lines.specs.declared.Line.{Line}
use Rattle.lines.specs.declared.Line.TheVariants.{Refused, Read, Frame, Bad, End}

-- the bytes of a text
abbrev pub ascii : String → List ℕ
ascii none = []
ascii (c then rest) = code c ∷ ascii rest

-- the character of a digit
unfoldable pub digit : ℕ → ℕ
digit d = get_or (ascii "0123456789ABCDEF") d 0

-- the hex digit of the low four bits
abbrev pub hex_digit : ℕ → ℕ
hex_digit n = digit (n % 16)

-- the decimal digits of n, which is below k: those before the last, where there are any, and the last
unfoldable pub decimal_below : ℕ → ℕ → List ℕ
decimal_below zero n = []
decimal_below (suc k) n = (when n <? 10 then [] else decimal_below k (n / 10)) ++ (digit (n % 10) ∷ [])

-- a blank and a number: decimal, without leading zeros
unfoldable pub decimal : ℕ → List ℕ
decimal n = ascii " " ++ decimal_below (n + 1) n

-- `refused RECORD BYTE NUMBER`
abbrev pub refused_line : ℕ → ℕ → ℕ → List ℕ
refused_line r byte n = ascii "refused" ++ decimal r ++ decimal byte ++ decimal n ++ ascii "\n"

-- `read RECORD INDEX VALUE`, the value in `two upper-case hex digits`
abbrev pub read_line : ℕ → ℕ → ℕ → List ℕ
read_line r index v = ascii "read" ++ decimal r ++ decimal index ++ (ascii " " ++ (hex_digit (v / 16) ∷ hex_digit v ∷ ascii "\n"))

-- `frame RECORD FRAME WIDTH ROWS`
abbrev pub frame_line : ℕ → ℕ → ℕ → ℕ → List ℕ
frame_line r frame width rows = ascii "frame" ++ decimal r ++ decimal frame ++ decimal width ++ decimal rows ++ ascii "\n"

-- `bad RECORD`
abbrev pub bad_line : ℕ → List ℕ
bad_line r = ascii "bad" ++ decimal r ++ ascii "\n"

-- `end COUNT`
abbrev pub end_line : ℕ → List ℕ
end_line count = ascii "end" ++ decimal count ++ ascii "\n"

-- the text of a line
abbrev pub line_text : Line → List ℕ
line_text (Refused r byte n) = refused_line r byte n
line_text (Read r index v) = read_line r index v
line_text (Frame r frame width rows) = frame_line r frame width rows
line_text (Bad r) = bad_line r
line_text (End count) = end_line count

-- `one line a row, one upper-case hex digit a dot`
unfoldable pub row_line : List ℕ → List ℕ
row_line dots = map hex_digit dots ++ ascii "\n"

-- a buffer of which the first bytes are used, with a text behind them where it fits
abbrev pub appended : List ℕ → ℕ → List ℕ → List ℕ
appended buffer used text =
    when used + length text ≤? length buffer then take used buffer ++ (text ++ drop (used + length text) buffer)
    else buffer

-- how many are used then
abbrev pub used_after : List ℕ → ℕ → List ℕ → ℕ
used_after buffer used text = when used + length text ≤? length buffer then used + length text else used

-- the longest line that is printed: a row of 640 dots and its end
abbrev pub longest_line : ℕ
longest_line = 641
