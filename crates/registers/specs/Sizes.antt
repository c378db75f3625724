-- Reference, 'Refusals'; 01, 'Refusal numbers': the sizes that refusals 1 and 8 test.
use Rattle.std.specs.Prelude.{ℕ}

abbrev pub memory_size : ℕ
memory_size = 32768

abbrev pub font_size : ℕ
font_size = 1280
