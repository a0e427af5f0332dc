-- Document 02 [6]: "At most 1,024 numbers a side". The sizes of a comparison, by the names that the code has for them. Assumes nothing.
use Rattle.std.specs.Prelude.{ℕ}

abbrev pub NUMBERS : ℕ
NUMBERS = 1024

-- two for each number of both sides
abbrev pub DIFFERENCES : ℕ
DIFFERENCES = 4096

-- what two lines spell, 1,040 bytes each
abbrev pub RUN : ℕ
RUN = 2080
