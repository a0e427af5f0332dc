-- Where each thing stands among the words of a state: docs/WORDS.md has it as a table. Assumes nothing.
use Rattle.std.specs.Prelude.{ℕ, ◌+◌, ◌*◌}

-- the words of a state
abbrev pub WORDS : ℕ
WORDS = 1248

-- the sending half's numbers, nine; the receiving half's, seven; the time and the reader
abbrev pub TX : ℕ
TX = 0

abbrev pub RX : ℕ
RX = 16

abbrev pub TIME : ℕ
TIME = 24

abbrev pub READER : ℕ
READER = 25

-- a slot's row, fourteen words, and its acks
abbrev pub row_start : ℕ → ℕ
row_start slot = 32 + slot * 16

abbrev pub acks_start : ℕ → ℕ
acks_start slot = 160 + slot * 64

-- a cell of the packet table, eight words
abbrev pub packet_start : ℕ → ℕ
packet_start at = 672 + at * 8

-- the resend queue
abbrev pub QUEUE : ℕ
QUEUE = 1184
