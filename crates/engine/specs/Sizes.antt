-- Document 01: "Sizes: 8 link slots (0 to 7); 64 sent packets; 64 receive cells; 64 waiting acks a link; data 0 to 1,024 bytes a
-- message. Two lent stores, sent and received, of exactly 65,536 bytes each: number n uses cell n mod 64." The acks and the latest
-- time are the link rows'; how many receive cells there may be is request [8]'s (CellCount). Assumes nothing.
use Rattle.std.specs.Prelude.{ℕ}

abbrev pub SLOTS : ℕ
SLOTS = 8

abbrev pub PACKETS : ℕ
PACKETS = 64

abbrev pub DATA_BYTES : ℕ
DATA_BYTES = 1024

abbrev pub SENT_BYTES : ℕ
SENT_BYTES = 65536
