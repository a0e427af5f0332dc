-- Document 01, "The replay program": "Start number 0, receive buffer 65,536", and a received store of 65,536 bytes: the 64 cells that were all there were
-- before request [8]. Assumes nothing.
use Rattle.std.specs.Prelude.{ℕ}

abbrev pub CELLS : ℕ
CELLS = 64

abbrev pub RECEIVED_BYTES : ℕ
RECEIVED_BYTES = 65536
