-- Document 01, "The replay program": how it begins. Assumes nothing.
use Rattle.std.specs.Prelude.{false, List, ℕ, None}
use Rattle.engine.specs.Starting.{fresh_of, fresh_records}
use Rattle.engine.specs.Links.{add_of}
use Rattle.replaying.specs.declared.session.Replay.{Replay}
use Rattle.replaying.specs.declared.session.Session.{Session}
use Rattle.replaying.specs.Sizes.{CELLS, RECEIVED_BYTES}

-- "Start number 0, receive buffer 65,536, link 0. Time stays 0.", with so many records lent. The first link that is added is link 0; it is confirmed,
-- and what else it is given reaches no answer.
unfoldable pub beginning : ℕ → Replay
beginning records = record {
  state = (add_of (fresh_of 0 RECEIVED_BYTES CELLS records).state 0 0 None false false).state;
  waiting = None;
}

-- and nothing of a line is carried
unfoldable pub begun : ℕ → Session
unfolding beginning
begun records = record { replay = beginning records; count = 0 }

-- "leaves every record empty, whatever it held" ([8])
abbrev pub begun_records : List ℕ → List ℕ
begun_records records = fresh_records RECEIVED_BYTES CELLS records
