-- A row with some of its fields changed: antt has no update of a record. Assumes nothing.
use Rattle.std.specs.Prelude.{Bool, List, ℕ, Option}
use Rattle.seq.specs.declared.Seq.{Seq}
use Rattle.link.specs.declared.row.LinkRow.{LinkRow}

-- the flags
abbrev pub with_flags : LinkRow → (blocked unconfirmed : Bool) → LinkRow
with_flags r b u = record {
  live = r.live;
  link_id = r.link_id;
  roundtrip = r.roundtrip;
  max_ping = r.max_ping;
  blocked = b;
  unconfirmed = u;
  zero_estimate = r.zero_estimate;
  limit_increased = r.limit_increased;
  current_ping_sent = r.current_ping_sent;
  txed_unacked_data = r.txed_unacked_data;
  tx_ack_queue = r.tx_ack_queue;
  ack_count = r.ack_count;
}

-- the round trip, its flag and the outstanding ping
abbrev pub with_trip : LinkRow → (roundtrip : ℕ) (zero : Bool) (ping : Option ℕ) → LinkRow
with_trip r t z p = record {
  live = r.live;
  link_id = r.link_id;
  roundtrip = t;
  max_ping = r.max_ping;
  blocked = r.blocked;
  unconfirmed = r.unconfirmed;
  zero_estimate = z;
  limit_increased = r.limit_increased;
  current_ping_sent = p;
  txed_unacked_data = r.txed_unacked_data;
  tx_ack_queue = r.tx_ack_queue;
  ack_count = r.ack_count;
}

-- the mark and the unacked bytes
abbrev pub with_sending : LinkRow → (mark : Option Seq) (unacked : ℕ) → LinkRow
with_sending r m n = record {
  live = r.live;
  link_id = r.link_id;
  roundtrip = r.roundtrip;
  max_ping = r.max_ping;
  blocked = r.blocked;
  unconfirmed = r.unconfirmed;
  zero_estimate = r.zero_estimate;
  limit_increased = m;
  current_ping_sent = r.current_ping_sent;
  txed_unacked_data = n;
  tx_ack_queue = r.tx_ack_queue;
  ack_count = r.ack_count;
}

-- the waiting acks
abbrev pub with_acks : LinkRow → List Seq → ℕ → LinkRow
with_acks r acks n = record {
  live = r.live;
  link_id = r.link_id;
  roundtrip = r.roundtrip;
  max_ping = r.max_ping;
  blocked = r.blocked;
  unconfirmed = r.unconfirmed;
  zero_estimate = r.zero_estimate;
  limit_increased = r.limit_increased;
  current_ping_sent = r.current_ping_sent;
  txed_unacked_data = r.txed_unacked_data;
  tx_ack_queue = acks;
  ack_count = n;
}
