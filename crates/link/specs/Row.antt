-- Document 01, "What each call does", "Links" and "Unconfirm": a link's row when it is added, removed, confirmed,
-- unconfirmed and blocked. Assumes nothing.
use Rattle.std.specs.Prelude.{Bool, true, false, ℕ, replicate, [], None, Option}
use Rattle.seq.specs.Numbers.{seq_of}
use Rattle.link.specs.declared.row.LinkRow.{LinkRow}
use Rattle.link.specs.Fields.{with_flags, with_sending, with_acks}
use Rattle.link.specs.Sizes.{ACKS}

-- "Its round trip, `max_ping` or none, blocked and unconfirmed flags are given; all else starts empty, the zero-estimate
-- flag false (P)."
unfoldable pub fresh_row : ℕ → ℕ → Option ℕ → Bool → Bool → LinkRow
fresh_row id roundtrip max blocked unconfirmed = record {
  live = true;
  link_id = id;
  roundtrip = roundtrip;
  max_ping = max;
  blocked = blocked;
  unconfirmed = unconfirmed;
  zero_estimate = false;
  limit_increased = None;
  current_ping_sent = None;
  txed_unacked_data = 0;
  tx_ack_queue = replicate ACKS (seq_of 0);
  ack_count = 0;
}

-- what an index past the rows would read
abbrev pub no_row : LinkRow
no_row = record {
  live = false;
  link_id = 0;
  roundtrip = 0;
  max_ping = None;
  blocked = false;
  unconfirmed = false;
  zero_estimate = false;
  limit_increased = None;
  current_ping_sent = None;
  txed_unacked_data = 0;
  tx_ack_queue = [];
  ack_count = 0;
}

-- an empty slot: "all else empty, zero or false"
unfoldable pub empty_row : LinkRow
empty_row = with_acks no_row (replicate ACKS (seq_of 0)) 0

-- "Confirming, blocking .. are plain changes of a row (P)."
unfoldable pub confirmed : LinkRow → LinkRow
confirmed r = with_flags r r.blocked false

unfoldable pub blocked_row : LinkRow → Bool → LinkRow
blocked_row r b = with_flags r b r.unconfirmed

-- "The link becomes unconfirmed; its mark is cleared, its round trip and flag kept (P). Its Sent packets become
-- ResendQueued", so that none of its bytes is unacked
unfoldable pub unconfirmed_row : LinkRow → LinkRow
unconfirmed_row r = with_flags (with_sending r None 0) r.blocked true

-- the link's unacked bytes, which the engine counts
unfoldable pub with_unacked : LinkRow → ℕ → LinkRow
with_unacked r n = with_sending r r.limit_increased n
