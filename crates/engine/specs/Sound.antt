-- Document 01: "Sound means: ..", clause by clause in the paper's order. Refusal 1 asks just this (Decide). A clause over "every
-- packet" or "each link" names it by its place: i from the oldest packet, j the slot of a live link, k numbers past the oldest. An
-- empty slot has no link, and nothing is asked of what its row holds. What the cells hold stands in the lent records: "receiving, showing and taking
-- messages use it, and other calls judge Sound without what it holds" (document 02, [8]). So Sound is what every call judges, and SoundRecords
-- the clauses that those three judge besides. Assumes nothing.
use Rattle.std.specs.Prelude.{◌≡◌, ℕ, suc, ◌*◌, ◌^◌, ◌<◌, ◌≤◌, true, false, length, slice_index, slice_index_or, Some, None, Option}
use Rattle.engine.specs.Held.{Held}
use Rattle.seq.specs.Numbers.{seq_of, plus}
use Rattle.link.specs.declared.row.LinkRow.{LinkRow}
use Rattle.link.specs.Sizes.{max_ping_within, ping_within, MAX_TIME, ACKS}
use Rattle.link.specs.Row.{no_row}
use Rattle.engine.specs.declared.state.SentReliableStatus.{SentReliableStatus}
use Rattle.engine.specs.declared.state.SentReliableStatus.TheVariants.{Sent, Received, ResendQueued}
use Rattle.engine.specs.declared.state.SentReliable.{SentReliable}
use Rattle.engine.specs.declared.state.State.{State}
use Rattle.engine.specs.Packets.{no_packet, first_of, packets, queue, is_received, queued_of, SentOn, Outstanding, Settled, sum_of}
use Rattle.engine.specs.Records.{is_full, is_ready_kind, is_record}
use Rattle.engine.specs.Received.{RxTable, record_view, cell_view, expected_at, in_use, bytes_in}
use Rattle.engine.specs.Tally.{length_ok}
use Rattle.engine.specs.CellCount.{is_cell_count}
use Rattle.engine.specs.Sizes.{SLOTS, PACKETS, DATA_BYTES}

-- the row of a slot
abbrev pub row_at : State → ℕ → LinkRow
row_at s j = slice_index_or s.links j no_row

-- the packet at a place of the table
abbrev pub packet_at : State → ℕ → SentReliable
packet_at s i = slice_index_or (packets s.tx) i no_packet

-- "every Sent packet names a live slot with that slot's identity"
abbrev pub SentHere : State → SentReliableStatus → Type 0
SentHere s (Sent flight) = (flight.slot < SLOTS) × ((row_at s flight.slot).live ≡ true) × ((row_at s flight.slot).link_id ≡ flight.link)
SentHere s Received = Unit
SentHere s (ResendQueued link) = Unit

abbrev pub FlushedBy : ℕ → Option ℕ → Type 0
FlushedBy time None = Unit
FlushedBy time (Some at) = at ≤ time

-- "send, flush .. times are at most the last accepted time"
abbrev pub SentBy : ℕ → SentReliableStatus → Type 0
SentBy time (Sent flight) = (flight.sent ≤ time) × FlushedBy time flight.flushed
SentBy time Received = Unit
SentBy time (ResendQueued link) = Unit

-- "Data or SendFinish", where anything stands
abbrev pub ReadyKind : Held → Type 0
ReadyKind None = Unit
ReadyKind (Some (msg, len)) = is_ready_kind msg ≡ true

-- "counts, lengths .. are within their sizes": a message's length
abbrev pub LengthWithin : Held → Type 0
LengthWithin None = Unit
LengthWithin (Some (msg, len)) = length_ok msg len ≡ true

pub record Sound (s : State) : Type 0 where
  -- "packet numbers are consecutive and end just before the next number": place i bears the first number plus i, and the
  -- first is `txed_count` before the next
  pub consecutive : (i : ℕ) → i < s.tx.txed_count → (packet_at s i).seq ≡ seq_of (plus (first_of s.tx) i)
  -- "the first packet isn't Received"
  pub first : 0 < s.tx.txed_count → is_received (packet_at s 0).status ≡ false
  -- "every Sent packet names a live slot with that slot's identity"
  pub sent : (i : ℕ) → i < s.tx.txed_count → SentHere s (packet_at s i).status
  -- "the resend queue lists each ResendQueued number once, oldest first"
  pub queued : queue s.tx ≡ queued_of (packets s.tx)
  -- "each link's unacked bytes are the sum of its Sent data"
  pub link-unacked : (j : ℕ) → j < SLOTS → (row_at s j).live ≡ true → (row_at s j).txed_unacked_data ≡ sum_of (SentOn j) (packets s.tx)
  -- "`txed_unacked` is the sum of Sent and ResendQueued data; `txed_unconsumable` that of Received data"
  pub unacked : s.tx.txed_unacked ≡ sum_of Outstanding (packets s.tx)
  pub unconsumable : s.tx.txed_unconsumable ≡ sum_of Settled (packets s.tx)
  -- "untaken data is within the receive buffer"
  pub untaken-within : s.rx.rxed_reliable_size ≤ s.rx.recv_buffer
  -- "no identity lives twice"
  pub identities : (i j : ℕ) → i < SLOTS → j < SLOTS → (row_at s i).live ≡ true → (row_at s j).live ≡ true → (row_at s i).link_id ≡ (row_at s j).link_id → i ≡ j
  -- "all lie 0 to 63 past the number refusal 12 counts from, and the next expected 0 to 64 past it", where [8] has the cell count "for 64 (one
  -- less for 63)": the cells in use go past the next expected number, and are no more than there are
  pub near : expected_at s.rx ≤ in_use s.rx
  pub used : in_use s.rx ≤ s.rx.cells
  -- "send, flush and ping times are at most the last accepted time"
  pub sent-by : (i : ℕ) → i < s.tx.txed_count → SentBy s.time (packet_at s i).status
  pub pinged-by : (j : ℕ) → j < SLOTS → (row_at s j).live ≡ true → ping_within (row_at s j).current_ping_sent s.time ≡ true
  -- "counts, lengths and times are within their sizes"
  pub packet-count : s.tx.txed_count ≤ PACKETS
  pub queue-count : s.tx.resend_count ≤ PACKETS
  pub ack-count : (j : ℕ) → j < SLOTS → (row_at s j).live ≡ true → (row_at s j).ack_count ≤ ACKS
  pub packet-length : (i : ℕ) → i < s.tx.txed_count → length_ok (packet_at s i).msg (packet_at s i).len ≡ true
  -- .. "the receive buffer setting may reach cells times 1,024", and the cell count is one that there may be ([8])
  pub cell-count : is_cell_count s.rx.cells ≡ true
  pub buffer-set : 1 ≤ s.rx.recv_buffer
  pub buffer-within : s.rx.recv_buffer ≤ s.rx.cells * DATA_BYTES
  pub time-within : s.time ≤ MAX_TIME
  pub trip-within : (j : ℕ) → j < SLOTS → (row_at s j).live ≡ true → (row_at s j).roundtrip ≤ MAX_TIME
  pub max-ping-within : (j : ℕ) → j < SLOTS → (row_at s j).live ≡ true → max_ping_within (row_at s j).max_ping ≡ true

-- what the cell k numbers past the oldest holds
abbrev pub cell_at : RxTable → ℕ → Held
cell_at t k = slice_index_or (cell_view t.rx.cells t) k None

-- the clauses about what the cells hold
pub record SoundRecords (t : RxTable) : Type 0 where
  -- there is a record for each cell
  pub long : length t.records ≡ t.rx.cells
  -- "untaken data .. equals its sum"
  pub untaken : t.rx.rxed_reliable_size ≡ bytes_in (cell_view t.rx.cells t)
  -- "ready messages are Data or SendFinish, rising, before the next expected": the numbers from the oldest up to it hold
  -- nothing else, and the oldest holds one
  pub ready : (k : ℕ) → k < expected_at t.rx → ReadyKind (cell_at t k)
  pub oldest : 0 < expected_at t.rx → is_full (cell_at t 0) ≡ true
  -- "held ones lie after it, each once": nothing stands at the next expected itself, and the last cell in use holds one
  pub held : cell_at t (expected_at t.rx) ≡ None
  pub newest : (k : ℕ) → expected_at t.rx ≤ k → suc k ≡ in_use t.rx → is_full (cell_at t k) ≡ true
  -- "counts, lengths .. are within their sizes": each record in use is 0 or the record of a message
  pub cell-length : (k : ℕ) → k < in_use t.rx → LengthWithin (cell_at t k)
  pub recorded : (k : ℕ) → k < in_use t.rx → is_record (slice_index (record_view t.rx.cells t) k) ≡ true

-- what the types of a state's fields say of it: the arrays' lengths and the numbers' ranges
pub record Shaped (s : State) : Type 0 where
  pub links-full : length s.links ≡ SLOTS
  pub queues : (j : ℕ) → j < SLOTS → length (row_at s j).tx_ack_queue ≡ ACKS
  pub packets-full : length s.tx.txed_packets ≡ PACKETS
  pub queue-full : length s.tx.resend_queue ≡ PACKETS
  pub next-u32 : s.tx.tx_seq.0 < 2 ^ 32
  pub expected-u32 : s.rx.rx_seq.0 < 2 ^ 32
  pub oldest-u32 : s.rx.rx_oldest.0 < 2 ^ 32
  pub count-usize : s.tx.txed_count < 2 ^ 64
  pub queue-usize : s.tx.resend_count < 2 ^ 64
  pub unacked-u32 : s.tx.txed_unacked < 2 ^ 32
  pub unconsumed-u32 : s.tx.txed_unconsumed < 2 ^ 32
  pub unconsumable-u32 : s.tx.txed_unconsumable < 2 ^ 32
  pub last-u32 : s.tx.txed_last_consumed.0 < 2 ^ 32
  pub size-u32 : s.rx.rxed_reliable_size < 2 ^ 32
  pub untold-u32 : s.rx.rxed_reliable_consumed < 2 ^ 32
  pub buffer-u32 : s.rx.recv_buffer < 2 ^ 32
  pub cells-u32 : s.rx.cells < 2 ^ 32
  pub end-u32 : s.rx.rx_end.0 < 2 ^ 32
  pub time-u64 : s.time < 2 ^ 64
