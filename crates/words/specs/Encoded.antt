-- The words that a part of the state is written as, and that they say it again. Assumes nothing.
use Rattle.std.specs.Prelude.{◌≡◌, refl, is_some, Bool, true, false, cond, List, [], ◌∷◌, ℕ, ◌^◌, ◌<◌, replicate, set, Some, None, Option}
use Rattle.std.proofs.Common.{sym, ap, ◌∙◌, mod-eq_of_lt}
use Rattle.refusal.specs.Answers.{flag}
use Rattle.seq.specs.declared.Seq.{Seq}
use Rattle.seq.specs.Numbers.{seq_of}
use Rattle.link.specs.declared.row.LinkRow.{LinkRow}
use Rattle.link.specs.Fields.{with_acks}
use Rattle.link.specs.Sizes.{ACKS}
use Rattle.engine.specs.declared.state.InFlight.{InFlight}
use Rattle.engine.specs.declared.state.SentReliableStatus.{SentReliableStatus}
use Rattle.engine.specs.declared.state.SentReliableStatus.TheVariants.{Sent, Received, ResendQueued}
use Rattle.engine.specs.declared.state.SentReliable.{SentReliable}
use Rattle.engine.specs.declared.state.Sending.{Sending}
use Rattle.engine.specs.declared.state.Receiving.{Receiving}
use Rattle.engine.specs.Records.{record_of, held-record}
use Rattle.engine.specs.Fields.{new_flight, new_packet}
use Rattle.words.specs.declared.sending.SendingNumbers.{SendingNumbers}
use Rattle.words.specs.Meaning.{half, is_set, max_ping_of, limit_of, ping_of, flushed_of, row_of, status_of, packet_held, packet_of, tx_of, rx_of}

-- a flag, and a number of 32 bits, come back
pub set-flag : (b : Bool) → is_set (flag b) ≡ b
set-flag true = refl
set-flag false = refl

pub half-small : (n : ℕ) → n < 2 ^ 32 → half n ≡ n
half-small n h = mod-eq_of_lt h

pub seq-small : (s : Seq) → s.0 < 2 ^ 32 → seq_of (half s.0) ≡ s
seq-small s h = ap seq_of (half-small s.0 h)

-- ---- the receiving half

abbrev pub rx_words : Receiving → List ℕ
rx_words rx =
    rx.rx_seq.0 ∷ rx.rx_oldest.0 ∷ rx.rxed_reliable_size ∷ rx.rxed_reliable_consumed ∷ rx.recv_buffer ∷ rx.cells ∷ rx.rx_end.0 ∷ []

pub record SmallRx (rx : Receiving) : Type 0 where
  pub expected : rx.rx_seq.0 < 2 ^ 32
  pub oldest : rx.rx_oldest.0 < 2 ^ 32
  pub size : rx.rxed_reliable_size < 2 ^ 32
  pub untold : rx.rxed_reliable_consumed < 2 ^ 32
  pub buffer : rx.recv_buffer < 2 ^ 32
  pub cells : rx.cells < 2 ^ 32
  pub end : rx.rx_end.0 < 2 ^ 32

pub rx-back : (rx : Receiving) → SmallRx rx → rx_of (rx_words rx) ≡ rx
unfolding rx_of
rx-back rx h = λ i. record {
  rx_seq = seq-small rx.rx_seq h.expected i;
  rx_oldest = seq-small rx.rx_oldest h.oldest i;
  rxed_reliable_size = half-small rx.rxed_reliable_size h.size i;
  rxed_reliable_consumed = half-small rx.rxed_reliable_consumed h.untold i;
  recv_buffer = half-small rx.recv_buffer h.buffer i;
  cells = half-small rx.cells h.cells i;
  rx_end = seq-small rx.rx_end h.end i;
}

-- ---- the sending half's numbers

abbrev pub numbers_of : Sending → SendingNumbers
numbers_of tx = record {
  tx_seq = tx.tx_seq;
  txed_count = tx.txed_count;
  resend_count = tx.resend_count;
  txed_unacked = tx.txed_unacked;
  txed_unconsumed = tx.txed_unconsumed;
  txed_unconsumable = tx.txed_unconsumable;
  txed_last_consumed = tx.txed_last_consumed;
  send_finish_sent = tx.send_finish_sent;
  write_closed = tx.write_closed;
}

-- other numbers, over the same packets and queue
abbrev pub with_counts : Sending → SendingNumbers → Sending
with_counts tx n = record {
  tx_seq = n.tx_seq;
  txed_packets = tx.txed_packets;
  txed_count = n.txed_count;
  resend_queue = tx.resend_queue;
  resend_count = n.resend_count;
  txed_unacked = n.txed_unacked;
  txed_unconsumed = n.txed_unconsumed;
  txed_unconsumable = n.txed_unconsumable;
  txed_last_consumed = n.txed_last_consumed;
  send_finish_sent = n.send_finish_sent;
  write_closed = n.write_closed;
}

abbrev pub numbers_words : SendingNumbers → List ℕ
numbers_words n =
    n.tx_seq.0
    ∷ n.txed_count
    ∷ n.resend_count
    ∷ n.txed_unacked
    ∷ n.txed_unconsumed
    ∷ n.txed_unconsumable
    ∷ n.txed_last_consumed.0
    ∷ flag n.send_finish_sent
    ∷ flag n.write_closed
    ∷ []

pub record SmallNumbers (n : SendingNumbers) : Type 0 where
  pub next : n.tx_seq.0 < 2 ^ 32
  pub unacked : n.txed_unacked < 2 ^ 32
  pub unconsumed : n.txed_unconsumed < 2 ^ 32
  pub unconsumable : n.txed_unconsumable < 2 ^ 32
  pub last : n.txed_last_consumed.0 < 2 ^ 32

pub tx-back : (n : SendingNumbers) (tx : Sending) → SmallNumbers n → tx_of (numbers_words n) tx.txed_packets tx.resend_queue ≡ with_counts tx n
unfolding tx_of
tx-back n tx h = λ i. record {
  tx_seq = seq-small n.tx_seq h.next i;
  txed_packets = tx.txed_packets;
  txed_count = n.txed_count;
  resend_queue = tx.resend_queue;
  resend_count = n.resend_count;
  txed_unacked = half-small n.txed_unacked h.unacked i;
  txed_unconsumed = half-small n.txed_unconsumed h.unconsumed i;
  txed_unconsumable = half-small n.txed_unconsumable h.unconsumable i;
  txed_last_consumed = seq-small n.txed_last_consumed h.last i;
  send_finish_sent = set-flag n.send_finish_sent i;
  write_closed = set-flag n.write_closed i;
}

-- ---- a row

-- without its acks, which stand elsewhere
unfoldable pub no_acks : List Seq
no_acks = replicate ACKS (seq_of 0)

abbrev pub bare : LinkRow → LinkRow
bare r = with_acks r no_acks r.ack_count

abbrev pub max_ping_some : Option ℕ → ℕ
max_ping_some None = 0
max_ping_some (Some v) = 1

abbrev pub max_ping_word : Option ℕ → ℕ
max_ping_word None = 0
max_ping_word (Some v) = v

abbrev pub limit_some : Option Seq → ℕ
limit_some None = 0
limit_some (Some m) = 1

abbrev pub limit_word : Option Seq → ℕ
limit_word None = 0
limit_word (Some m) = m.0

abbrev pub ping_some : Option ℕ → ℕ
ping_some None = 0
ping_some (Some t) = 1

abbrev pub ping_word : Option ℕ → ℕ
ping_word None = 0
ping_word (Some t) = t

abbrev pub row_words : LinkRow → List ℕ
row_words r =
    flag r.live
    ∷ r.link_id
    ∷ r.roundtrip
    ∷ max_ping_some r.max_ping
    ∷ max_ping_word r.max_ping
    ∷ flag r.blocked
    ∷ flag r.unconfirmed
    ∷ flag r.zero_estimate
    ∷ limit_some r.limit_increased
    ∷ limit_word r.limit_increased
    ∷ ping_some r.current_ping_sent
    ∷ ping_word r.current_ping_sent
    ∷ r.txed_unacked_data
    ∷ r.ack_count
    ∷ []

max-ping-back : (m : Option ℕ) → max_ping_of (max_ping_some m) (max_ping_word m) ≡ m
max-ping-back None = refl
max-ping-back (Some v) = refl

-- a mark is a number of 32 bits
abbrev pub SmallLimit : Option Seq → Type 0
SmallLimit None = Unit
SmallLimit (Some m) = m.0 < 2 ^ 32

pub small-limit : (l : Option Seq) → limit_word l < 2 ^ 32 → SmallLimit l
small-limit None h = tt
small-limit (Some m) h = h

-- whether there is a mark, as a flag
pub limit-flag : (l : Option Seq) → flag (is_some l) ≡ limit_some l
limit-flag None = refl
limit-flag (Some m) = refl

pub limit-back : (l : Option Seq) → SmallLimit l → limit_of (limit_some l) (limit_word l) ≡ l
limit-back None h = refl
limit-back (Some m) h = ap Some (seq-small m h)

ping-back : (p : Option ℕ) → ping_of (ping_some p) (ping_word p) ≡ p
ping-back None = refl
ping-back (Some t) = refl

pub row_back : (r : LinkRow) (acks : List Seq) → r.txed_unacked_data < 2 ^ 32 → SmallLimit r.limit_increased → row_of (row_words r) acks ≡ with_acks r acks r.ack_count
unfolding row_of
row_back r acks h l = λ i. record {
  live = set-flag r.live i;
  link_id = r.link_id;
  roundtrip = r.roundtrip;
  max_ping = max-ping-back r.max_ping i;
  blocked = set-flag r.blocked i;
  unconfirmed = set-flag r.unconfirmed i;
  zero_estimate = set-flag r.zero_estimate i;
  limit_increased = limit-back r.limit_increased l i;
  current_ping_sent = ping-back r.current_ping_sent i;
  txed_unacked_data = half-small r.txed_unacked_data h i;
  tx_ack_queue = acks;
  ack_count = r.ack_count;
}

-- a row's words after an ack: other ones for the round trip, its flag, the mark and the unacked bytes
abbrev pub acked_words : List ℕ → LinkRow → List ℕ
acked_words xs r =
    set (set (set (set (set xs 2 r.roundtrip) 7 (flag r.zero_estimate)) 8 (limit_some r.limit_increased)) 9 (limit_word r.limit_increased)) 12 r.txed_unacked_data

-- ---- a packet

-- the tag of a status: 1 Sent, 2 Sent again, 3 Received, 4 ResendQueued
abbrev pub status_word : SentReliableStatus → ℕ
status_word (Sent flight) = cond flight.resent 2 1
status_word Received = 3
status_word (ResendQueued link) = 4

-- the flight that its words are written from; of one that is in none, what is never read is 0
abbrev pub flight_in : SentReliableStatus → InFlight
flight_in (Sent flight) = flight
flight_in Received = new_flight 0 0 0 false
flight_in (ResendQueued link) = new_flight 0 0 link false

abbrev pub flushed_some : Option ℕ → ℕ
flushed_some None = 0
flushed_some (Some t) = 1

abbrev pub flushed_word : Option ℕ → ℕ
flushed_word None = 0
flushed_word (Some t) = t

abbrev pub packet_words : SentReliable → List ℕ
packet_words p =
    p.seq.0
    ∷ record_of (Some (p.msg, p.len))
    ∷ status_word p.status
    ∷ (flight_in p.status).slot
    ∷ (flight_in p.status).link
    ∷ (flight_in p.status).sent
    ∷ flushed_some (flight_in p.status).flushed
    ∷ flushed_word (flight_in p.status).flushed
    ∷ []

flushed-back : (f : Option ℕ) → flushed_of (flushed_some f) (flushed_word f) ≡ f
flushed-back None = refl
flushed-back (Some t) = refl

abbrev pub SmallSlot : SentReliableStatus → Type 0
SmallSlot (Sent flight) = flight.slot < 256
SmallSlot Received = Unit
SmallSlot (ResendQueued link) = Unit

pub small_slot : (st : SentReliableStatus) → (flight_in st).slot < 256 → SmallSlot st
small_slot (Sent flight) h = h
small_slot Received h = tt
small_slot (ResendQueued link) h = tt

-- the words of a packet with a status
abbrev status_words : ℕ → ℕ → SentReliableStatus → List ℕ
status_words seq message st =
    seq ∷ message ∷ status_word st ∷ (flight_in st).slot ∷ (flight_in st).link ∷ (flight_in st).sent ∷ flushed_some (flight_in st).flushed ∷ flushed_word (flight_in st).flushed ∷ []

sent_back : (seq message : ℕ) (again : Bool) (flight : InFlight) → flight.resent ≡ again → flight.slot < 256 → status_of (status_words seq message (Sent flight)) ≡ Sent flight
unfolding status_of
sent_back seq message true flight e h =
    simp e (λ i. Sent (record { sent = flight.sent; flushed = flushed-back flight.flushed i; slot = mod-eq_of_lt h i; link = flight.link; resent = sym e i }))
sent_back seq message false flight e h =
    simp e (λ i. Sent (record { sent = flight.sent; flushed = flushed-back flight.flushed i; slot = mod-eq_of_lt h i; link = flight.link; resent = sym e i }))

status-back : (seq message : ℕ) (st : SentReliableStatus) → SmallSlot st → status_of (status_words seq message st) ≡ st
unfolding status_of
status-back seq message (Sent flight) h = sent_back seq message flight.resent flight refl h
status-back seq message Received h = refl
status-back seq message (ResendQueued link) h = refl

pub packet-back : (p : SentReliable) → p.seq.0 < 2 ^ 32 → p.len < 2 ^ 24 → SmallSlot p.status → packet_of (packet_words p) ≡ p
unfolding packet_of
packet-back p n l s =
    ap (λ h. packet_held h (seq_of (half p.seq.0)) (status_of (packet_words p))) (held-record p.msg p.len l)
    ∙ (λ i. new_packet (seq-small p.seq n i) p.msg p.len (status-back p.seq.0 (record_of (Some (p.msg, p.len))) p.status s i))
