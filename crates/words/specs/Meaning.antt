-- What the words of a state say. Every list of words says some state: a number of 32 bits is its word's lower half, a slot its word's lowest byte, a flag
-- is set by any word but 0. A tag that is none makes a packet that no sound state has, and so does a message word that is none; words of any other length say a
-- state without cells, which is not sound. Assumes nothing.
use Rattle.std.specs.Bool.{then_some}
use Rattle.std.specs.Prelude.{◌≡◌, refl, unwrap_or, Bool, true, false, cond, not, List, [], map, ℕ, ◌%◌, eqb, length, get_or, Some, None, Option}
use Rattle.engine.specs.Held.{Held}
use Rattle.std.proofs.Common.{eq-eqb}
use Rattle.seq.specs.declared.Seq.{Seq}
use Rattle.seq.specs.Numbers.{seq_of}
use Rattle.msg.specs.declared.reliable.ReliableMsg.TheVariants.{Data}
use Rattle.link.specs.declared.row.LinkRow.{LinkRow}
use Rattle.engine.specs.declared.state.InFlight.{InFlight}
use Rattle.engine.specs.declared.state.SentReliableStatus.{SentReliableStatus}
use Rattle.engine.specs.declared.state.SentReliableStatus.TheVariants.{Sent, Received, ResendQueued}
use Rattle.engine.specs.declared.state.SentReliable.{SentReliable}
use Rattle.engine.specs.declared.state.Sending.{Sending}
use Rattle.engine.specs.declared.state.Receiving.{Receiving}
use Rattle.engine.specs.declared.state.State.{State}
use Rattle.engine.specs.Fields.{new_packet}
use Rattle.engine.specs.Records.{held_of}
use Rattle.words.specs.Parts.{part, entries}
use Rattle.words.specs.Layout.{WORDS, TX, RX, TIME, READER, row_start, acks_start, packet_start, QUEUE}

-- a number of 32 bits; a sequence number; a flag
abbrev pub half : ℕ → ℕ
half v = v % 4294967296

abbrev pub seq_word : ℕ → Seq
seq_word v = seq_of (half v)

abbrev pub is_set : ℕ → Bool
is_set v = not (eqb v 0)

-- what may be missing: a flag, and the value where it is set
abbrev pub max_ping_of : ℕ → ℕ → Option ℕ
max_ping_of some v = cond (is_set some) (Some v) None

abbrev pub limit_of : ℕ → ℕ → Option Seq
limit_of some v = cond (is_set some) (Some (seq_word v)) None

abbrev pub ping_of : ℕ → ℕ → Option ℕ
ping_of some v = cond (is_set some) (Some v) None

abbrev pub flushed_of : ℕ → ℕ → Option ℕ
flushed_of some v = cond (is_set some) (Some v) None

-- a row, with its acks
unfoldable pub row_of : List ℕ → List Seq → LinkRow
row_of xs acks = record {
  live = is_set (get_or xs 0 0);
  link_id = get_or xs 1 0;
  roundtrip = get_or xs 2 0;
  max_ping = max_ping_of (get_or xs 3 0) (get_or xs 4 0);
  blocked = is_set (get_or xs 5 0);
  unconfirmed = is_set (get_or xs 6 0);
  zero_estimate = is_set (get_or xs 7 0);
  limit_increased = limit_of (get_or xs 8 0) (get_or xs 9 0);
  current_ping_sent = ping_of (get_or xs 10 0) (get_or xs 11 0);
  txed_unacked_data = half (get_or xs 12 0);
  tx_ack_queue = acks;
  ack_count = get_or xs 13 0;
}

-- a slot and a length that no sound state has
abbrev pub NO_SLOT : ℕ
NO_SLOT = 255

abbrev pub NO_LENGTH : ℕ
NO_LENGTH = 16777215

-- a packet's tag: 1 Sent, 2 Sent again, 3 Received, 4 ResendQueued
abbrev pub flight_of : List ℕ → ℕ → Bool → InFlight
flight_of xs slot again = record { sent = get_or xs 5 0; flushed = flushed_of (get_or xs 6 0) (get_or xs 7 0); slot = slot; link = get_or xs 4 0; resent = again }

unfoldable pub status_of : List ℕ → SentReliableStatus
status_of xs =
    cond (eqb (get_or xs 2 0) 1) (Sent (flight_of xs (get_or xs 3 0 % 256) false))
    (cond (eqb (get_or xs 2 0) 2) (Sent (flight_of xs (get_or xs 3 0 % 256) true))
    (cond (eqb (get_or xs 2 0) 3) Received
    (cond (eqb (get_or xs 2 0) 4) (ResendQueued (get_or xs 4 0))
    (Sent (flight_of xs NO_SLOT false)))))

-- its message is in one word, as in the record space
abbrev pub packet_held : Held → Seq → SentReliableStatus → SentReliable
packet_held (Some (msg, len)) seq status = new_packet seq msg len status
packet_held None seq status = new_packet seq Data NO_LENGTH status

unfoldable pub packet_of : List ℕ → SentReliable
unfolding status_of
packet_of xs = packet_held (held_of (get_or xs 1 0)) (seq_word (get_or xs 0 0)) (status_of xs)

-- ---- the parts of the state

unfoldable pub acks_in : List ℕ → ℕ → List Seq
acks_in w slot = map seq_word (part (acks_start slot) 64 w)

unfoldable pub links_in : List ℕ → List LinkRow
unfolding row_of acks_in
links_in w = entries 8 (λ slot. row_of (part (row_start slot) 14 w) (acks_in w slot))

unfoldable pub packets_in : List ℕ → List SentReliable
unfolding packet_of
packets_in w = entries 64 (λ at. packet_of (part (packet_start at) 8 w))

unfoldable pub queue_in : List ℕ → List Seq
queue_in w = map seq_word (part QUEUE 64 w)

unfoldable pub tx_of : List ℕ → List SentReliable → List Seq → Sending
tx_of xs packets queue = record {
  tx_seq = seq_word (get_or xs 0 0);
  txed_packets = packets;
  txed_count = get_or xs 1 0;
  resend_queue = queue;
  resend_count = get_or xs 2 0;
  txed_unacked = half (get_or xs 3 0);
  txed_unconsumed = half (get_or xs 4 0);
  txed_unconsumable = half (get_or xs 5 0);
  txed_last_consumed = seq_word (get_or xs 6 0);
  send_finish_sent = is_set (get_or xs 7 0);
  write_closed = is_set (get_or xs 8 0);
}

unfoldable pub rx_of : List ℕ → Receiving
rx_of xs = record {
  rx_seq = seq_word (get_or xs 0 0);
  rx_oldest = seq_word (get_or xs 1 0);
  rxed_reliable_size = half (get_or xs 2 0);
  rxed_reliable_consumed = half (get_or xs 3 0);
  recv_buffer = half (get_or xs 4 0);
  cells = half (get_or xs 5 0);
  rx_end = seq_word (get_or xs 6 0);
}

unfoldable pub decoded : List ℕ → State
unfolding links_in packets_in queue_in tx_of rx_of
decoded w = record {
  links = links_in w;
  tx = tx_of (part TX 9 w) (packets_in w) (queue_in w);
  rx = rx_of (part RX 7 w);
  time = get_or w TIME 0;
  read_open = is_set (get_or w READER 0);
}

-- what words say; those of another length than a state's say what no words say
unfoldable pub state_of : List ℕ → State
unfolding decoded
state_of w = cond (eqb (length w) WORDS) (decoded w) (decoded [])

-- ---- laws

pub stated : (w : List ℕ) → length w ≡ WORDS → state_of w ≡ decoded w
unfolding state_of
stated w e = simp (eq-eqb (length w) WORDS e)

-- a value that is given where a flag is set
pub given-where : {A : Type 0} (set : Bool) (v : A) → then_some set v ≡ cond set (Some v) None
given-where true v = refl
given-where false v = refl

-- a message word that is none: what is read in its place
pub held-or : (h : Held) (seq : Seq) (st : SentReliableStatus) → new_packet seq (unwrap_or h (Data, NO_LENGTH)).0 (unwrap_or h (Data, NO_LENGTH)).1 st ≡ packet_held h seq st
held-or (Some (msg, len)) seq st = refl
held-or None seq st = refl
