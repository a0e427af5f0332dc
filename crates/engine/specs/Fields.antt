-- The state, its halves and a packet with some of their fields changed: antt has no update of a record, and so a new field is
-- written here and where it starts (Starting), and nowhere else. Assumes nothing.
use Rattle.std.specs.Prelude.{ℕ, Bool, List, slice_set, Some, None, Option}
use Rattle.seq.specs.declared.Seq.{Seq}
use Rattle.link.specs.declared.row.LinkRow.{LinkRow}
use Rattle.msg.specs.declared.reliable.ReliableMsg.{ReliableMsg}
use Rattle.engine.specs.declared.state.SentReliableStatus.{SentReliableStatus}
use Rattle.engine.specs.declared.state.SentReliable.{SentReliable}
use Rattle.engine.specs.declared.state.Sending.{Sending}
use Rattle.engine.specs.declared.state.Receiving.{Receiving}
use Rattle.engine.specs.declared.state.State.{State}
use Rattle.engine.specs.declared.state.InFlight.{InFlight}

-- ---- a packet

abbrev pub new_flight : (time slot link : ℕ) (resent : Bool) → InFlight
new_flight t s l again = record { sent = t; flushed = None; slot = s; link = l; resent = again }

-- a flush time that is there stays
abbrev pub flush_time : Option ℕ → ℕ → Option ℕ
flush_time None time = Some time
flush_time (Some at) time = Some at

abbrev pub with_flushed : InFlight → Option ℕ → InFlight
with_flushed flight f = record { sent = flight.sent; flushed = f; slot = flight.slot; link = flight.link; resent = flight.resent }

abbrev pub flushed_flight : InFlight → ℕ → InFlight
flushed_flight flight time = with_flushed flight (flush_time flight.flushed time)

abbrev pub new_packet : Seq → ReliableMsg → ℕ → SentReliableStatus → SentReliable
new_packet seq msg len status = record { seq = seq; msg = msg; len = len; status = status }

abbrev pub with_status : SentReliable → SentReliableStatus → SentReliable
with_status p status = new_packet p.seq p.msg p.len status

-- ---- the sending half

-- the next number, the packets and how many they are
abbrev pub with_next : Sending → Seq → List SentReliable → ℕ → Sending
with_next tx next ps n = record {
  tx_seq = next;
  txed_packets = ps;
  txed_count = n;
  resend_queue = tx.resend_queue;
  resend_count = tx.resend_count;
  txed_unacked = tx.txed_unacked;
  txed_unconsumed = tx.txed_unconsumed;
  txed_unconsumable = tx.txed_unconsumable;
  txed_last_consumed = tx.txed_last_consumed;
  send_finish_sent = tx.send_finish_sent;
  write_closed = tx.write_closed;
}

abbrev pub with_packets : Sending → List SentReliable → Sending
with_packets tx ps = with_next tx tx.tx_seq ps tx.txed_count

-- the resend queue
abbrev pub with_queue : Sending → List Seq → ℕ → Sending
with_queue tx queue n = record {
  tx_seq = tx.tx_seq;
  txed_packets = tx.txed_packets;
  txed_count = tx.txed_count;
  resend_queue = queue;
  resend_count = n;
  txed_unacked = tx.txed_unacked;
  txed_unconsumed = tx.txed_unconsumed;
  txed_unconsumable = tx.txed_unconsumable;
  txed_last_consumed = tx.txed_last_consumed;
  send_finish_sent = tx.send_finish_sent;
  write_closed = tx.write_closed;
}

-- the three totals
abbrev pub with_totals : Sending → (unacked unconsumed unconsumable : ℕ) → Sending
with_totals tx a b c = record {
  tx_seq = tx.tx_seq;
  txed_packets = tx.txed_packets;
  txed_count = tx.txed_count;
  resend_queue = tx.resend_queue;
  resend_count = tx.resend_count;
  txed_unacked = a;
  txed_unconsumed = b;
  txed_unconsumable = c;
  txed_last_consumed = tx.txed_last_consumed;
  send_finish_sent = tx.send_finish_sent;
  write_closed = tx.write_closed;
}

-- the last consumed number, and whether sending has ended and the other end's reader has closed
abbrev pub with_ends : Sending → Seq → (finished closed : Bool) → Sending
with_ends tx last f c = record {
  tx_seq = tx.tx_seq;
  txed_packets = tx.txed_packets;
  txed_count = tx.txed_count;
  resend_queue = tx.resend_queue;
  resend_count = tx.resend_count;
  txed_unacked = tx.txed_unacked;
  txed_unconsumed = tx.txed_unconsumed;
  txed_unconsumable = tx.txed_unconsumable;
  txed_last_consumed = last;
  send_finish_sent = f;
  write_closed = c;
}

-- ---- the receiving half

-- the next expected and the oldest number
abbrev pub with_numbers : Receiving → Seq → Seq → Receiving
with_numbers rx expected oldest = record {
  rx_seq = expected;
  rx_oldest = oldest;
  rxed_reliable_size = rx.rxed_reliable_size;
  rxed_reliable_consumed = rx.rxed_reliable_consumed;
  recv_buffer = rx.recv_buffer;
  cells = rx.cells;
  rx_end = rx.rx_end;
}

-- the untaken bytes, and those taken and untold
abbrev pub with_bytes : Receiving → (untaken untold : ℕ) → Receiving
with_bytes rx a b = record {
  rx_seq = rx.rx_seq;
  rx_oldest = rx.rx_oldest;
  rxed_reliable_size = a;
  rxed_reliable_consumed = b;
  recv_buffer = rx.recv_buffer;
  cells = rx.cells;
  rx_end = rx.rx_end;
}

-- the end of the cells in use
abbrev pub with_end : Receiving → Seq → Receiving
with_end rx end = record {
  rx_seq = rx.rx_seq;
  rx_oldest = rx.rx_oldest;
  rxed_reliable_size = rx.rxed_reliable_size;
  rxed_reliable_consumed = rx.rxed_reliable_consumed;
  recv_buffer = rx.recv_buffer;
  cells = rx.cells;
  rx_end = end;
}

-- ---- the state

-- all of its parts but for the reader, which no call changes together with these
abbrev pub with_parts : State → List LinkRow → Sending → Receiving → ℕ → State
with_parts s links tx rx time = record { links = links; tx = tx; rx = rx; time = time; read_open = s.read_open }

abbrev pub with_row : State → ℕ → LinkRow → State
with_row s slot row = with_parts s (slice_set s.links slot row) s.tx s.rx s.time

abbrev pub with_tx : State → Sending → State
with_tx s tx = with_parts s s.links tx s.rx s.time

abbrev pub with_rx : State → Receiving → State
with_rx s rx = with_parts s s.links s.tx rx s.time

abbrev pub with_time : State → ℕ → State
with_time s time = with_parts s s.links s.tx s.rx time

-- whether the reader is open
abbrev pub with_reader : State → Bool → State
with_reader s reads = record { links = s.links; tx = s.tx; rx = s.rx; time = s.time; read_open = reads }
