-- Document 01: "A fresh state takes a starting number, the same for sending and receiving; `txed_last_consumed` is that less one
-- (P), all else empty, zero or false." Request [4]: "the fact that the reader is open, true at the start".
-- Request [8]: "The fresh state's call is lent it too and, when accepted, leaves every record empty, whatever it held; there 2 goes by the cell count
-- asked for, and 21 is checked first"; "the receive buffer setting may reach cells times 1,024, and 21 follows, also for any other cell count". Assumes
-- nothing.
use Rattle.std.specs.Prelude.{◌≡◌, ℕ, ◌*◌, true, false, ◌&&◌, List, length, replicate, ◌==◌, nat_le, Ok, Err}
use Rattle.std.proofs.Common.{arith}
use borrow.Table.Steps.{cases}
use Rattle.seq.specs.Numbers.{seq_of, minus}
use Rattle.link.specs.Row.{empty_row}
use Rattle.refusal.specs.declared.Refusal.{Refusal}
use Rattle.refusal.specs.Verdicts.{Verdict, gate}
use Rattle.engine.specs.declared.state.Sending.{Sending}
use Rattle.engine.specs.declared.state.Receiving.{Receiving}
use Rattle.engine.specs.declared.state.State.{State}
use Rattle.engine.specs.declared.answer.Changed.{Changed}
use Rattle.engine.specs.Decide.{soundb, sound}
use Rattle.engine.specs.Packets.{no_packet}
use Rattle.engine.specs.CellCount.{is_cell_count}
use Rattle.engine.specs.Stores.{store_by}
use Rattle.engine.specs.Answer.{changed_by}
use Rattle.engine.specs.Sizes.{SLOTS, PACKETS, DATA_BYTES}

unfoldable pub fresh_tx : ℕ → Sending
fresh_tx start = record {
  tx_seq = seq_of start;
  txed_packets = replicate PACKETS no_packet;
  txed_count = 0;
  resend_queue = replicate PACKETS (seq_of 0);
  resend_count = 0;
  txed_unacked = 0;
  txed_unconsumed = 0;
  txed_unconsumable = 0;
  txed_last_consumed = seq_of (minus start 1);
  send_finish_sent = false;
  write_closed = false;
}

unfoldable pub fresh_rx : (start buffer cells : ℕ) → Receiving
fresh_rx start buffer n = record {
  rx_seq = seq_of start;
  rx_oldest = seq_of start;
  rxed_reliable_size = 0;
  rxed_reliable_consumed = 0;
  recv_buffer = buffer;
  cells = n;
  rx_end = seq_of start;
}

unfoldable pub fresh_state : (start buffer cells : ℕ) → State
unfolding fresh_tx fresh_rx
fresh_state start buffer n = record { links = replicate SLOTS empty_row; tx = fresh_tx start; rx = fresh_rx start buffer n; time = 0; read_open = true }

unfoldable pub fresh_verdict : (buffer cells records : ℕ) → Verdict
fresh_verdict buffer n records =
    gate (is_cell_count n && (nat_le 1 buffer && nat_le buffer (n * DATA_BYTES))) 21
    (gate (records == n) 2
    (Ok tt))

-- the state that comes with a refusal has no cells and no buffer
unfoldable pub fresh_of : (start buffer cells records : ℕ) → Changed
unfolding fresh_verdict fresh_state
fresh_of start buffer n records = changed_by (fresh_verdict buffer n records) (fresh_state start 0 0) (fresh_state start buffer n)

-- "leaves every record empty, whatever it held"
unfoldable pub fresh_records : (buffer cells : ℕ) → List ℕ → List ℕ
unfolding fresh_verdict
fresh_records buffer n records = store_by (fresh_verdict buffer n (length records)) records (replicate (length records) 0)

-- "Each returns its number alone": where a fresh state is refused, what comes with the refusal is not sound
abbrev pub RefusedUnsound : Changed → Type 0
RefusedUnsound r = (e : Refusal) → r.outcome ≡ Err e → soundb r.state ≡ false

-- ---- laws

-- no buffer is not sound
pub refused-unsound : (start : ℕ) → soundb (fresh_state start 0 0) ≡ false
unfolding fresh_state fresh_rx
refused-unsound start =
    cases (soundb (fresh_state start 0 0)) (λ t. let h = sound (fresh_state start 0 0) t in absurd (omega (arith, h.buffer-set))) (λ t. t)

pub fresh-refused : (start buffer n records : ℕ) → RefusedUnsound (fresh_of start buffer n records)
unfolding fresh_of
fresh-refused start buffer n records e h = by-verdict (fresh_verdict buffer n records) h
  where
    by-verdict : (v : Verdict) → (changed_by v (fresh_state start 0 0) (fresh_state start buffer n)).outcome ≡ Err e
        → soundb (changed_by v (fresh_state start 0 0) (fresh_state start buffer n)).state ≡ false
    by-verdict (Ok tt) h = let z : ◌≡◌ {A = ℕ} 0 1 = cc in absurd (omega arith)
    by-verdict (Err f) h = refused-unsound start
