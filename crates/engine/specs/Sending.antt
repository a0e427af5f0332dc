-- Document 01, "Send. Takes the next number, copies data to its own cell and no other byte, records Sent with time, slot and
-- identity; `txed_unacked`, `txed_unconsumed` and the link's unacked bytes grow by the data length. The answer is the number. A
-- Consumed reduces the taken-and-untold count by its amount (P)." Assumes nothing.
use Rattle.std.specs.Prelude.{◌≡◌, ℕ, ◌+◌, ◌-◌, ◌%◌, ◌^◌, ◌<◌, ◌≤◌, Bool, true, false, not, ◌&&◌, ◌||◌, List, [], ◌∷◌, length, ◌==◌, nat_le, nat_lt, slice_set, Ok, Err, Result}
use Rattle.refusal.specs.declared.Refusal.{Refusal}
use Rattle.seq.specs.declared.Seq.{Seq}
use Rattle.std.proofs.Common.{eqb-true, leb-true, ltb-true}
use Rattle.seq.specs.Numbers.{seq_of, plus}
use Rattle.msg.specs.declared.reliable.ReliableMsg.{ReliableMsg}
use Rattle.msg.specs.Reliable.{is_kind, count_of, MSG_CONSUMED, MSG_SEND_FINISH}
use Rattle.refusal.specs.Answers.{Told, success, refused}
use Rattle.refusal.specs.Verdicts.{Verdict, gate, gate-pass}
use Rattle.refusal.specs.Tests.{split}
use Rattle.link.specs.Row.{with_unacked}
use Rattle.engine.specs.declared.state.SentReliableStatus.TheVariants.{Sent}
use Rattle.engine.specs.declared.state.Sending.{Sending}
use Rattle.engine.specs.declared.state.Receiving.{Receiving}
use Rattle.engine.specs.declared.state.State.{State}
use Rattle.engine.specs.Decide.{soundb}
use Rattle.engine.specs.Tally.{length_ok}
use Rattle.engine.specs.DecidedTables.{length-le}
use Rattle.engine.specs.Rows.{row_of, slot_ok, time_ok}
use Rattle.engine.specs.Gates.{AtTime, time-ok}
use Rattle.engine.specs.Stores.{cell_start, copied, store_by}
use Rattle.engine.specs.declared.sending.SendResult.{SendResult}
use Rattle.engine.specs.Sizes.{PACKETS, DATA_BYTES, SENT_BYTES}
use Rattle.engine.specs.Records.{is_ready_kind}
use Rattle.engine.specs.Fields.{new_packet, with_next, with_totals, with_ends, with_bytes, with_parts, new_flight}
use Rattle.engine.specs.Totals.{fits, MAX_TOTAL, total-fits}

-- 8: "Data or SendFinish given after own SendFinish or a received ReceiveFinish"
abbrev pub open_ok : Bool → ReliableMsg → Bool
open_ok finished msg = not finished || not (is_ready_kind msg)

-- 9: ".. or a Consumed given with 0 or more than the bytes taken and untold" (any other tells of 0 bytes)
abbrev pub told_ok : ReliableMsg → ℕ → Bool
told_ok msg untold = (not (is_kind MSG_CONSUMED msg) || nat_le 1 (count_of msg)) && nat_le (count_of msg) untold

-- 9: "a total would pass 2^32 − 1; or .."
unfoldable pub totals_ok : State → ℕ → ReliableMsg → ℕ → Bool
totals_ok s slot msg len =
    fits s.tx.txed_unacked len MAX_TOTAL
    && (fits s.tx.txed_unconsumed len MAX_TOTAL
    && (fits (row_of s slot).txed_unacked_data len MAX_TOTAL
    && told_ok msg s.rx.rxed_reliable_consumed))

-- the refusals of send, in the order of their numbers, but that 2 "is checked before 1" ([8]); `store` is the lent store's length
unfoldable pub send_verdict : State → ℕ → ℕ → ℕ → ReliableMsg → ℕ → Verdict
unfolding totals_ok
send_verdict s store slot time msg len =
    gate (store == SENT_BYTES) 2
    (gate (soundb s) 1
    (gate (time_ok s time) 3
    (gate (slot_ok s slot) 4
    (gate (length_ok msg len) 7
    (gate (open_ok s.tx.send_finish_sent msg) 8
    (gate (totals_ok s slot msg len) 9
    (gate (nat_lt s.tx.txed_count PACKETS) 10
    (Ok tt))))))))

-- "Takes the next number, .. records Sent with time, slot and identity; `txed_unacked`, `txed_unconsumed` .. grow by the data length"
unfoldable pub sent_tx : Sending → ℕ → ℕ → ℕ → ReliableMsg → ℕ → Sending
sent_tx tx slot link time msg len =
    with_ends
    (with_totals
    (with_next tx (seq_of (plus tx.tx_seq.0 1))
    (slice_set tx.txed_packets (tx.tx_seq.0 % PACKETS) (new_packet tx.tx_seq msg len (Sent (new_flight time slot link false))))
    (tx.txed_count + 1))
    (tx.txed_unacked + len) (tx.txed_unconsumed + len) tx.txed_unconsumable)
    tx.txed_last_consumed (tx.send_finish_sent || is_kind MSG_SEND_FINISH msg) tx.write_closed

-- "A Consumed reduces the taken-and-untold count by its amount (P)."
unfoldable pub told_rx : Receiving → ReliableMsg → Receiving
told_rx rx msg = with_bytes rx rx.rxed_reliable_size (rx.rxed_reliable_consumed - count_of msg)

-- ".. and the link's unacked bytes grow by the data length"
unfoldable pub sent_state : State → ℕ → ℕ → ReliableMsg → ℕ → State
unfolding sent_tx told_rx
sent_state s slot time msg len =
    with_parts s
    (slice_set s.links slot (with_unacked (row_of s slot) ((row_of s slot).txed_unacked_data + len)))
    (sent_tx s.tx slot (row_of s slot).link_id time msg len)
    (told_rx s.rx msg)
    time

-- "The answer is the number."
abbrev pub send_told : Result Seq Refusal → Told
send_told (Ok seq) = success (seq.0 ∷ [])
send_told (Err e) = refused e

abbrev pub sent_by : Verdict → State → State → SendResult
sent_by (Ok tt) s next = record { answer = Ok s.tx.tx_seq; state = next }
sent_by (Err e) s next = record { answer = Err e; state = s }

unfoldable pub send_of : State → ℕ → ℕ → ℕ → ReliableMsg → ℕ → SendResult
unfolding send_verdict sent_state
send_of s store slot time msg len = sent_by (send_verdict s store slot time msg len) s (sent_state s slot time msg len)

-- "copies data to its own cell and no other byte"
unfoldable pub send_store : State → List ℕ → ℕ → ℕ → ReliableMsg → List ℕ → List ℕ
unfolding send_verdict
send_store s store slot time msg bytes =
    store_by (send_verdict s (length store) slot time msg (length bytes)) store (copied store (cell_start PACKETS s.tx.tx_seq.0) bytes)

-- ---- laws

-- what an accepted message says of its state

pub record Room (s : State) (slot : ℕ) (msg : ReliableMsg) (len : ℕ) : Type 0 where
  pub places : s.tx.txed_count < PACKETS
  pub unacked-fits : s.tx.txed_unacked + len < 2 ^ 32
  pub unconsumed-fits : s.tx.txed_unconsumed + len < 2 ^ 32
  pub link_fits : (row_of s slot).txed_unacked_data + len < 2 ^ 32
  pub told : count_of msg ≤ s.rx.rxed_reliable_consumed

-- an accepted message has room everywhere, and its store and length are within their sizes
pub record SendPassed (s : State) (store slot time : ℕ) (msg : ReliableMsg) (len : ℕ) : Type 0 where
  pub timed : AtTime s slot time
  pub fits : length_ok msg len ≡ true
  pub room : Room s slot msg len
  pub stored : store ≡ SENT_BYTES
  pub short : len ≤ DATA_BYTES

pub send-passed : (s : State) (store slot time : ℕ) (msg : ReliableMsg) (len : ℕ) → send_verdict s store slot time msg len ≡ Ok tt → SendPassed s store slot time msg len
unfolding send_verdict totals_ok
send-passed s store slot time msg len e =
    let e2 = gate-pass (store == SENT_BYTES) _ _ e in
    let e1 = gate-pass (soundb s) _ _ e2.1 in
    let e3 = gate-pass (time_ok s time) _ _ e1.1 in
    let e4 = gate-pass (slot_ok s slot) _ _ e3.1 in
    let e7 = gate-pass (length_ok msg len) _ _ e4.1 in
    let e8 = gate-pass (open_ok s.tx.send_finish_sent msg) _ _ e7.1 in
    let e9 = gate-pass (totals_ok s slot msg len) _ _ e8.1 in
    let e10 = gate-pass (nat_lt s.tx.txed_count PACKETS) _ _ e9.1 in
    let t1 = split (fits s.tx.txed_unacked len MAX_TOTAL) _ e9.0 in
    let t2 = split (fits s.tx.txed_unconsumed len MAX_TOTAL) _ t1.1 in
    let t3 = split (fits (row_of s slot).txed_unacked_data len MAX_TOTAL) (told_ok msg s.rx.rxed_reliable_consumed) t2.1 in
    record {
      timed = time-ok s slot time e1.0 e3.0 e4.0;
      fits = e7.0;
      room = record {
        places = ltb-true s.tx.txed_count PACKETS e10.0;
        unacked-fits = total-fits s.tx.txed_unacked len t1.0;
        unconsumed-fits = total-fits s.tx.txed_unconsumed len t2.0;
        link_fits = total-fits (row_of s slot).txed_unacked_data len t3.0;
        told = leb-true (count_of msg) s.rx.rxed_reliable_consumed (split (not (is_kind MSG_CONSUMED msg) || nat_le 1 (count_of msg)) (nat_le (count_of msg) s.rx.rxed_reliable_consumed) t3.1).1;
      };
      stored = eqb-true store SENT_BYTES e2.0;
      short = length-le msg len e7.0;
    }
