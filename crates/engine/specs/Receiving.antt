-- Document 01, "Receive. A number before the next expected, or already held, adds an ack and changes nothing else, even if its
-- bytes differ. A new one adds an ack, is stored (data copied as in Send), and has its effect at once: Data adds to the untaken
-- bytes, Consumed reduces `txed_unconsumed`, ReceiveClose raises a flag, ReceiveFinish ends sending." Assumes nothing.
use Rattle.std.specs.Prelude.{◌≡◌, ℕ, ◌+◌, ◌-◌, ◌*◌, ◌^◌, ◌<◌, ◌≤◌, Bool, true, false, cond, ◌&&◌, ◌||◌, List, length, ◌==◌, nat_le, nat_lt, slice_set, Ok}
use Rattle.std.proofs.Common.{sym, ap, ap₂, ◌∙◌, arith, eqb-true, leb-true, ltb-true, ltb-false}
use Rattle.seq.specs.Numbers.{seq_of, plus, USABLE_INTERVAL}
use Rattle.seq.specs.Laws.{plus-difference}
use Rattle.seq.specs.Distance.{near, past, past_near, past-counted}
use Rattle.msg.specs.declared.reliable.ReliableMsg.{ReliableMsg}
use Rattle.msg.specs.Reliable.{is_kind, count_of, MSG_RECEIVE_CLOSE, MSG_RECEIVE_FINISH}
use Rattle.refusal.specs.Verdicts.{Verdict, gate, gate-pass}
use Rattle.refusal.specs.Tests.{split}
use Rattle.link.specs.Acks.{ack_queued}
use Rattle.link.specs.Sizes.{ACKS}
use Rattle.engine.specs.declared.state.Sending.{Sending}
use Rattle.engine.specs.declared.state.Receiving.{Receiving}
use Rattle.engine.specs.declared.state.State.{State}
use Rattle.engine.specs.declared.answer.Changed.{Changed}
use Rattle.engine.specs.Decide.{soundb, sound, recordsb, records-sound, sound_withb}
use Rattle.engine.specs.Sound.{SoundRecords, Shaped}
use Rattle.engine.specs.CellCount.{cell-count}
use Rattle.engine.specs.CellTally.{Lent}
use Rattle.engine.specs.Received.{RxTable, table_of, in_use, is_used}
use Rattle.engine.specs.Tally.{length_ok}
use Rattle.engine.specs.DecidedTables.{length-le}
use Rattle.engine.specs.Rows.{row_of, slot_ok}
use Rattle.engine.specs.Gates.{AtSlot, slot-ok}
use Rattle.engine.specs.Answer.{changed_by}
use Rattle.engine.specs.Stores.{cell_start, copied, store_by}
use Rattle.engine.specs.Cells.{near_oldest, is_repeat, stored_in}
use Rattle.engine.specs.Sizes.{DATA_BYTES}
use Rattle.engine.specs.Fields.{with_totals, with_ends, with_parts, with_row}
use Rattle.engine.specs.Totals.{fits}

-- not "a received Consumed with a new number exceeds the unconsumed total" (15); any other tells of 0 bytes
abbrev pub consumed_ok : ReliableMsg → ℕ → Bool
consumed_ok msg unconsumed = nat_le (count_of msg) unconsumed

-- 11, 12, 14 and 15 are for new numbers. 02 [5]: "22 Far, for receive and ack, checked after 7 and before 11; this amends the smallest-number rule",
-- and "Receive judges against the next expected number"
unfoldable pub message_verdict : State → List ℕ → ℕ → ReliableMsg → ℕ → ℕ → Verdict
message_verdict s records slot msg n len =
    let again = is_repeat s.rx.cells (table_of s.rx records) n in
    gate (slot_ok s slot) 4
    (gate (length_ok msg len) 7
    (gate (near n s.rx.rx_seq.0) 22
    (gate (again || nat_le (past n s.rx.rx_seq.0) USABLE_INTERVAL) 11
    (gate (again || near_oldest s.rx.cells s.rx n) 12
    (gate (nat_lt (row_of s slot).ack_count ACKS) 13
    (gate (again || fits s.rx.rxed_reliable_size len s.rx.recv_buffer) 14
    (gate (again || consumed_ok msg s.tx.txed_unconsumed) 15
    (Ok tt))))))))

-- not "a store or record space of the wrong length for the state's cell count" (2), where both are lent
abbrev pub lengths_ok : Receiving → (store records : ℕ) → Bool
lengths_ok rx store records = store == rx.cells * DATA_BYTES && records == rx.cells

-- the refusals of receive, in the order of their numbers, but that 2 "is checked before 1" ([8])
unfoldable pub receive_verdict : State → ℕ → List ℕ → ℕ → ReliableMsg → ℕ → ℕ → Verdict
unfolding message_verdict
receive_verdict s store records slot msg n len =
    gate (lengths_ok s.rx store (length records)) 2
    (gate (sound_withb s records) 1
    (message_verdict s records slot msg n len))

-- "Consumed reduces `txed_unconsumed`, ReceiveClose raises a flag, ReceiveFinish ends sending"
unfoldable pub effect_tx : Sending → ReliableMsg → Sending
effect_tx tx msg =
    with_ends (with_totals tx tx.txed_unacked (tx.txed_unconsumed - count_of msg) tx.txed_unconsumable)
    tx.txed_last_consumed (tx.send_finish_sent || is_kind MSG_RECEIVE_FINISH msg) (tx.write_closed || is_kind MSG_RECEIVE_CLOSE msg)

-- "adds an ack and changes nothing else"
unfoldable pub repeated_state : State → ℕ → ℕ → State
repeated_state s slot n = with_row s slot (ack_queued (row_of s slot) (seq_of n))

-- the ack, the effect, and a receiving half
unfoldable pub effect_state : State → ℕ → ReliableMsg → ℕ → Receiving → State
unfolding effect_tx
effect_state s slot msg n rx = with_parts s (slice_set s.links slot (ack_queued (row_of s slot) (seq_of n))) (effect_tx s.tx msg) rx s.time

-- the table once a new message "is stored .. Then consecutive messages advance the next expected number"
abbrev pub stored_table : State → List ℕ → ReliableMsg → ℕ → ℕ → RxTable
stored_table s records msg n len = stored_in s.rx.cells (table_of s.rx records) msg n len

unfoldable pub received_state : State → List ℕ → ℕ → ReliableMsg → ℕ → ℕ → State
unfolding effect_state
received_state s records slot msg n len = effect_state s slot msg n (stored_table s records msg n len).rx

unfoldable pub receive_of : State → ℕ → List ℕ → ℕ → ReliableMsg → ℕ → ℕ → Changed
unfolding receive_verdict repeated_state received_state
receive_of s store records slot msg n len =
    changed_by (receive_verdict s store records slot msg n len) s
    (cond (is_repeat s.rx.cells (table_of s.rx records) n) (repeated_state s slot n) (received_state s records slot msg n len))

-- "is stored (data copied as in Send)"; a repeat changes no byte
unfoldable pub receive_store : State → List ℕ → List ℕ → ℕ → ReliableMsg → ℕ → List ℕ → List ℕ
unfolding receive_verdict
receive_store s store records slot msg n bytes =
    store_by (receive_verdict s (length store) records slot msg n (length bytes)) store
    (cond (is_repeat s.rx.cells (table_of s.rx records) n) store (copied store (cell_start s.rx.cells n) bytes))

-- .. and no record
unfoldable pub receive_records : State → ℕ → List ℕ → ℕ → ReliableMsg → ℕ → ℕ → List ℕ
unfolding receive_verdict
receive_records s store records slot msg n len =
    store_by (receive_verdict s store records slot msg n len) records
    (cond (is_repeat s.rx.cells (table_of s.rx records) n) records (stored_table s records msg n len).records)

-- ---- laws

-- what an accepted new number says
pub record NewNumber (s : State) (msg : ReliableMsg) (n len : ℕ) : Type 0 where
  pub near : near_oldest s.rx.cells s.rx n ≡ true
  pub within : s.rx.rxed_reliable_size + len ≤ s.rx.recv_buffer
  pub told : count_of msg ≤ s.tx.txed_unconsumed

-- .. and any that is accepted, a repeat too
pub record ReceivePassed (s : State) (store : ℕ) (records : List ℕ) (slot : ℕ) (msg : ReliableMsg) (n len : ℕ) : Type 0 where
  pub at : AtSlot s slot
  pub recorded : SoundRecords (table_of s.rx records)
  pub stored : store ≡ s.rx.cells * DATA_BYTES
  pub fits : length_ok msg len ≡ true
  pub short : len ≤ DATA_BYTES
  pub close : near n s.rx.rx_seq.0 ≡ true
  pub room : (row_of s slot).ack_count < ACKS
  pub new : is_repeat s.rx.cells (table_of s.rx records) n ≡ false → NewNumber s msg n len

new-test : (again b : Bool) → again ≡ false → (again || b) ≡ true → b ≡ true
new-test again b n e = simp n at e

pub receive-passed : (s : State) (store : ℕ) (records : List ℕ) (slot : ℕ) (msg : ReliableMsg) (n len : ℕ) → receive_verdict s store records slot msg n len ≡ Ok tt
    → ReceivePassed s store records slot msg n len
unfolding receive_verdict message_verdict sound_withb
receive-passed s store records slot msg n len e =
    let again = is_repeat s.rx.cells (table_of s.rx records) n in
    let e2 = gate-pass (lengths_ok s.rx store (length records)) _ _ e in
    let e1 = gate-pass (sound_withb s records) _ _ e2.1 in
    let e4 = gate-pass (slot_ok s slot) _ _ e1.1 in
    let e7 = gate-pass (length_ok msg len) _ _ e4.1 in
    let e22 = gate-pass (near n s.rx.rx_seq.0) _ _ e7.1 in
    let e11 = gate-pass (again || nat_le (past n s.rx.rx_seq.0) USABLE_INTERVAL) _ _ e22.1 in
    let e12 = gate-pass (again || near_oldest s.rx.cells s.rx n) _ _ e11.1 in
    let e13 = gate-pass (nat_lt (row_of s slot).ack_count ACKS) _ _ e12.1 in
    let e14 = gate-pass (again || fits s.rx.rxed_reliable_size len s.rx.recv_buffer) _ _ e13.1 in
    let e15 = gate-pass (again || consumed_ok msg s.tx.txed_unconsumed) _ _ e14.1 in
    let both = split (soundb s) (recordsb (table_of s.rx records)) e1.0 in
    record {
      at = slot-ok s slot both.0 e4.0;
      recorded = records-sound (table_of s.rx records) both.1;
      stored = eqb-true store (s.rx.cells * DATA_BYTES) (split (store == s.rx.cells * DATA_BYTES) (length records == s.rx.cells) e2.0).0;
      fits = e7.0;
      short = length-le msg len e7.0;
      close = e22.0;
      room = ltb-true (row_of s slot).ack_count ACKS e13.0;
      new = λ is. record {
        near = new-test again (near_oldest s.rx.cells s.rx n) is e12.0;
        within = leb-true _ _ (new-test again (fits s.rx.rxed_reliable_size len s.rx.recv_buffer) is e14.0);
        told = leb-true (count_of msg) s.tx.txed_unconsumed (new-test again (consumed_ok msg s.tx.txed_unconsumed) is e15.0);
      };
    }

-- what storing a message asks: the records are lent, the sum and the length fit, and no more cells come into use than there are
pub record Storing (rx : Receiving) (records n len : ℕ) : Type 0 where
  pub lent : Lent rx records
  pub sum : rx.rxed_reliable_size + len < 2 ^ 32
  pub short : len ≤ DATA_BYTES
  pub gap : is_used rx n ≡ false → past n rx.rx_end.0 ≤ rx.cells

-- a sound state's cells are some, and its records as many
pub sound-lent : (s : State) (records : List ℕ) → sound_withb s records ≡ true → Lent s.rx (length records)
unfolding sound_withb
sound-lent s records e =
    let both = split (soundb s) (recordsb (table_of s.rx records)) e in
    record { some = (cell-count s.rx.cells (sound s both.0).cell-count).some; all = (records-sound (table_of s.rx records) both.1).long }

-- how far a number is past another that is past a third
past-between : (n e o : ℕ) → n < 2 ^ 32 → e < 2 ^ 32 → o < 2 ^ 32 → past n o < 2 ^ 30 → past e o ≤ past n o → past n e ≡ past n o - past e o
past-between n e o hn he ho close l =
    let n-is : plus o (past n o) ≡ n = ap (plus o) (past_near n o close) ∙ plus-difference n o hn ho in
    let e-is : plus o (past e o) ≡ e = ap (plus o) (past_near e o (omega arith)) ∙ plus-difference e o he ho in
    ap₂ past (sym n-is) (sym e-is) ∙ past-counted o (past n o) (past e o) l (omega arith)

pub storing : (s : State) (store : ℕ) (records : List ℕ) (slot : ℕ) (msg : ReliableMsg) (n len : ℕ) → Shaped s → n < 2 ^ 32 → ReceivePassed s store records slot msg n len
    → is_repeat s.rx.cells (table_of s.rx records) n ≡ false → Storing s.rx (length records) n len
unfolding near_oldest is_used
storing s store records slot msg n len shape number p new =
    let fine = p.at.fine in
    let count = cell-count s.rx.cells fine.cell-count in
    let is = p.new new in
    let here : past n s.rx.rx_oldest.0 < s.rx.cells = ltb-true _ _ is.near in
    record {
      lent = record { some = count.some; all = p.recorded.long };
      sum = omega (arith, is.within, fine.buffer-within, count.few);
      short = p.short;
      gap = λ out.
          let l : in_use s.rx ≤ past n s.rx.rx_oldest.0 = ltb-false _ _ out in
          let e = past-between n s.rx.rx_end.0 s.rx.rx_oldest.0 number shape.end-u32 shape.oldest-u32 (omega (arith, count.few)) l in
          omega (arith, e);
    }
