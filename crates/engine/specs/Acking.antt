-- Document 01, "Ack of number a": what it does to the acked packet and its link, then the sweep, then the whole call. Assumes nothing.
use Rattle.std.specs.Prelude.{◌≡◌, ℕ, suc, ◌+◌, ◌-◌, ◌%◌, ◌^◌, ◌<◌, ◌≤◌, true, false, cond, List, [], ◌∷◌, length, ◌==◌, slice_index_or, slice_set, refl, Ok}
use Rattle.link.specs.declared.row.LinkRow.{LinkRow}
use Rattle.link.specs.Row.{with_unacked}
use Rattle.link.specs.Roundtrip.{trip_moved}
use Rattle.engine.specs.declared.state.SentReliableStatus.{SentReliableStatus}
use Rattle.engine.specs.declared.state.SentReliableStatus.TheVariants.{Sent, Received, ResendQueued}
use Rattle.engine.specs.declared.state.SentReliable.{SentReliable}
use Rattle.engine.specs.declared.state.Sending.{Sending}
use Rattle.engine.specs.Queue.{requeued}
use Rattle.engine.specs.Table.{in_table, looked_at}
use Rattle.std.proofs.Math.Path.{ap}
use Rattle.std.proofs.Common.{◌∙◌}
use native.Mathlib.Omega.{arith}
use borrow.Table.Steps.{cases}
use Rattle.seq.specs.declared.Seq.{Seq}
use Rattle.seq.specs.Distance.{near}
use Rattle.engine.specs.Ring.{window, window-step, window-none, window-length, next_cell}
use Rattle.engine.specs.Packets.{no_packet, packets, is_received, Settled}
use Rattle.engine.specs.declared.acking.Front.{Front}
use Rattle.refusal.specs.Verdicts.{Verdict, gate, gate-pass}
use Rattle.link.specs.Limit.{mark_acked}
use Rattle.engine.specs.declared.state.State.{State}
use Rattle.engine.specs.declared.answer.Changed.{Changed}
use Rattle.engine.specs.Rows.{row_of}
use Rattle.engine.specs.Gates.{timed_verdict, AtTime, timed-passed}
use Rattle.engine.specs.Answer.{changed_by}
use Rattle.engine.specs.Sound.{Sound, Shaped}
use Rattle.engine.specs.InTable.{packet-short, sum-small}
use Rattle.engine.specs.Sizes.{PACKETS}
use Rattle.engine.specs.Fields.{with_status, with_next, with_packets, with_totals, with_ends, with_parts}

-- ---- "the packet at count − back is looked at: Sent on this slot, it becomes Received, and its size leaves the link's unacked
-- bytes and `txed_unacked` and joins `txed_unconsumable`; ResendQueued, the same without the link, and it leaves the queue; Sent
-- elsewhere or Received, nothing. Only the first case moves the round trip"

-- what an ack over this slot makes of the status
unfoldable pub settled : ℕ → SentReliableStatus → SentReliableStatus
settled slot (Sent flight) = cond (flight.slot == slot) Received (Sent flight)
settled slot Received = Received
settled slot (ResendQueued link) = Received

-- the link's row: only a packet Sent on this slot leaves its unacked bytes and moves its round trip
unfoldable pub settled_row_as : SentReliableStatus → LinkRow → ℕ → ℕ → ℕ → LinkRow
settled_row_as (Sent flight) row len slot time = cond (flight.slot == slot) (trip_moved (with_unacked row (row.txed_unacked_data - len)) flight.sent time) row
settled_row_as Received row len slot time = row
settled_row_as (ResendQueued link) row len slot time = row

abbrev pub settled_row : LinkRow → SentReliable → ℕ → ℕ → LinkRow
settled_row row p slot time = settled_row_as p.status row p.len slot time

-- "it becomes Received, and its size leaves .. `txed_unacked` and joins `txed_unconsumable`"
unfoldable pub received_tx : Sending → ℕ → SentReliable → Sending
received_tx tx n p =
    with_totals (with_packets tx (slice_set tx.txed_packets (n % PACKETS) (with_status p Received)))
    (tx.txed_unacked - p.len) tx.txed_unconsumed (tx.txed_unconsumable + p.len)

unfoldable pub settled_tx_as : SentReliableStatus → Sending → ℕ → ℕ → SentReliable → Sending
unfolding received_tx
settled_tx_as (Sent flight) tx slot n p = cond (flight.slot == slot) (received_tx tx n p) tx
settled_tx_as Received tx slot n p = tx
settled_tx_as (ResendQueued link) tx slot n p = requeued (received_tx tx n p)

abbrev pub settled_tx : Sending → ℕ → ℕ → SentReliable → Sending
settled_tx tx slot n p = settled_tx_as p.status tx slot n p

-- ---- "Last, while packets remain: `txed_last_consumed` becomes the first number; if Received it is dropped and its size leaves
-- `txed_unconsumable`, else stop."

unfoldable pub sweep_from : List SentReliable → Seq → ℕ → Front
sweep_from [] last held = record { left = 0; last = last; held = held }
sweep_from (p ∷ ps) last held =
    cond (is_received p.status) (sweep_from ps p.seq (held - p.len)) (record { left = suc (length ps); last = p.seq; held = held })

unfoldable pub sweep_of : Sending → Front
unfolding sweep_from
sweep_of tx = sweep_from (packets tx) tx.txed_last_consumed tx.txed_unconsumable

unfoldable pub swept_tx : Sending → Sending
unfolding sweep_of
swept_tx tx =
    let front = sweep_of tx in
    with_ends
    (with_totals (with_next tx tx.tx_seq tx.txed_packets front.left) tx.txed_unacked tx.txed_unconsumed front.held)
    front.last tx.send_finish_sent tx.write_closed

-- ---- the whole call

-- "First, a mark at or before a is cleared; any other mark makes the zero-estimate flag true. Let back = next number − a. If 1 ≤
-- back ≤ packet count, the packet at count − back is looked at"
unfoldable pub acked_row : State → ℕ → ℕ → ℕ → LinkRow
acked_row s slot time a =
    cond (in_table s.tx a) (settled_row (mark_acked (row_of s slot) a) (looked_at s.tx a) slot time) (mark_acked (row_of s slot) a)

unfoldable pub acked_tx : State → ℕ → ℕ → Sending
acked_tx s slot a = cond (in_table s.tx a) (settled_tx s.tx slot a (looked_at s.tx a)) s.tx

-- "Last, while packets remain .."
unfoldable pub acked_state : State → ℕ → ℕ → ℕ → State
unfolding acked_row acked_tx
acked_state s slot time a = with_parts s (slice_set s.links slot (acked_row s slot time a)) (swept_tx (acked_tx s slot a)) s.rx time

-- refused with 1, 3 and 4, as every call on a slot at a time, and 02 [5]: with 22, "ack against the next to send". The place that is looked at
-- holds no other number than a (02 [9])
unfoldable pub ack_verdict : State → ℕ → ℕ → ℕ → Verdict
ack_verdict s slot time a = timed_verdict s slot time (gate (near a s.tx.tx_seq.0) 22 (Ok tt))

unfoldable pub ack_of : State → ℕ → ℕ → ℕ → Changed
unfolding ack_verdict acked_state
ack_of s slot time a = changed_by (ack_verdict s slot time a) s (acked_state s slot time a)

-- ---- laws

-- what an accepted ack says
pub record AckPassed (s : State) (slot time a : ℕ) : Type 0 where
  pub timed : AtTime s slot time
  pub close : near a s.tx.tx_seq.0 ≡ true

pub ack-passed : (s : State) (slot time a : ℕ) → ack_verdict s slot time a ≡ Ok tt → AckPassed s slot time a
unfolding ack_verdict
ack-passed s slot time a e =
    let t = timed-passed s slot time _ e in
    let e22 = gate-pass (near a s.tx.tx_seq.0) _ _ t.1 in
    record { timed = t.0; close = e22.0 }

module _ (cells : List SentReliable) (at left : ℕ) (last : Seq) (held : ℕ) where
  pub sweep-on : 0 < left → is_received (slice_index_or cells at no_packet).status ≡ true
      → sweep_from (window PACKETS no_packet cells at left) last held
      ≡ sweep_from (window PACKETS no_packet cells (next_cell PACKETS at) (left - 1)) (slice_index_or cells at no_packet).seq (held - (slice_index_or cells at no_packet).len)
  unfolding sweep_from
  sweep-on h r = ap (λ ps. sweep_from ps last held) (window-step PACKETS no_packet cells at left h) ∙ simp r

  pub sweep-stop : 0 < left → is_received (slice_index_or cells at no_packet).status ≡ false
      → sweep_from (window PACKETS no_packet cells at left) last held ≡ record { left = left; last = (slice_index_or cells at no_packet).seq; held = held }
  unfolding sweep_from
  sweep-stop h r =
      let n : suc (length (window PACKETS no_packet cells (next_cell PACKETS at) (left - 1))) ≡ left =
      ap suc (window-length PACKETS no_packet cells (next_cell PACKETS at) (left - 1)) ∙ omega arith
      in
      ap (λ ps. sweep_from ps last held) (window-step PACKETS no_packet cells at left h) ∙ simp (r, n)

  pub sweep-end : left ≤ 0 → sweep_from (window PACKETS no_packet cells at left) last held ≡ record { left = left; last = last; held = held }
  unfolding sweep_from
  sweep-end h =
      let z : 0 ≡ left = omega arith in
      ap (λ ps. sweep_from ps last held) (window-none PACKETS no_packet cells at left h) ∙ simp z

-- what waits to be consumed stays small
pub ack-fits : (s : State) (a : ℕ) → Shaped s → Sound s → a < 2 ^ 32 → in_table s.tx a ≡ true → s.tx.txed_unconsumable + (looked_at s.tx a).len < 2 ^ 32
ack-fits s a shaped fine h held =
    omega (arith, packet-short s shaped fine a h held, sum-small s shaped fine Settled, fine.unconsumable)

-- how many packets there are moves in the sweep alone
settled-count : (st : SentReliableStatus) (tx : Sending) (slot a : ℕ) (p : SentReliable) → (settled_tx_as st tx slot a p).txed_count ≡ tx.txed_count
unfolding settled_tx_as received_tx requeued
settled-count (Sent flight) tx slot a p = cases (flight.slot == slot) (λ t. simp t) (λ t. simp t)
settled-count Received tx slot a p = refl
settled-count (ResendQueued link) tx slot a p = refl

pub acked-count : (s : State) (slot a : ℕ) → (acked_tx s slot a).txed_count ≡ s.tx.txed_count
unfolding acked_tx
acked-count s slot a =
    cases (in_table s.tx a)
    (λ t. simp t (settled-count (looked_at s.tx a).status s.tx slot a (looked_at s.tx a)))
    (λ t. simp t)
