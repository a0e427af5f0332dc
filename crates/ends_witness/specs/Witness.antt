-- The premises of demand 3 can be met, with any bytes in the stores: a run over the wrap with a loss, a reordering, a resend over another
-- link and a repeat, to a hand-out of all that was given and an empty table. Each step is computed from the engine's own
-- definitions. Assumes nothing.
use Rattle.engine.specs.CellCount.{is_cell_count}
use Rattle.engine.specs.Records.{held_as, held_of, is_record, kept_record}
use Rattle.engine.specs.Received.{table_of, held_at, is_used, cell_of, bytes_in}
use Rattle.engine.specs.Packets.{queued_of, sum_of}
use Rattle.std.specs.Prelude.{◌≡◌, cond, ℕ, ◌+◌, ◌<◌, replicate, None, Ok, Err}
use Rattle.engine.specs.Held.{HandOut}
use Rattle.std.proofs.Math.Path.{refl, sym}
use Rattle.std.proofs.Common.{◌∙◌, ap, subst, arith}
use Rattle.std.proofs.Math.Bool.{false}
use mathlib.Core.List.{List, [], ◌∷◌, map, Memᴰ}
use Rattle.std.proofs.Math.Decide.{ℕ_discrete}
use Rattle.std.proofs.Math.ListN.{length}
use Rattle.std.proofs.lemmas.List.{length-replicate}
use Rattle.msg.specs.declared.reliable.ReliableMsg.TheVariants as msgs
use Rattle.refusal.specs.Refusals.{refuse}
use Rattle.seq.specs.declared.Seq.{Seq}
use Rattle.engine.specs.declared.state.State.{State}
use Rattle.engine.specs.declared.state.SentReliableStatus.{SentReliableStatus}
use Rattle.engine.specs.declared.state.SentReliableStatus.TheVariants as statuses
use Rattle.engine.specs.Stores.{store_by, copied, cell_start}
use Rattle.seq.specs.Numbers.{seq_of, plus, minus, signed}
use Rattle.seq.specs.Distance.{distance_of, near, before, past}
use Rattle.link.specs.Acks.{ack_queued, waiting, oldest_ack, shifted, ack_taken}
use Rattle.link.specs.Limit.{marked_row, mark_acked_as, mark_resent_as}
use Rattle.link.specs.Roundtrip.{trip_after, trip_moved}
use Rattle.link.specs.Row.{fresh_row, empty_row, unconfirmed_row, with_unacked}
use Rattle.engine.specs.Decide.{soundb, sound?, records?, recordsb, sound_withb}
use Rattle.engine.specs.Starting.{fresh_tx, fresh_rx, fresh_state, fresh_verdict, fresh_of, fresh_records}
use Rattle.engine.specs.Gates.{slot_verdict, timed_verdict}
use Rattle.engine.specs.Queue.{requeued}
use Rattle.engine.specs.Ring.{window, next_cell, refilled}
use Rattle.engine.specs.Rows.{row_of, slot_ok, time_ok}
use Rattle.engine.specs.Table.{in_table, with_packet, place, looked_at, with_table, packet_of}
use Rattle.engine.specs.Tally.{length_ok}
use Rattle.engine.specs.Links.{lowest_empty, add_verdict, add_of, is_taken}
use Rattle.engine.specs.Unconfirming.{unconfirmed, unconfirmed_state, unconfirm_of}
use Rattle.engine.specs.Resending.{resend_verdict, resent_state, resend_of, is_listed}
use Rattle.engine.specs.Sending.{totals_ok, send_verdict, sent_tx, told_rx, sent_state, send_of, send_store}
use Rattle.engine.specs.Acking.{acked_row, acked_tx, acked_state, ack_verdict, ack_of, settled_row_as, received_tx, settled_tx_as, sweep_from, sweep_of, swept_tx}
use Rattle.engine.specs.Turns.{turns}
use Rattle.engine.specs.Cells.{near_oldest, is_repeat, can_advance, passed_over, end_after, opened_records, put_in}
use Rattle.engine.specs.Receiving.{message_verdict, receive_verdict, effect_tx, repeated_state, effect_state, received_state, receive_of, receive_store, receive_records}
use Rattle.engine.specs.HandingOut.{ack_answer, taken_ack_state, take_ack_of, ready_of, hand_out_by, show_verdict, showing_of, shown_of, part_as, take_verdict, can_skip, passed_by, taken_in, taken_state, take_of, take_records, take_ack_verdict}
use Rattle.engine.specs.Sizes.{PACKETS}
use Rattle.laws.specs.Calls as calls
use Rattle.ends.specs.World.{Msg, Packet, World, swap, holds, written, called, given_by, put_by, send_at, resend_at, accepted_by, receive_at, out_by, take_at, take_ack_at, fresh_world, fresh_end, BEHIND, TimelyAck, Call, Other, Send, Resend, Receive, Acked, Take, TakeAck, at_a, at_b, Run, here, ◌then◌, Fresh, fresh}
use Rattle.ends.specs.Demand.{Emptied, SentOver, status_of, Returned, now, earlier, Open, Stops}
use Rattle.ends.proofs.Theorem.{demand3}
use Rattle.ends.specs.Store.{cell_bytes, copied-here, copied-long}

-- ---- the calls that look at a store's length, with the length and the cell count written down

send_with : ℕ → World → ℕ → ℕ → Msg → World
send_with n W slot time m =
    let r = send_of W.a.state n slot time m.kind (length m.bytes) in
    let store = store_by (send_verdict W.a.state n slot time m.kind (length m.bytes)) W.a.sent (copied W.a.sent (cell_start PACKETS W.a.state.tx.tx_seq.0) m.bytes) in
    written W (record { state = r.state; sent = store; received = W.a.received; records = W.a.records }) (given_by r.answer W.a.given m) W.a.out W.a.accepted
    (put_by r.answer W.ab.msgs (length W.a.given) m) W.ab.acks

receive_with : (store cells : ℕ) → World → ℕ → Packet → World
receive_with n N W slot p =
    let s = W.a.state in
    let r = receive_of s n W.a.records slot p.msg.kind p.number (length p.msg.bytes) in
    let store = store_by (receive_verdict s n W.a.records slot p.msg.kind p.number (length p.msg.bytes)) W.a.received
    (cond (is_repeat s.rx.cells (table_of s.rx W.a.records) p.number) W.a.received (copied W.a.received (cell_start N p.number) p.msg.bytes)) in
    let records = receive_records s n W.a.records slot p.msg.kind p.number (length p.msg.bytes) in
    written W (record { state = r.state; sent = W.a.sent; received = store; records = records }) W.a.given W.a.out (accepted_by r.outcome W.a.accepted p) W.ab.msgs W.ab.acks

take_with : (store cells : ℕ) → World → World
take_with n N W =
    written W (calls.next calls.Take (holds W.a)) W.a.given
    (out_by (take_of W.a.state W.a.records).answer W.a.out (part_as N (showing_of W.a.state n W.a.records) W.a.received)) W.a.accepted
    W.ab.msgs W.ab.acks

send-step : (W : World) (slot time : ℕ) (m : Msg) → length W.a.sent ≡ 65536 → Call W (send_with 65536 W slot time m)
unfolding send_at send_store send_with
send-step W slot time m h = subst (λ (n : ℕ). Call W (send_with n W slot time m)) h (Send slot time m)

receive-step : (W : World) (slot : ℕ) (p : Packet) → length W.a.received ≡ 65536 → Memᴰ p W.ba.msgs → length W.b.given < p.index + BEHIND
    → W.a.state.rx.cells ≡ 64 → Call W (receive_with 65536 64 W slot p)
unfolding receive_at receive_store receive_with
receive-step W slot p h brought timely e = subst (λ (k : ℕ × ℕ). Call W (receive_with k.0 k.1 W slot p)) (λ d. (h d, e d)) (Receive slot p brought timely)

take_step : (W : World) → length W.a.received ≡ 65536 → W.a.state.rx.cells ≡ 64 → Call W (take_with 65536 64 W)
unfolding take_at shown_of take_with
take_step W h e = subst (λ (k : ℕ × ℕ). Call W (take_with k.0 k.1 W)) (λ d. (h d, e d)) Take

-- the numbers of the acks that wait for a slot, oldest first
abbrev pub waiting_of : State → ℕ → List ℕ
waiting_of s slot = map (λ (n : Seq). n.0) (waiting (row_of s slot))

-- a packet that is Sent isn't Received
sent-unreceived : (st : SentReliableStatus) (slot : ℕ) → SentOver st slot → st ≡ statuses.Received → ⊥
sent-unreceived (statuses.Sent flight) slot h e = let z : ◌≡◌ {A = ℕ} 0 1 = cc in omega arith
sent-unreceived statuses.Received slot h e = h
sent-unreceived (statuses.ResendQueued link) slot h e = h

-- the record spaces, of 64 cells each, before the fresh states: they hold what is no record
abbrev pub CELLS : ℕ
CELLS = 64

abbrev pub lent : List ℕ
lent = replicate CELLS 7

fresh_ok : (fresh_of 4294967295 65536 CELLS (length lent)).outcome ≡ Ok tt
unfolding fresh_of fresh_verdict is_cell_count
fresh_ok = refl

-- a byte of data, then the end: their numbers are 2^32 − 1 and 0
abbrev pub data-7 : Msg
data-7 = record { kind = msgs.Data; bytes = 7 ∷ [] }

abbrev pub finish : Msg
finish = record { kind = msgs.SendFinish; bytes = [] }

abbrev pub p0 : Packet
p0 = record { index = 0; number = 4294967295; msg = data-7 }

abbrev pub p1 : Packet
p1 = record { index = 1; number = 0; msg = finish }

-- two fresh ends, just before the wrap, with any bytes in their stores
abbrev pub begun : List ℕ → List ℕ → List ℕ → List ℕ → World
begun sent-a received-a sent-b received-b = fresh_world 4294967295 (fresh_end 4294967295 65536 CELLS sent-a received-a lent) (fresh_end 4294967295 65536 CELLS sent-b received-b lent)

-- what a run from there shows
pub record Met (sent-a received-a sent-b received-b : List ℕ) : Type 0 where
  pub resent : World
  pub ended : World
  pub fresh-ends : Fresh (begun sent-a received-a sent-b received-b)
  pub first : Run (begun sent-a received-a sent-b received-b) resent
  pub second : Run resent ended
  -- both packets are in the table, and Sent over link 1, where they were resent
  pub open-0 : Open resent 0
  pub open-1 : Open resent 1
  pub over-0 : SentOver (status_of resent 0) 1
  pub over-1 : SentOver (status_of resent 1) 1
  -- both arrive over link 1, unrefused: no ack waited for it, and now one of each does
  pub arrived : World
  pub between : Run resent arrived
  pub unqueued : waiting_of resent.b.state 1 ≡ []
  pub queued : waiting_of arrived.b.state 1 ≡ 4294967295 ∷ 0 ∷ []
  -- sending has stopped, and both acks return there
  pub quiet : Stops resent ended
  pub returned : (i : ℕ) → Open resent i → Returned resent i ended second
  -- four messages were put on the links; of these b got the finish mark, after it the data, and then the finish mark once more
  pub copies : length ended.ab.msgs ≡ 4
  pub accepted : ended.b.accepted ≡ p1 ∷ p0 ∷ p1 ∷ []
  -- the table is empty, nothing is left to take, and all that was given was handed out
  pub emptied : Emptied ended
  pub nothing : (take_of ended.b.state ended.b.records).answer ≡ Err (refuse 19 tt)
  pub given : ended.a.given ≡ data-7 ∷ finish ∷ []
  pub out : ended.b.out ≡ data-7 ∷ finish ∷ []

-- ---- the run

module _ (sa ra sb rb : List ℕ) where
  -- two fresh ends, and two links between them: each end adds both, in the same order
  w0 : World
  w0 = begun sa ra sb rb

  w1 : World
  w1 = called w0 (calls.Add 1 0 None false false)

  w2 : World
  w2 = called w1 (calls.Add 2 0 None false false)

  w3 : World
  w3 = swap (called (swap w2) (calls.Add 1 0 None false false))

  w4 : World
  w4 = swap (called (swap w3) (calls.Add 2 0 None false false))

  -- a sends both messages over link 0; the first is lost, the second arrives
  w5 : World
  w5 = send_with 65536 w4 0 0 data-7

  w6 : World
  w6 = send_with 65536 w5 0 0 finish

  w7 : World
  w7 = swap (receive_with 65536 64 (swap w6) 0 p1)

  -- a doubts link 0, and resends both over link 1
  w8 : World
  w8 = called w7 (calls.Unconfirm 0)

  w9 : World
  w9 = resend_at w8 1 0 4294967295

  w10 : World
  w10 = resend_at w9 1 0 0

  -- both arrive over link 1, the second as a repeat; b hands out both, in order
  w11 : World
  w11 = swap (receive_with 65536 64 (swap w10) 1 p0)

  w12 : World
  w12 = swap (receive_with 65536 64 (swap w11) 1 p1)

  w13 : World
  w13 = swap (take_with 65536 64 (swap w12))

  w14 : World
  w14 = swap (take_with 65536 64 (swap w13))

  -- b takes the two acks that wait for link 1, and they come back to a over it; the ack that waits for link 0 stays
  w15 : World
  w15 = swap (take_ack_at (swap w14) 1)

  w16 : World
  w16 = swap (take_ack_at (swap w15) 1)

  w17 : World
  w17 = called w16 (calls.Ack 1 0 0)

  w18 : World
  w18 = called w17 (calls.Ack 1 0 4294967295)

  -- ---- what is computed

  abbrev sent-cell : List ℕ
  sent-cell = cell_bytes PACKETS (copied sa 64512 (7 ∷ [])) 4294967295 1

  abbrev received-cell : List ℕ
  received-cell = cell_bytes CELLS (copied rb 64512 (7 ∷ [])) 4294967295 1

  record Computed : Type 0 where
    sent-4 : w4.a.sent ≡ sa
    sent-5 : w5.a.sent ≡ copied sa 64512 (7 ∷ [])
    received-6 : w6.b.received ≡ rb
    received-10 : w10.b.received ≡ rb
    received-11 : w11.b.received ≡ copied rb 64512 (7 ∷ [])
    received-12 : w12.b.received ≡ copied rb 64512 (7 ∷ [])
    received-13 : w13.b.received ≡ copied rb 64512 (7 ∷ [])
    cells-6 : w6.b.state.rx.cells ≡ 64
    cells-10 : w10.b.state.rx.cells ≡ 64
    cells-11 : w11.b.state.rx.cells ≡ 64
    cells-12 : w12.b.state.rx.cells ≡ 64
    cells-13 : w13.b.state.rx.cells ≡ 64
    given-6 : w6.a.given ≡ data-7 ∷ finish ∷ []
    given-10 : w10.a.given ≡ data-7 ∷ finish ∷ []
    given-11 : w11.a.given ≡ data-7 ∷ finish ∷ []
    msgs-6 : w6.ab.msgs ≡ p1 ∷ p0 ∷ []
    msgs-10 : w10.ab.msgs ≡ p1 ∷ record { index = 0; number = 4294967295; msg = record { kind = msgs.Data; bytes = sent-cell } } ∷ p1 ∷ p0 ∷ []
    msgs-11 : w11.ab.msgs ≡ p1 ∷ record { index = 0; number = 4294967295; msg = record { kind = msgs.Data; bytes = sent-cell } } ∷ p1 ∷ p0 ∷ []
    waits-10 : waiting_of w10.b.state 1 ≡ []
    waits-12 : waiting_of w12.b.state 1 ≡ 4294967295 ∷ 0 ∷ []
    over-10-0 : SentOver (status_of w10 0) 1
    over-10-1 : SentOver (status_of w10 1) 1
    table-10 : w10.a.state.tx.txed_count ≡ 2

  -- .. and of the later worlds, apart, since one declaration may take only so many steps
  record ComputedLater : Type 0 where
    given-16 : w16.a.given ≡ data-7 ∷ finish ∷ []
    acks-16 : w16.ba.acks ≡ 0 ∷ 4294967295 ∷ []
    all-16 : w16.b.accepted ≡ p1 ∷ p0 ∷ p1 ∷ []
    over-1 : SentOver (status_of w16 1) 1
    over-0 : SentOver (status_of w17 0) 1
    number-1 : 0 ≡ plus w16.start 1
    number-0 : 4294967295 ≡ plus w16.start 0
    accepted-16 : (ack_of w16.a.state 1 0 0).outcome ≡ Ok tt
    copies-16 : length w16.ab.msgs ≡ 4

  record ComputedLast : Type 0 where
    accepted-17 : (ack_of w17.a.state 1 0 4294967295).outcome ≡ Ok tt
    table-18 : w18.a.state.tx.txed_count ≡ 0
    none-16 : (take_of w16.b.state w16.b.records).answer ≡ Err (refuse 19 tt)

  computed : Computed
  unfolding plus minus signed distance_of near before past ack_queued waiting oldest_ack shifted ack_taken marked_row mark_acked_as mark_resent_as trip_after trip_moved fresh_row empty_row unconfirmed_row with_unacked next_cell window sound? records? recordsb sound_withb is_cell_count queued_of sum_of bytes_in refilled place looked_at packet_of with_table is_taken is_listed take_ack_verdict soundb fresh_tx fresh_rx fresh_state fresh_verdict fresh_of fresh_records slot_verdict timed_verdict requeued row_of slot_ok time_ok in_table with_packet length_ok lowest_empty add_verdict add_of unconfirmed unconfirmed_state unconfirm_of resend_verdict resent_state resend_of totals_ok send_verdict sent_tx told_rx sent_state send_of send_store acked_row acked_tx acked_state ack_verdict ack_of settled_row_as received_tx settled_tx_as sweep_from sweep_of swept_tx held_as held_of is_record kept_record held_at is_used cell_of near_oldest is_repeat can_advance passed_over end_after opened_records put_in turns message_verdict receive_verdict effect_tx repeated_state effect_state received_state receive_of receive_store receive_records ack_answer taken_ack_state take_ack_of ready_of hand_out_by show_verdict showing_of shown_of take_verdict can_skip passed_by taken_in taken_state take_of take_records resend_at take_ack_at send_with receive_with take_with w0 w1 w2 w3 w4 w5 w6 w7 w8 w9 w10 w11 w12 w13 w14 w15 w16 w17 w18
  computed = record {
    sent-4 = refl;
    sent-5 = refl;
    received-6 = refl;
    received-10 = refl;
    received-11 = refl;
    received-12 = refl;
    received-13 = refl;
    cells-6 = refl;
    cells-10 = refl;
    cells-11 = refl;
    cells-12 = refl;
    cells-13 = refl;
    given-6 = refl;
    given-10 = refl;
    given-11 = refl;
    msgs-6 = refl;
    msgs-10 = refl;
    msgs-11 = refl;
    waits-10 = refl;
    waits-12 = refl;
    over-10-0 = refl;
    over-10-1 = refl;
    table-10 = refl;
  }

  computed-later : ComputedLater
  unfolding plus minus signed distance_of near before past ack_queued waiting oldest_ack shifted ack_taken marked_row mark_acked_as mark_resent_as trip_after trip_moved fresh_row empty_row unconfirmed_row with_unacked next_cell window sound? records? recordsb sound_withb is_cell_count queued_of sum_of bytes_in refilled place looked_at packet_of with_table is_taken is_listed take_ack_verdict soundb fresh_tx fresh_rx fresh_state fresh_verdict fresh_of fresh_records slot_verdict timed_verdict requeued row_of slot_ok time_ok in_table with_packet length_ok lowest_empty add_verdict add_of unconfirmed unconfirmed_state unconfirm_of resend_verdict resent_state resend_of totals_ok send_verdict sent_tx told_rx sent_state send_of send_store acked_row acked_tx acked_state ack_verdict ack_of settled_row_as received_tx settled_tx_as sweep_from sweep_of swept_tx held_as held_of is_record kept_record held_at is_used cell_of near_oldest is_repeat can_advance passed_over end_after opened_records put_in turns message_verdict receive_verdict effect_tx repeated_state effect_state received_state receive_of receive_store receive_records ack_answer taken_ack_state take_ack_of ready_of hand_out_by show_verdict showing_of shown_of take_verdict can_skip passed_by taken_in taken_state take_of take_records resend_at take_ack_at send_with receive_with take_with w0 w1 w2 w3 w4 w5 w6 w7 w8 w9 w10 w11 w12 w13 w14 w15 w16 w17 w18
  computed-later = record {
    given-16 = refl;
    acks-16 = refl;
    all-16 = refl;
    over-1 = refl;
    over-0 = refl;
    number-1 = refl;
    number-0 = refl;
    accepted-16 = refl;
    copies-16 = refl;
  }

  computed-last : ComputedLast
  unfolding plus minus signed distance_of near before past ack_queued waiting oldest_ack shifted ack_taken marked_row mark_acked_as mark_resent_as trip_after trip_moved fresh_row empty_row unconfirmed_row with_unacked next_cell window sound? records? recordsb sound_withb is_cell_count queued_of sum_of bytes_in refilled place looked_at packet_of with_table is_taken is_listed take_ack_verdict soundb fresh_tx fresh_rx fresh_state fresh_verdict fresh_of fresh_records slot_verdict timed_verdict requeued row_of slot_ok time_ok in_table with_packet length_ok lowest_empty add_verdict add_of unconfirmed unconfirmed_state unconfirm_of resend_verdict resent_state resend_of totals_ok send_verdict sent_tx told_rx sent_state send_of send_store acked_row acked_tx acked_state ack_verdict ack_of settled_row_as received_tx settled_tx_as sweep_from sweep_of swept_tx held_as held_of is_record kept_record held_at is_used cell_of near_oldest is_repeat can_advance passed_over end_after opened_records put_in turns message_verdict receive_verdict effect_tx repeated_state effect_state received_state receive_of receive_store receive_records ack_answer taken_ack_state take_ack_of ready_of hand_out_by show_verdict showing_of shown_of take_verdict can_skip passed_by taken_in taken_state take_of take_records resend_at take_ack_at send_with receive_with take_with w0 w1 w2 w3 w4 w5 w6 w7 w8 w9 w10 w11 w12 w13 w14 w15 w16 w17 w18
  computed-last = record { accepted-17 = refl; table-18 = refl; none-16 = refl }

  -- what b is answered as it takes both, and what is shown before
  abbrev first_out : HandOut
  first_out = Ok (msgs.Data, (seq_of 4294967295), 1)

  abbrev second-out : HandOut
  second-out = Ok (msgs.SendFinish, (seq_of 0), 0)

  record Handed : Type 0 where
    none-12 : w12.b.out ≡ []
    took-12 : (take_of w12.b.state w12.b.records).answer ≡ first_out
    shown-12 : showing_of w12.b.state 65536 w12.b.records ≡ first_out
    took-13 : (take_of w13.b.state w13.b.records).answer ≡ second-out
    shown-13 : showing_of w13.b.state 65536 w13.b.records ≡ second-out

  handed : Handed
  unfolding plus minus signed distance_of near before past ack_queued waiting oldest_ack shifted ack_taken marked_row mark_acked_as mark_resent_as trip_after trip_moved fresh_row empty_row unconfirmed_row with_unacked next_cell window sound? records? recordsb sound_withb is_cell_count queued_of sum_of bytes_in refilled place looked_at packet_of with_table is_taken is_listed take_ack_verdict soundb fresh_tx fresh_rx fresh_state fresh_verdict fresh_of fresh_records slot_verdict timed_verdict requeued row_of slot_ok time_ok in_table with_packet length_ok lowest_empty add_verdict add_of unconfirmed unconfirmed_state unconfirm_of resend_verdict resent_state resend_of totals_ok send_verdict sent_tx told_rx sent_state send_of send_store acked_row acked_tx acked_state ack_verdict ack_of settled_row_as received_tx settled_tx_as sweep_from sweep_of swept_tx held_as held_of is_record kept_record held_at is_used cell_of near_oldest is_repeat can_advance passed_over end_after opened_records put_in turns message_verdict receive_verdict effect_tx repeated_state effect_state received_state receive_of receive_store receive_records ack_answer taken_ack_state take_ack_of ready_of hand_out_by show_verdict showing_of shown_of take_verdict can_skip passed_by taken_in taken_state take_of take_records resend_at take_ack_at send_with receive_with take_with w0 w1 w2 w3 w4 w5 w6 w7 w8 w9 w10 w11 w12 w13 w14 w15 w16 w17 w18
  handed = record { none-12 = refl; took-12 = refl; shown-12 = refl; took-13 = refl; shown-13 = refl }

  out-16 : w16.b.out ≡ record { kind = msgs.Data; bytes = received-cell } ∷ finish ∷ []
  unfolding take_ack_at take_with w13 w14 w15 w16
  out-16 = λ d. out_by (handed.took-13 d) (out_by (handed.took-12 d) (handed.none-12 d) (part_as 64 (handed.shown-12 d) (computed.received-12 d))) (part_as 64 (handed.shown-13 d) (computed.received-13 d))

  -- ---- the run, step by step

  module _ (ha : length sa ≡ 65536) (hra : length ra ≡ 65536) (hsb : length sb ≡ 65536) (hb : length rb ≡ 65536) where
    abbrev c : Computed
    c = computed

    abbrev later : ComputedLater
    later = computed-later

    abbrev last : ComputedLast
    last = computed-last

    two : (l : List Msg) → l ≡ data-7 ∷ finish ∷ [] → length l ≡ 2
    two l e = ap length e

    put_a : length (copied sa 64512 (7 ∷ [])) ≡ 65536
    put_a = copied-long PACKETS (omega arith) sa ha 4294967295 (7 ∷ []) (omega arith)

    put_b : length (copied rb 64512 (7 ∷ [])) ≡ 65536
    put_b = copied-long CELLS (omega arith) rb hb 4294967295 (7 ∷ []) (omega arith)

    -- what was resent is what was sent
    resent-same : ◌≡◌ {A = Packet} p0 (record { index = 0; number = 4294967295; msg = record { kind = msgs.Data; bytes = sent-cell } })
    resent-same = λ d. record { index = 0; number = 4294967295; msg = record { kind = msgs.Data; bytes = sym (copied-here PACKETS (omega arith) sa ha 4294967295 (7 ∷ []) (omega arith)) d } }

    to-10 : Run w0 w10
    unfolding w1 w2 w3 w4 w5 w6 w7 w8 w9 w10
    to-10 =
        ◌then◌ {X = w9} {Y = w10} (◌then◌ {X = w8} {Y = w9} (◌then◌ {X = w7} {Y = w8} (◌then◌ {X = w6} {Y = w7} (◌then◌ {X = w5} {Y = w6} (◌then◌ {X = w4} {Y = w5} (◌then◌ {X = w3} {Y = w4} (◌then◌ {X = w2} {Y = w3} (◌then◌ {X = w1} {Y = w2} (◌then◌ {X = w0} {Y = w1} here
        (at_a (Other (calls.Add 1 0 None false false) tt tt)))
        (at_a (Other (calls.Add 2 0 None false false) tt tt)))
        (at_b (Other {W = swap w2} (calls.Add 1 0 None false false) tt tt)))
        (at_b (Other {W = swap w3} (calls.Add 2 0 None false false) tt tt)))
        (at_a (send-step w4 0 0 data-7 (ap length c.sent-4 ∙ ha))))
        (at_a (send-step w5 0 0 finish (ap length c.sent-5 ∙ put_a))))
        (at_b (receive-step (swap w6) 0 p1 (ap length c.received-6 ∙ hb) (rw c.msgs-6 (Memᴰ.head refl)) (omega (arith, two w6.a.given c.given-6)) c.cells-6)))
        (at_a (Other (calls.Unconfirm 0) tt tt)))
        (at_a (Resend 1 0 4294967295 (omega arith))))
        (at_a (Resend 1 0 0 (omega arith)))

    to-12 : Run w10 w12
    unfolding w11 w12
    to-12 =
        ◌then◌ {X = w11} {Y = w12} (◌then◌ {X = w10} {Y = w11} here
        (at_b (receive-step (swap w10) 1 p0 (ap length c.received-10 ∙ hb) (rw c.msgs-10 (Memᴰ.tail (Memᴰ.head resent-same))) (omega (arith, two w10.a.given c.given-10)) c.cells-10)))
        (at_b (receive-step (swap w11) 1 p1 (ap length c.received-11 ∙ put_b) (rw c.msgs-11 (Memᴰ.head refl)) (omega (arith, two w11.a.given c.given-11)) c.cells-11))

    to-16 : Run w10 w16
    unfolding w13 w14 w15 w16
    to-16 =
        ◌then◌ {X = w15} {Y = w16} (◌then◌ {X = w14} {Y = w15} (◌then◌ {X = w13} {Y = w14} (◌then◌ {X = w12} {Y = w13} to-12
        (at_b (take_step (swap w12) (ap length c.received-12 ∙ put_b) c.cells-12)))
        (at_b (take_step (swap w13) (ap length c.received-13 ∙ put_b) c.cells-13)))
        (at_b (TakeAck {W = swap w14} 1)))
        (at_b (TakeAck {W = swap w15} 1))

    back-1 : Memᴰ 0 w16.ba.acks
    back-1 = rw later.acks-16 (Memᴰ.head refl)

    back-0 : Memᴰ 4294967295 w17.ba.acks
    unfolding w17
    back-0 = rw later.acks-16 (Memᴰ.tail (Memᴰ.head refl))

    in-time-1 : TimelyAck 0 w16.a w16.b
    in-time-1 = record {
      acked = record { message = p1; member = rw later.all-16 (Memᴰ.head refl); numbered = refl };
      timely = omega (arith, two w16.a.given later.given-16);
    }

    in-time-0 : TimelyAck 4294967295 w17.a w17.b
    unfolding w17
    in-time-0 = record {
      acked = record { message = p0; member = rw later.all-16 (Memᴰ.tail (Memᴰ.head refl)); numbered = refl };
      timely = omega (arith, two w17.a.given later.given-16);
    }

    to-17 : Run w10 w17
    unfolding w17
    to-17 = ◌then◌ {X = w16} {Y = w17} to-16 (at_a (Acked {W = w16} 1 0 0 back-1 in-time-1))

    to-18 : Run w10 w18
    unfolding w18
    to-18 = ◌then◌ {X = w17} {Y = w18} to-17 (at_a (Acked {W = w17} 1 0 4294967295 back-0 in-time-0))

    returned-0 : Returned w10 0 w18 to-18
    unfolding w17 w18 to-18
    returned-0 = now {W = w17} to-17 1 0 4294967295 back-0 in-time-0 later.number-0 later.over-0 last.accepted-17

    returned-1 : Returned w10 1 w18 to-18
    unfolding w17 w18 to-17 to-18
    returned-1 = earlier {W = w17} {X = w18} {r = to-17} (at_a (Acked {W = w17} 1 0 4294967295 back-0 in-time-0)) (now {W = w16} to-16 1 0 0 back-1 in-time-1 later.number-1 later.over-1 later.accepted-16)

    each : (i : ℕ) → Open w10 i → Returned w10 i w18 to-18
    each i o = go (ℕ_discrete i 0)
      where
        small : i < 2
        small = omega (arith, o.given, two w10.a.given c.given-10)

        go : Dec (i ≡ 0) → Returned w10 i w18 to-18
        go (yes e) = rw e returned-0
        go (no e) = let one : i ≡ 1 = omega (arith, small) in rw one returned-1

    pub met : Met sa ra sb rb
    unfolding w0 w17 w18
    met = record {
      resent = w10;
      ended = w18;
      fresh-ends = fresh 4294967295 65536 CELLS 65536 CELLS sa ra lent sb rb lent (omega arith) fresh_ok fresh_ok ha hra hsb hb;
      first = to-10;
      second = to-18;
      arrived = w12;
      between = to-12;
      unqueued = c.waits-10;
      queued = c.waits-12;
      quiet = two w18.a.given later.given-16 ∙ sym (two w10.a.given c.given-10);
      open-0 = record { given = omega (arith, two w10.a.given c.given-10); in-table = omega (arith, two w10.a.given c.given-10, c.table-10); unreceived = sent-unreceived (status_of w10 0) 1 c.over-10-0 };
      open-1 = record { given = omega (arith, two w10.a.given c.given-10); in-table = omega (arith, two w10.a.given c.given-10, c.table-10); unreceived = sent-unreceived (status_of w10 1) 1 c.over-10-1 };
      over-0 = c.over-10-0;
      over-1 = c.over-10-1;
      returned = each;
      copies = later.copies-16;
      accepted = later.all-16;
      emptied = last.table-18;
      nothing = last.none-16;
      given = later.given-16;
      out = out-16 ∙ (λ d. record { kind = msgs.Data; bytes = copied-here CELLS (omega arith) rb hb 4294967295 (7 ∷ []) (omega arith) d } ∷ finish ∷ []);
    }

-- the theorem says of this run that its table is emptied
pub used : (sa ra sb rb : List ℕ) (m : Met sa ra sb rb) → Emptied m.ended
used sa ra sb rb m = (demand3.drains (begun sa ra sb rb) m.resent m.fresh-ends m.first).0 m.ended m.second m.quiet m.returned

-- it is so with zeros in the stores, say
unfoldable pub zeros : List ℕ
zeros = replicate 65536 0

zeros-length : length zeros ≡ 65536
unfolding zeros
zeros-length = length-replicate {A = ℕ} 65536 0

pub met-by-zeros : Met zeros zeros zeros zeros
met-by-zeros = met zeros zeros zeros zeros zeros-length zeros-length zeros-length zeros-length
