-- What is left of the table gives the same answer at each turn; the other numbers stay as they were.
use Rattle.std.proofs.Common.{◌≡◌, ◌+◌, ◌-◌, ◌%◌, ◌<◌, refl, sym, ap, ◌∙◌, arith}
use Rattle.engine.specs.declared.state.SentReliable.{SentReliable}
use Rattle.engine.specs.Sizes.{PACKETS}
use Rattle.engine.specs.Ring.{window, next-cell-lt}
use Rattle.engine.specs.Packets.{first_of, no_packet, is_received}
use Rattle.engine.specs.Acking.{sweep_from, sweep_of, sweep-on, sweep-stop, sweep-end}
use Rattle.words.specs.declared.sending.SendingNumbers.{SendingNumbers}
use Rattle.words.specs.Encoded.{numbers_of}
use Rattle.words.specs.Meaning.{state_of}
use Rattle.sending_in_place.specs.Changing.{none-done, one-done}
use Rattle.sending_in_place.specs.Swept.{swept_as}
use Rattle.sending_in_place.proofs.acking.swept.Goals as goal

pub first_cell-at-requires : goal.first_cell-at-requires
first_cell-at-requires c = rw c.tx_of-tx.ensures c.requires

pub loop-init : goal.loop-init
unfolding sweep_of
loop-init c = let s = state_of c.args.words.now in
    let e = c.tx_of-tx.ensures in
    let tx = c.tx_of-tx.result in
    let z = none-done tx.txed_count in
    record {
      cell = c.first_cell-at.ensures.upper_bound;
      same = λ i. record { tx_seq = (e i).tx_seq; txed_count = z i; resend_count = (e i).resend_count; txed_unacked = (e i).txed_unacked; txed_unconsumed = (e i).txed_unconsumed; txed_unconsumable = tx.txed_unconsumable; txed_last_consumed = tx.txed_last_consumed; send_finish_sent = (e i).send_finish_sent; write_closed = (e i).write_closed };
      rest = simp (c.first_cell-at.ensures.value, c.tx_of-tx.ensures) (ap (λ n. sweep_from (window PACKETS no_packet s.tx.txed_packets (first_of s.tx % PACKETS) n) s.tx.txed_last_consumed s.tx.txed_unconsumable) (sym (none-done s.tx.txed_count)));
    }

pub packet_at-p-requires : goal.packet_at-p-requires
packet_at-p-requires c =
    c.loop.invariant.cell

pub overflow_sub-tx : goal.overflow_sub-tx
overflow_sub-tx c = let count = ap (λ (n : SendingNumbers). n.txed_count) c.loop.invariant.same in omega (arith, count, c.loop-test.true)

pub returns-then-not-is_received : goal.returns-then-not-is_received
returns-then-not-is_received c =
    let s = state_of c.args.words.now in
    let l = c.loop in
    let p = c.packet_at-p.ensures.value in
    let left = c.tx_of-tx.result.txed_count - l.counter in
    let some : 0 < left = omega (arith, c.loop-test.true) in
    let same = l.invariant.same in
    let r = ap (λ (x : SentReliable). is_received x.status) (sym p) ∙ sym c.is_received.ensures ∙ c.if-not-is_received.true in
    (λ i. record { tx_seq = (same i).tx_seq; txed_count = (same i).txed_count; resend_count = (same i).resend_count; txed_unacked = (same i).txed_unacked; txed_unconsumed = (same i).txed_unconsumed; txed_unconsumable = l.tx.txed_unconsumable; txed_last_consumed = c.packet_at-p.result.seq; send_finish_sent = (same i).send_finish_sent; write_closed = (same i).write_closed })
    ∙ swept_as s.tx (numbers_of s.tx) left c.packet_at-p.result.seq l.tx.txed_unconsumable refl (sym l.invariant.rest ∙ sweep-stop s.tx.txed_packets l.at left l.tx.txed_last_consumed l.tx.txed_unconsumable some r ∙ rw p)

pub loop-preserved : goal.loop-preserved
loop-preserved c = let s = state_of c.args.words.now in
    let l = c.loop in
    let p = c.packet_at-p.ensures.value in
    let end = c.tx_of-tx.result.txed_count in
    let left = end - l.counter in
    let some : 0 < left = omega (arith, c.loop-test.true) in
    let same = l.invariant.same in
    let count : l.tx.txed_count ≡ left = ap (λ (n : SendingNumbers). n.txed_count) same in
    let fewer : l.tx.txed_count - 1 ≡ end - (l.counter + 1) = omega (arith, count) in
    let r = ap (λ (x : SentReliable). is_received x.status) (sym p) ∙ sym c.is_received.ensures ∙ c.if-not-is_received.false in
    record {
      cell = rw c.next_cell-at.ensures (next-cell-lt PACKETS l.at (omega arith));
      same = λ i. record { tx_seq = (same i).tx_seq; txed_count = fewer i; resend_count = (same i).resend_count; txed_unacked = (same i).txed_unacked; txed_unconsumed = (same i).txed_unconsumed; txed_unconsumable = c.less.result; txed_last_consumed = c.packet_at-p.result.seq; send_finish_sent = (same i).send_finish_sent; write_closed = (same i).write_closed };
      rest = rw (c.next_cell-at.ensures, c.less.ensures, p, ← one-done end l.counter) (sym (sweep-on s.tx.txed_packets l.at left l.tx.txed_last_consumed l.tx.txed_unconsumable some r) ∙ l.invariant.rest);
    }

pub returns : goal.returns
returns c =
    let s = state_of c.args.words.now in
    let l = c.loop in
    let left = c.tx_of-tx.result.txed_count - l.counter in
    l.invariant.same
    ∙ swept_as s.tx (numbers_of s.tx) left l.tx.txed_last_consumed l.tx.txed_unconsumable refl (sym l.invariant.rest ∙ sweep-end s.tx.txed_packets l.at left l.tx.txed_last_consumed l.tx.txed_unconsumable (omega (arith, c.loop-test.false)))
