-- What is left of the table gives the same answer at each turn.
use Rattle.std.proofs.Common.{◌-◌, ◌%◌, ◌<◌, sym, ap, ◌∙◌, arith}
use Rattle.engine.specs.declared.state.SentReliable.{SentReliable}
use Rattle.engine.specs.Sizes.{PACKETS}
use Rattle.engine.specs.Ring.{window, next-cell-lt}
use Rattle.engine.specs.Packets.{first_of, no_packet, is_sent}
use Rattle.engine.specs.Deadlines.{first_sent, first-here, first_on, first-end}
use Rattle.words.specs.Meaning.{state_of}
use Rattle.sending_in_place.specs.Changing.{none-done, one-done}
use Rattle.sending_in_place.proofs.deadlines.first_sent.Goals as goal

pub first_cell-at-requires : goal.first_cell-at-requires
first_cell-at-requires c = rw c.tx_of-tx.ensures c.requires

pub loop-init : goal.loop-init
loop-init c = let s = state_of c.args.words.now in
    (c.first_cell-at.ensures.upper_bound, simp (c.first_cell-at.ensures.value, c.tx_of-tx.ensures) (ap (λ n. first_sent (window PACKETS no_packet s.tx.txed_packets (first_of s.tx % PACKETS) n)) (sym (none-done s.tx.txed_count))))

pub packet_at-p-requires : goal.packet_at-p-requires
packet_at-p-requires c =
    c.loop.invariant.0

pub returns-then-is_sent : goal.returns-then-is_sent
returns-then-is_sent c = let l = c.loop in
    let p = c.packet_at-p.ensures.value in
    let left = c.tx_of-tx.result.txed_count - l.counter in
    let some : 0 < left = omega (arith, c.loop-test.true) in
    let r = ap (λ (x : SentReliable). is_sent x.status) (sym p) ∙ sym c.is_sent.ensures ∙ c.if-is_sent.true in
    rw (c.in_flight.ensures, p) (sym (first-here (state_of c.args.words.now).tx.txed_packets l.at left some r) ∙ l.invariant.1)

pub loop-preserved : goal.loop-preserved
loop-preserved c = let l = c.loop in
    let p = c.packet_at-p.ensures.value in
    let left = c.tx_of-tx.result.txed_count - l.counter in
    let some : 0 < left = omega (arith, c.loop-test.true) in
    let r = ap (λ (x : SentReliable). is_sent x.status) (sym p) ∙ sym c.is_sent.ensures ∙ c.if-is_sent.false in
    (rw c.next_cell-at.ensures (next-cell-lt PACKETS l.at (omega arith)), rw (c.next_cell-at.ensures, ← one-done c.tx_of-tx.result.txed_count l.counter) (sym (first_on (state_of c.args.words.now).tx.txed_packets l.at left some r) ∙ l.invariant.1))

pub returns : goal.returns
returns c = let l = c.loop in
    sym (first-end (state_of c.args.words.now).tx.txed_packets l.at (c.tx_of-tx.result.txed_count - l.counter) (omega (arith, c.loop-test.false))) ∙ l.invariant.1
