-- What is left of the table gives the same answer at each turn.
use Rattle.std.proofs.Common.{◌≡◌, ℕ, suc, length, sym, ap, ◌∙◌, arith}
use Rattle.engine.specs.declared.acking.Front.{Front}
use Rattle.engine.specs.Ring.{window-length}
use Rattle.engine.specs.Packets.{no_packet, packets}
use Rattle.engine.specs.InOrder.{packets_left}
use Rattle.engine.specs.Acking.{sweep_from, sweep_of}
use Rattle.engine.specs.Sizes.{PACKETS}
use Rattle.engine.proofs.acking.swept.Goals as goal

pub loop-p-init : goal.loop-p-init
unfolding sweep_of
loop-p-init c = let tx = c.args.tx in
    let start : packets_left c.into_iter-p-iterator.result ≡ packets c.args.tx = ap packets_left c.into_iter-p-iterator.ensures.into_iter_gives ∙ c.of-p-items.ensures in (
      ap length start ∙ window-length PACKETS no_packet tx.txed_packets _ tx.txed_count,
      ap (λ ps. sweep_from ps tx.txed_last_consumed tx.txed_unconsumable) start,
    )

pub returns-then-not-is_received : goal.returns-then-not-is_received
unfolding sweep_from
returns-then-not-is_received c = let l = c.loop-p in
    let r = sym c.is_received.ensures ∙ c.if-not-is_received.true in
    let turn = c.in-Some.ensures.steps in
    let n : suc (length (packets_left c.next.new.self)) ≡ l.front.left = sym (ap length turn) ∙ l.invariant.0 in
    rw n at (rw (turn, r) at l.invariant.1)

pub loop-p-preserved : goal.loop-p-preserved
unfolding sweep_from
loop-p-preserved c = let l = c.loop-p in
    let r = sym c.is_received.ensures ∙ c.if-not-is_received.false in
    let turn = c.in-Some.ensures.steps in
    let n = sym (ap length turn) ∙ l.invariant.0 in
    (omega arith, rw c.saturating_sub.ensures (rw (turn, r) at l.invariant.1))

pub returns : goal.returns
unfolding sweep_from
returns c = let l = c.loop-p in
    let end = c.in-None.ensures.steps.0 in
    let n : l.front.left ≡ 0 = sym l.invariant.0 ∙ ap length end in
    let with_left : ℕ → Front = λ k. record { left = k; last = l.front.last; held = l.front.held } in
    ap with_left n ∙ rw end at l.invariant.1
