-- What is gathered, and what the packets that are left will add, is the whole list at each turn.
use Rattle.std.proofs.Common.{◌≡◌, length, refl, ap, ◌∙◌, arith}
use Rattle.engine.specs.Ring.{window-length}
use Rattle.engine.specs.Packets.{no_packet, packets, queued_of}
use Rattle.engine.specs.InOrder.{packets_left}
use Rattle.engine.specs.Queue.{gather-turn, gather-end}
use Rattle.engine.specs.Sizes.{PACKETS}
use Rattle.engine.proofs.queue.gather.Goals as goal

pub loop-p-init : goal.loop-p-init
loop-p-init c = let tx = c.args.tx in
    let start : packets_left c.into_iter-p-iterator.result ≡ packets c.args.tx = ap packets_left c.into_iter-p-iterator.ensures.into_iter_gives ∙ c.of-p-items.ensures in
    let long : length tx.resend_queue ≡ PACKETS = c.well_formed.0.1.1.1.1.1.0.1.0.1 in
    record {
      front = ap queued_of start;
      back = refl;
      full = long;
      room = omega (arith, c.requires, ap length start ∙ window-length PACKETS no_packet tx.txed_packets _ tx.txed_count);
    }

pub loop-p-preserved : goal.loop-p-preserved
loop-p-preserved c = let l = c.loop-p in
    let tx = c.args.tx in
    rw c.put-g.ensures (gather-turn tx.resend_queue (queued_of (packets tx)) l.g _ _ (rw c.in-Some.ensures.steps at l.invariant))

pub returns : goal.returns
returns c = let l = c.loop-p in
    let tx = c.args.tx in
    let e = gather-end tx.resend_queue (queued_of (packets tx)) l.g (rw c.in-None.ensures.steps.0 at l.invariant) in
    record { numbers_value = ap (λ g. g.numbers) e; count_value = ap (λ g. g.count) e }
