-- What is left of the table, weighed on top of the tally so far, gives the same tally at each turn.
use Rattle.std.proofs.Common.{◌≡◌, ap, ◌∙◌}
use Rattle.engine.specs.Packets.{packets, first_of}
use Rattle.engine.specs.InOrder.{packets_left}
use Rattle.engine.specs.Tally.{tally_from, tally_of, no_tally}
use Rattle.engine.proofs.packets.tallied.Goals as goal

pub loop-p-init : goal.loop-p-init
unfolding tally_of
loop-p-init c = let a = c.args in
    let start : packets_left c.into_iter-p-iterator.result ≡ packets c.args.tx = ap packets_left c.into_iter-p-iterator.ensures.into_iter_gives ∙ c.of-p-items.ensures in
    simp c.sub-n.ensures (ap (λ ps. tally_from a.tx.resend_queue a.roster a.time ps (first_of a.tx) no_tally) start)

pub loop-p-preserved : goal.loop-p-preserved
unfolding tally_from
loop-p-preserved c = simp (c.add-n.ensures, c.weigh-t.ensures, c.packet_ok.ensures) (rw c.in-Some.ensures.steps at c.loop-p.invariant)

pub returns : goal.returns
unfolding tally_from
returns c = rw c.in-None.ensures.steps.0 at c.loop-p.invariant
