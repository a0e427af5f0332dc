-- Each arm knows which status it is in, and which sums it adds to.
use Rattle.engine.specs.Tally.{weighed}
use Rattle.seq.specs.Numbers.{plus}
use Rattle.engine.proofs.packets.weigh.Goals as goal
use Rattle.engine.proofs.packets.weigh.Goals.{then-t, else-t}

pub returns-in-Sent : goal.returns-in-Sent
unfolding weighed plus
returns-in-Sent c = elim c.if-t.branch [ then-t w ↦ simp (w.out-is, w.if-t.true, c.in-Sent.is, c.from-j.ensures) | else-t w ↦ simp (w.out-is, w.if-t.false, c.in-Sent.is, c.from-j.ensures) ]

pub returns-in-Received : goal.returns-in-Received
unfolding weighed plus
returns-in-Received c = elim c.if-t.branch [ then-t w ↦ simp (w.out-is, w.if-t.true, c.in-Received.is) | else-t w ↦ simp (w.out-is, w.if-t.false, c.in-Received.is) ]

pub returns-in-ResendQueued : goal.returns-in-ResendQueued
unfolding weighed plus
returns-in-ResendQueued c = elim c.if-t.branch [ then-t w ↦ simp (w.out-is, w.if-t.true, c.in-ResendQueued.is) | else-t w ↦ simp (w.out-is, w.if-t.false, c.in-ResendQueued.is) ]
