-- Each arm knows which status it is in.
use borrow.Author.Tests.{eq-eqb, ne_eqb}
use Rattle.engine.specs.Acking.{received_tx, settled_tx_as}
use Rattle.sending_in_place.proofs.acking.settle_tx.Goals as goal

pub requeue-requires : goal.requeue-requires
unfolding received_tx
requeue-requires c =
    rw c.settle_packet-in-ResendQueued.ensures c.requires.2

pub returns-then-flight-slot : goal.returns-then-flight-slot
unfolding settled_tx_as
returns-then-flight-slot c = simp (c.in-Sent.is, eq-eqb _ _ c.if-flight-slot.true, c.settle_packet.ensures)

pub returns-else-flight-slot : goal.returns-else-flight-slot
unfolding settled_tx_as
returns-else-flight-slot c = simp (c.in-Sent.is, ne_eqb _ _ c.if-flight-slot.false)

pub returns-in-Received : goal.returns-in-Received
unfolding settled_tx_as
returns-in-Received c = simp c.in-Received.is

pub returns-in-ResendQueued : goal.returns-in-ResendQueued
unfolding settled_tx_as
returns-in-ResendQueued c = simp c.in-ResendQueued.is (rw (c.requeue.ensures, c.settle_packet-in-ResendQueued.ensures))
