-- Each arm knows which status it is in.
use Rattle.std.proofs.Common.{sym, eq-eqb, ne_eqb}
use Rattle.engine.specs.Acking.{settled_tx_as, received_tx}
use Rattle.engine.proofs.acking.settle_tx.Goals as goal

pub requeue-requires : goal.requeue-requires
unfolding received_tx
requeue-requires c = rw c.received_tx-in-ResendQueued.ensures c.requires.1

pub returns-in-Sent : goal.returns-in-Sent
unfolding settled_tx_as
returns-in-Sent c = simp (c.in-Sent.is, eq-eqb _ _ (sym c.if-slot-flight.true), c.received_tx.ensures)

pub returns-in-ResendQueued : goal.returns-in-ResendQueued
unfolding settled_tx_as
returns-in-ResendQueued c = simp (c.in-ResendQueued.is, c.requeue.ensures, c.received_tx-in-ResendQueued.ensures)

pub returns-in_default : goal.returns-in_default
unfolding settled_tx_as
returns-in_default c = simp (c.in-Sent.is, ne_eqb _ _ (λ e. c.if-slot-flight.false (sym e)))

pub returns-in_default-2 : goal.returns-in_default-2
unfolding settled_tx_as
returns-in_default-2 c = simp c.in_default.is
