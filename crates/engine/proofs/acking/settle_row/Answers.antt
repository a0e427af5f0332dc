-- Only a packet that was Sent over the slot counts.
use Rattle.std.proofs.Common.{inl, inr, eq-eqb, ne_eqb}
use Rattle.engine.specs.Acking.{settled_row_as}
use Rattle.engine.proofs.acking.settle_row.Goals as goal

pub returns-then-flight-slot : goal.returns-then-flight-slot
unfolding settled_row_as
returns-then-flight-slot c = simp (c.in-Sent.is, ne_eqb _ _ c.if-flight-slot.true)

pub returns-else-flight-slot : goal.returns-else-flight-slot
unfolding settled_row_as
returns-else-flight-slot c = simp (c.in-Sent.is, eq-eqb _ _ c.if-flight-slot.false, c.trip.ensures, c.with_unacked.ensures, c.saturating_sub-bytes.ensures)

pub returns-in-Received : goal.returns-in-Received
unfolding settled_row_as
returns-in-Received c = elim c.in-Received.is [ inl e ↦ simp e | inr e ↦ simp e.1 ]
