-- The packet, and the two totals.
use Rattle.engine.specs.Acking.{received_tx}
use Rattle.engine.specs.Table.{with_packet}
use Rattle.engine.proofs.acking.received_tx.Goals as goal

pub returns : goal.returns
unfolding received_tx with_packet
returns c = simp (c.saturating_sub.ensures, c.with_packet.ensures, c.with_status.ensures)
