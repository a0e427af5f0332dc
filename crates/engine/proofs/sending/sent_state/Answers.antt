-- The row, the two halves and the time, each by its own promise.
use Rattle.engine.specs.Sending.{sent_state}
use Rattle.engine.proofs.sending.sent_state.Goals as goal

pub returns : goal.returns
unfolding sent_state
returns c = simp (c.told_rx.ensures, c.sent_tx.ensures, c.with_row.ensures, c.with_unacked-next.ensures, c.row_of-row.ensures)
