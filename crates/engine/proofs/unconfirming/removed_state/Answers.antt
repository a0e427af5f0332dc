-- Unconfirmed, and then the slot emptied.
use Rattle.engine.specs.Unconfirming.{removed_state}
use Rattle.engine.proofs.unconfirming.removed_state.Goals as goal

pub returns : goal.returns
unfolding removed_state
returns c = simp (c.with_row.ensures, c.empty.ensures, c.unconfirmed_state-alone.ensures)
