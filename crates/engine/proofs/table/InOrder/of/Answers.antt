-- From the first cell on.
use Rattle.engine.specs.InOrder.{packets_left}
use Rattle.engine.proofs.table.InOrder.of.Goals as goal

pub returns : goal.returns
unfolding packets_left
returns c = simp c.first_cell-at.ensures.value
