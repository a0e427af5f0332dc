-- The sweep's three findings take their places.
use Rattle.engine.specs.Acking.{swept_tx}
use Rattle.engine.proofs.acking.sweep.Goals as goal

pub returns : goal.returns
unfolding swept_tx
returns c = simp c.swept-front.ensures
