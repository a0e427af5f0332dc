-- As it is written there.
use Rattle.engine.specs.Starting.{fresh_tx}
use Rattle.links_in_place.proofs.fresh.fresh_numbers.Goals as goal

pub returns : goal.returns
unfolding fresh_tx
returns c = simp c.sub.ensures
