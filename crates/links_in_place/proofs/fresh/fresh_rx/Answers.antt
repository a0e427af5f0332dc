-- As it is written there.
use mathlib.Core.Path.{refl}
use Rattle.engine.specs.Starting.{fresh_rx}
use Rattle.links_in_place.proofs.fresh.fresh_rx.Goals as goal

pub returns : goal.returns
unfolding fresh_rx
returns c = refl
