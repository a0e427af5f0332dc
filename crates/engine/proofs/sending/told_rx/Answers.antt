-- One count changes.
use Rattle.engine.specs.Sending.{told_rx}
use Rattle.engine.proofs.sending.told_rx.Goals as goal

pub returns : goal.returns
unfolding told_rx
returns c = simp c.count.ensures
