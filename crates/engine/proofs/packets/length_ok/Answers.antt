-- No length is always well; else both tests.
use Rattle.std.proofs.Common.{arith}
use Rattle.std.proofs.lemmas.Grind.{common_steps}
use Rattle.engine.specs.Tally.{length_ok}
use Rattle.engine.proofs.packets.length_ok.Goals as goal

pub returns-then-len-eq0 : goal.returns-then-len-eq0
unfolding length_ok
returns-then-len-eq0 c = grind (arith, common_steps)

pub returns-then-len-le-DATA_BYTES : goal.returns-then-len-le-DATA_BYTES
unfolding length_ok
returns-then-len-le-DATA_BYTES c = grind (arith, common_steps)

pub returns-else-len-le-DATA_BYTES : goal.returns-else-len-le-DATA_BYTES
unfolding length_ok
returns-else-len-le-DATA_BYTES c = grind (arith, common_steps)
