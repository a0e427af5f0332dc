-- The three tests, joined.
use Rattle.std.proofs.Common.{arith}
use Rattle.std.proofs.lemmas.Grind.{common_steps}
use Rattle.engine.specs.Tally.{packet_ok}
use Rattle.engine.proofs.packets.packet_ok.Goals as goal

pub returns-then-length_ok : goal.returns-then-length_ok
unfolding packet_ok
returns-then-length_ok c = grind (arith, common_steps)

pub returns-else-length_ok : goal.returns-else-length_ok
unfolding packet_ok
returns-else-length_ok c = grind (arith, common_steps)
