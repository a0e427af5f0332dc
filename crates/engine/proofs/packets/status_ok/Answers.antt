-- Each arm knows which status it is in.
use Rattle.std.proofs.Common.{arith}
use Rattle.std.proofs.lemmas.Grind.{common_steps}
use Rattle.engine.specs.Tally.{status_ok}
use Rattle.engine.proofs.packets.status_ok.Goals as goal

pub returns-then-flight-time : goal.returns-then-flight-time
unfolding status_ok
returns-then-flight-time c = grind (arith, common_steps)

pub returns-else-flight-time : goal.returns-else-flight-time
unfolding status_ok
returns-else-flight-time c = grind (arith, common_steps)

pub returns-in-Received : goal.returns-in-Received
unfolding status_ok
returns-in-Received c = grind (arith, common_steps)

pub returns-in-ResendQueued : goal.returns-in-ResendQueued
unfolding status_ok
returns-in-ResendQueued c = grind (arith, common_steps)
