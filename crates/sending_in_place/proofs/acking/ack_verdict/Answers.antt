-- The gates, in the order of the definition; the first is open.
use Rattle.std.proofs.Common.{arith}
use Rattle.std.proofs.lemmas.Grind.{common_steps}
use Rattle.engine.specs.Gates.{timed_verdict}
use Rattle.engine.specs.Acking.{ack_verdict}
use Rattle.sending_in_place.proofs.acking.ack_verdict.Goals as goal

pub returns-in_err-timed_verdict : goal.returns-in_err-timed_verdict
unfolding ack_verdict timed_verdict
returns-in_err-timed_verdict c = let judged = c.requires.judged in grind (arith, common_steps, judged)

pub returns : goal.returns
unfolding ack_verdict timed_verdict
returns c = let judged = c.requires.judged in grind (arith, common_steps, judged)
