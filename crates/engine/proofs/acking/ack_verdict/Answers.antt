-- The gate of its own, after those of every call on a slot at a time.
use Rattle.std.proofs.Common.{arith}
use Rattle.std.proofs.lemmas.Grind.{common_steps}
use Rattle.engine.specs.Acking.{ack_verdict}
use Rattle.engine.specs.Gates.{timed_verdict}
use Rattle.engine.proofs.acking.ack_verdict.Goals as goal

pub returns-in_err-timed_gates : goal.returns-in_err-timed_gates
unfolding ack_verdict timed_verdict
returns-in_err-timed_gates c = grind (arith, common_steps)

pub returns : goal.returns
unfolding ack_verdict timed_verdict
returns c = grind (arith, common_steps)
