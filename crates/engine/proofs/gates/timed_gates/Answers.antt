-- The gates, in the order of their numbers.
use Rattle.std.proofs.Common.{arith}
use Rattle.std.proofs.lemmas.Grind.{common_steps}
use Rattle.engine.specs.Gates.{timed_verdict}
use Rattle.engine.proofs.gates.timed_gates.Goals as goal

pub returns-in_err-refuse_unless : goal.returns-in_err-refuse_unless
unfolding timed_verdict
returns-in_err-refuse_unless c = grind (arith, common_steps)

pub returns-in_err-refuse_unless-2 : goal.returns-in_err-refuse_unless-2
unfolding timed_verdict
returns-in_err-refuse_unless-2 c = grind (arith, common_steps)

pub returns : goal.returns
unfolding timed_verdict
returns c = grind (arith, common_steps)
