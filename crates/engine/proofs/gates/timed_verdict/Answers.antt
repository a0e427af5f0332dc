-- The call's own gates, after those of every call on a slot at a time.
use Rattle.std.proofs.Common.{arith}
use Rattle.std.proofs.lemmas.Grind.{common_steps}
use Rattle.engine.specs.Gates.{timed_verdict}
use Rattle.engine.proofs.gates.timed_verdict.Goals as goal

pub returns-in_err-timed_gates : goal.returns-in_err-timed_gates
unfolding timed_verdict
returns-in_err-timed_gates c = grind (arith, common_steps)

pub returns : goal.returns
unfolding timed_verdict
returns c = grind (arith, common_steps)
