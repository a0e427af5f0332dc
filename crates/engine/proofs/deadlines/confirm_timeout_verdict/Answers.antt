-- The gates, in the order of their numbers.
use Rattle.std.proofs.Common.{arith}
use Rattle.std.proofs.lemmas.Grind.{common_steps}
use Rattle.engine.specs.Deadlines.{confirm_timeout_verdict}
use Rattle.engine.proofs.deadlines.confirm_timeout_verdict.Goals as goal

pub returns-in_err-refuse_unless : goal.returns-in_err-refuse_unless
unfolding confirm_timeout_verdict
returns-in_err-refuse_unless c = grind (arith, common_steps)

pub returns : goal.returns
unfolding confirm_timeout_verdict
returns c = grind (arith, common_steps)
