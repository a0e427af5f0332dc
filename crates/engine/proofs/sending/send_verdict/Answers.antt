-- The gates, in the order of the definition.
use Rattle.std.proofs.Common.{arith}
use Rattle.std.proofs.lemmas.Grind.{common_steps}
use Rattle.engine.specs.Gates.{timed_verdict}
use Rattle.engine.specs.Sending.{send_verdict}
use Rattle.engine.proofs.sending.send_verdict.Goals as goal

pub returns-in_err-refuse_unless : goal.returns-in_err-refuse_unless
unfolding send_verdict timed_verdict
returns-in_err-refuse_unless c = grind (arith, common_steps)

pub returns-in_err-timed_gates : goal.returns-in_err-timed_gates
unfolding send_verdict timed_verdict
returns-in_err-timed_gates c = grind (arith, common_steps)

pub returns-in_err-refuse_unless-2 : goal.returns-in_err-refuse_unless-2
unfolding send_verdict timed_verdict
returns-in_err-refuse_unless-2 c = grind (arith, common_steps)

pub returns-in_err-refuse_unless-3 : goal.returns-in_err-refuse_unless-3
unfolding send_verdict timed_verdict
returns-in_err-refuse_unless-3 c = grind (arith, common_steps)

pub returns-in_err-refuse_unless-4 : goal.returns-in_err-refuse_unless-4
unfolding send_verdict timed_verdict
returns-in_err-refuse_unless-4 c = grind (arith, common_steps)

pub returns : goal.returns
unfolding send_verdict timed_verdict
returns c = grind (arith, common_steps)
