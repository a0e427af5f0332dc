-- The gates, in the order of the definition; that of a state that is not sound is open.
use Rattle.std.proofs.Common.{arith}
use Rattle.std.proofs.lemmas.Grind.{common_steps}
use Rattle.engine.specs.Sending.{send_verdict}
use Rattle.sending_in_place.proofs.sending.send_verdict.Goals as goal

pub returns-in_err-refuse_unless : goal.returns-in_err-refuse_unless
unfolding send_verdict
returns-in_err-refuse_unless c = let judged = c.requires.judged in grind (arith, common_steps, judged)

pub returns-in_err-refuse_unless-2 : goal.returns-in_err-refuse_unless-2
unfolding send_verdict
returns-in_err-refuse_unless-2 c = let judged = c.requires.judged in grind (arith, common_steps, judged)

pub returns-in_err-refuse_unless-3 : goal.returns-in_err-refuse_unless-3
unfolding send_verdict
returns-in_err-refuse_unless-3 c = let judged = c.requires.judged in grind (arith, common_steps, judged)

pub returns-in_err-refuse_unless-4 : goal.returns-in_err-refuse_unless-4
unfolding send_verdict
returns-in_err-refuse_unless-4 c = let judged = c.requires.judged in grind (arith, common_steps, judged)

pub returns-in_err-refuse_unless-5 : goal.returns-in_err-refuse_unless-5
unfolding send_verdict
returns-in_err-refuse_unless-5 c = let judged = c.requires.judged in grind (arith, common_steps, judged)

pub returns-in_err-refuse_unless-6 : goal.returns-in_err-refuse_unless-6
unfolding send_verdict
returns-in_err-refuse_unless-6 c = let judged = c.requires.judged in grind (arith, common_steps, judged)

pub returns : goal.returns
unfolding send_verdict
returns c = let judged = c.requires.judged in grind (arith, common_steps, judged)
