-- The first gate is open.
use Rattle.std.proofs.Common.{arith}
use Rattle.std.proofs.lemmas.Grind.{common_steps}
use Rattle.engine.specs.Gates.{slot_verdict, timed_verdict}
use Rattle.sending_in_place.proofs.gates.timed_verdict.Goals as goal

pub returns-in_err-refuse_unless : goal.returns-in_err-refuse_unless
unfolding timed_verdict
returns-in_err-refuse_unless c = let judged = c.requires.judged in grind (arith, common_steps, judged)

pub returns : goal.returns
unfolding timed_verdict slot_verdict
returns c = let judged = c.requires.judged in grind (arith, common_steps, judged)
