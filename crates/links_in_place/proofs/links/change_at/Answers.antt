-- Its row and the time are changed where the slot holds a link.
use Rattle.std.proofs.Common.{arith}
use Rattle.std.proofs.lemmas.Grind.{common_steps}
use Rattle.engine.specs.Gates.{slot_verdict, timed_verdict}
use Rattle.links_in_place.proofs.links.change_at.Goals as goal

pub returns-in_err-refuse_unless-clause-value : goal.returns-in_err-refuse_unless-clause-value
unfolding timed_verdict
returns-in_err-refuse_unless-clause-value g c = let judged = c.requires.ready.judged in grind (arith, common_steps, judged)

pub returns-in_err-change-clause-value : goal.returns-in_err-change-clause-value
unfolding timed_verdict slot_verdict
returns-in_err-change-clause-value g c = let judged = c.requires.ready.judged in grind (arith, common_steps, judged)

pub returns-clause-value : goal.returns-clause-value
unfolding timed_verdict slot_verdict
returns-clause-value g c = let judged = c.requires.ready.judged in grind (arith, common_steps, judged)
