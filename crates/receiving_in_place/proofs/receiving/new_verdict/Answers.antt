-- The gates, in the order of the definition.
use Rattle.std.proofs.Common.{arith}
use Rattle.std.proofs.lemmas.Grind.{common_steps}
use Rattle.receiving_in_place.specs.NewVerdict.{new_verdict}
use Rattle.receiving_in_place.proofs.receiving.new_verdict.Goals as goal

pub returns-in_err-refuse_unless : goal.returns-in_err-refuse_unless
unfolding new_verdict
returns-in_err-refuse_unless c = let same = c.requires in grind (arith, common_steps, same)

pub returns-in_err-refuse_unless-2 : goal.returns-in_err-refuse_unless-2
unfolding new_verdict
returns-in_err-refuse_unless-2 c = let same = c.requires in grind (arith, common_steps, same)

pub returns-in_err-refuse_unless-3 : goal.returns-in_err-refuse_unless-3
unfolding new_verdict
returns-in_err-refuse_unless-3 c = let same = c.requires in grind (arith, common_steps, same)

pub returns-in_err-refuse_unless-4 : goal.returns-in_err-refuse_unless-4
unfolding new_verdict
returns-in_err-refuse_unless-4 c = let same = c.requires in grind (arith, common_steps, same)

pub returns : goal.returns
unfolding new_verdict
returns c = let same = c.requires in grind (arith, common_steps, same)
