-- The gates, in the order of their numbers.
use Rattle.std.proofs.Common.{arith}
use Rattle.std.proofs.lemmas.Grind.{common_steps}
use Rattle.engine.specs.Gates.{slot_verdict}
use Rattle.engine.proofs.gates.slot_verdict.Goals as goal

pub returns-in_err-refuse_unless : goal.returns-in_err-refuse_unless
unfolding slot_verdict
returns-in_err-refuse_unless c = grind (arith, common_steps)

pub returns : goal.returns
unfolding slot_verdict
returns c = grind (arith, common_steps)
