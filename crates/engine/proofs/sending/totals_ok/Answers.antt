-- The four tests, joined.
use Rattle.std.proofs.Common.{arith}
use Rattle.std.proofs.lemmas.Grind.{common_steps}
use Rattle.engine.specs.Sending.{totals_ok}
use Rattle.engine.proofs.sending.totals_ok.Goals as goal

pub returns-then-sum_fits-3 : goal.returns-then-sum_fits-3
unfolding totals_ok
returns-then-sum_fits-3 c = grind (arith, common_steps)

pub returns-else-sum_fits-3 : goal.returns-else-sum_fits-3
unfolding totals_ok
returns-else-sum_fits-3 c = grind (arith, common_steps)
