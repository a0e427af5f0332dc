-- By the verdict.
use Rattle.std.proofs.Common.{arith}
use Rattle.std.proofs.lemmas.Grind.{common_steps}
use Rattle.engine.specs.Deadlines.{earliest_confirm_timeout_of}
use Rattle.engine.proofs.deadlines.earliest_confirm_timeout.Goals as goal

pub returns-in_err-confirm_timeout_verdict-clause-value : goal.returns-in_err-confirm_timeout_verdict-clause-value
unfolding earliest_confirm_timeout_of
returns-in_err-confirm_timeout_verdict-clause-value c = grind (arith, common_steps)

pub returns-clause-value : goal.returns-clause-value
unfolding earliest_confirm_timeout_of
returns-clause-value c = grind (arith, common_steps)
