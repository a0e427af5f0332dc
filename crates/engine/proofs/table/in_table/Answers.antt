-- Both tests of how far back the number is.
use Rattle.std.proofs.Common.{arith}
use Rattle.std.proofs.lemmas.Grind.{common_steps}
use Rattle.engine.specs.Table.{in_table}
use Rattle.engine.proofs.table.in_table.Goals as goal

pub returns-then-back-ge1 : goal.returns-then-back-ge1
unfolding in_table
returns-then-back-ge1 c = grind (arith, common_steps)

pub returns-else-back-ge1 : goal.returns-else-back-ge1
unfolding in_table
returns-else-back-ge1 c = grind (arith, common_steps)
