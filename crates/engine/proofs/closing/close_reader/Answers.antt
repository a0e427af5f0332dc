-- One gate, and the fact set.
use Rattle.std.proofs.Common.{arith}
use Rattle.std.proofs.lemmas.Grind.{common_steps}
use Rattle.engine.specs.Closing.{close_of}
use Rattle.engine.proofs.closing.close_reader.Goals as goal

pub returns-clause-value : goal.returns-clause-value
unfolding close_of
returns-clause-value c = grind (arith, common_steps)
