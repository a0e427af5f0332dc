-- By the type.
use borrow.Author.Rules.{rules}
use Rattle.runs.proofs.running.each_fits.Goals as goal

pub returns : goal.returns
returns c = λ i. search rules
