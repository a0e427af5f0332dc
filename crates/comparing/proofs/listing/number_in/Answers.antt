-- The code computes the number as its definition does.
use borrow.Author.Rules.{rules}
use Rattle.comparing.specs.Words.{number_in}
use Rattle.comparing.proofs.listing.number_in.Goals as goal

pub returns : goal.returns
unfolding number_in
returns c = search rules
