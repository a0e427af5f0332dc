-- The code computes the kind as its definition does.
use borrow.Author.Rules.{rules}
use Rattle.comparing.specs.Words.{kind_in}
use Rattle.comparing.proofs.listing.kind_in.Goals as goal

pub returns : goal.returns
unfolding kind_in
returns c = search rules
