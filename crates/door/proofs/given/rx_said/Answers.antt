-- Words of another length say a half that is all 0.
use borrow.Author.Tests.{ne_eqb}
use Rattle.words.specs.Meaning.{state_of, decoded, rx_of}
use Rattle.door.proofs.given.rx_said.Goals as goal

pub returns-in_default : goal.returns-in_default
unfolding state_of decoded rx_of
returns-in_default c = simp (ne_eqb _ _ c.in_default.ensures.cases)

pub returns : goal.returns
returns c = rw c.in-Some.ensures.cases.same at c.rx_of.ensures
