-- Words of another length list none.
use mathlib.Core.Path.{sym}
use borrow.Author.Tests.{ne_eqb}
use Rattle.words.specs.Meaning.{state_of}
use Rattle.door.specs.Slowness.{none-listed}
use Rattle.door.proofs.slowness.slow_said.Goals as goal

pub returns-in_default : goal.returns-in_default
unfolding state_of
returns-in_default c = simp (ne_eqb _ _ c.in_default.ensures.cases) (sym none-listed)

pub returns : goal.returns
returns c = rw c.in-Some.ensures.cases.same at c.slow.ensures
