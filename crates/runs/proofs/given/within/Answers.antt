-- By the test.
use borrow.Author.Tests.{le-leb, lt-leb}
use Rattle.runs.specs.Asked.{withinb}
use Rattle.runs.proofs.given.within.Goals as goal

pub returns-then-all-from : goal.returns-then-all-from
unfolding withinb
returns-then-all-from c = simp (lt-leb _ _ c.if-all-from.true)

pub returns : goal.returns
unfolding withinb
returns c = simp (le-leb _ _ c.if-all-from.false)
