-- By the test.
use borrow.Author.Tests.{le-leb, lt-leb}
use Rattle.runs.proofs.given.slot_of.Goals as goal

pub returns-then-word-le255 : goal.returns-then-word-le255
returns-then-word-le255 c = simp (le-leb _ _ c.if-word-le255.true)

pub returns : goal.returns
returns c = simp (lt-leb _ _ c.if-word-le255.false)
