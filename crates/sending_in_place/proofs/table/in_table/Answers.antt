-- Both tests of how far back the number is.
use Rattle.std.proofs.Common.{le-leb}
use borrow.Author.Tests.{lt-leb}
use Rattle.sending_in_place.proofs.table.in_table.Goals as goal

pub returns-then-back-ge1 : goal.returns-then-back-ge1
returns-then-back-ge1 c = simp (← c.past-back.ensures, le-leb _ _ c.if-back-ge1.true)

pub returns-else-back-ge1 : goal.returns-else-back-ge1
returns-else-back-ge1 c = simp (← c.past-back.ensures, lt-leb _ _ c.if-back-ge1.false)
