-- Both bounds.
use Rattle.std.proofs.Common.{le-leb}
use borrow.Author.Tests.{lt-leb}
use Rattle.engine.specs.Rows.{time_ok}
use Rattle.words.proofs.gates.time_ok.Goals as goal

pub returns-then-time-at : goal.returns-then-time-at
unfolding time_ok
returns-then-time-at c = simp (← c.time.ensures, le-leb _ _ c.if-time-at.true)

pub returns-else-time-at : goal.returns-else-time-at
unfolding time_ok
returns-else-time-at c = simp (← c.time.ensures, lt-leb _ _ c.if-time-at.false)
