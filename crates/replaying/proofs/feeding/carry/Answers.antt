-- A byte that has room is carried, any other dropped.
use Rattle.replaying.specs.Feeding.{line_with, count_with}
use borrow.Author.Tests.{lt-ltb, le-ltb}
use Rattle.replaying.proofs.feeding.carry.Goals as goal

pub returns-then-count-lt-MAX_LINE : goal.returns-then-count-lt-MAX_LINE
unfolding line_with count_with
returns-then-count-lt-MAX_LINE c = record { value = simp (lt-ltb _ _ c.if-count-lt-MAX_LINE.true); line_after = simp (lt-ltb _ _ c.if-count-lt-MAX_LINE.true) }

pub returns : goal.returns
unfolding line_with count_with
returns c = record { value = simp (le-ltb _ _ c.if-count-lt-MAX_LINE.false); line_after = simp (le-ltb _ _ c.if-count-lt-MAX_LINE.false) }
