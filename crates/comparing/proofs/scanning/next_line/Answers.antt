-- A line feed follows, or the end.
use borrow.Author.Tests.{lt-ltb, le-ltb}
use Rattle.comparing.specs.Scanning.{next_line}
use Rattle.comparing.proofs.scanning.next_line.Goals as goal

pub returns-then-end-input : goal.returns-then-end-input
unfolding next_line
returns-then-end-input c = simp (lt-ltb _ _ c.if-end-input.true)

pub returns-else-end-input : goal.returns-else-end-input
unfolding next_line
returns-else-end-input c = simp (le-ltb _ _ c.if-end-input.false)
