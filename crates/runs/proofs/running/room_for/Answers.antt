-- By the test.
use borrow.Author.Tests.{le-leb, lt-leb}
use Rattle.runs.proofs.running.room_for.Goals as goal

pub returns-then-asked-room : goal.returns-then-asked-room
returns-then-asked-room c = simp (le-leb _ _ c.if-asked-room.true)

pub returns-else-asked-room : goal.returns-else-asked-room
returns-else-asked-room c = simp (lt-leb _ _ c.if-asked-room.false)
