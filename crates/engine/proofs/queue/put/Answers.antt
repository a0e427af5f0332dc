-- Only a queued packet's number is put in.
use Rattle.engine.specs.Queue.{put_in}
use Rattle.std.proofs.Common.{sym}
use Rattle.engine.proofs.queue.put.Goals as goal

pub returns-then-not-is_queued : goal.returns-then-not-is_queued
unfolding put_in
returns-then-not-is_queued c = simp (sym c.is_queued.ensures, c.if-not-is_queued.true)

pub returns : goal.returns
unfolding put_in
returns c = simp (sym c.is_queued.ensures, c.if-not-is_queued.false)
