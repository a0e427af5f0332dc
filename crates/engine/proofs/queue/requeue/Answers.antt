-- The gathered numbers take the queue's place.
use Rattle.engine.specs.Queue.{requeued}
use Rattle.engine.proofs.queue.requeue.Goals as goal

pub returns : goal.returns
unfolding requeued
returns c = simp (c.gather-g.ensures.numbers_value, c.gather-g.ensures.count_value)
