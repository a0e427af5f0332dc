-- The numbers, then how many they are.
use Rattle.engine.specs.Queue.{requeued}
use Rattle.sending_in_place.proofs.queue.requeue.Goals as goal

pub returns : goal.returns
unfolding requeued
returns c = rw (c.put_tx.ensures, c.gather-resend_count.ensures.words_after) (rw (c.gather-resend_count.ensures.value, c.tx_of-tx.ensures))
