-- The three numbers that a sweep changes.
use Rattle.engine.specs.Acking.{swept_tx}
use Rattle.sending_in_place.proofs.acking.sweep.Goals as goal

pub returns : goal.returns
unfolding swept_tx
returns c = rw (c.put_txed_unconsumable.ensures, c.put_txed_last_consumed.ensures, c.put_txed_count.ensures, c.swept-tx.ensures)
