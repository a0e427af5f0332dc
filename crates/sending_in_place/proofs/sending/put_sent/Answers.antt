-- The row, the two halves and the time, each by its own promise.
use Rattle.engine.specs.Rows.{row-of}
use Rattle.engine.specs.Sending.{sent_state}
use Rattle.words.specs.Meaning.{state_of}
use Rattle.sending_in_place.proofs.sending.put_sent.Goals as goal

pub put_more-requires : goal.put_more-requires
put_more-requires c =
    (c.requires.0, rw (row-of (state_of c.args.words.now) c.args.slot c.requires.0) at c.requires.2.link_fits)

pub put_next-requires : goal.put_next-requires
put_next-requires c =
    (c.requires.1, rw c.put_more.ensures c.requires.2.places, rw c.put_more.ensures c.requires.2.unacked-fits, rw c.put_more.ensures c.requires.2.unconsumed-fits)

pub put_told-requires : goal.put_told-requires
put_told-requires c =
    rw (c.put_next.ensures, c.put_more.ensures) c.requires.2.told

pub returns : goal.returns
unfolding sent_state
returns c =
    rw (c.put_time.ensures, c.put_told.ensures, c.put_next.ensures, c.put_more.ensures) (rw (c.row_of-link.ensures, row-of (state_of c.args.words.now) c.args.slot c.requires.0))
