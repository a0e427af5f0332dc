-- The words are those of a sound state.
use Rattle.engine.specs.HandingOut.{due_of}
use Rattle.links_in_place.proofs.reader.is_consume_ack_required.Goals as goal

pub returns : goal.returns
unfolding due_of
returns c = simp (c.requires.judged, c.due_above-above.ensures, c.read_open.ensures, c.rx_of-rx.ensures)
