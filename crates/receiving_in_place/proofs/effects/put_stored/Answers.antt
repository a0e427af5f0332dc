-- Each field by its own promise.
use Rattle.receiving_in_place.proofs.effects.put_stored.Goals as goal

pub returns : goal.returns
returns c = rw (c.put_rx_end.ensures, c.put_rxed_reliable_size.ensures, c.put_rx_oldest.ensures, c.put_rx_seq.ensures)
