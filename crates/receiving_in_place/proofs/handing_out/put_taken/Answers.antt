-- Each field by its own promise.
use Rattle.receiving_in_place.proofs.handing_out.put_taken.Goals as goal

pub returns : goal.returns
returns c = rw (c.put_rxed_reliable_consumed.ensures, c.put_rxed_reliable_size.ensures, c.put_rx_oldest.ensures)
