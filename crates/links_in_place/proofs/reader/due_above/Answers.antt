-- The two arms are the two cases.
use Rattle.links_in_place.proofs.reader.due_above.Goals as goal

pub returns-then-reads : goal.returns-then-reads
returns-then-reads c = simp c.if-reads.true
