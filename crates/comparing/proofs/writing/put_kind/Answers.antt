-- The count of a kind is put as a number.
use Rattle.comparing.proofs.writing.put_kind.Goals as goal

pub returns : goal.returns
returns c = rw c.count_kind.ensures at c.put_count.ensures
