-- A fresh state with a link added.
use Rattle.replaying.specs.Session.{begun}
use Rattle.replaying.proofs.session.begin.Goals as goal

pub returns : goal.returns
unfolding begun
returns c = let fresh = c.fresh-made.ensures in
    record { value = simp (c.add-added.ensures.value, fresh.value); records_after = fresh.records_after }
