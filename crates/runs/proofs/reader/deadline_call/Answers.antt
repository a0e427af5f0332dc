-- What the words say is what is asked.
use mathlib.Core.Path.{refl}
use Rattle.runs.specs.Bridges.{deadline-did}
use Rattle.runs.proofs.reader.deadline_call.Goals as goal

pub returns : goal.returns
returns c = let e = rw c.is_set-unreliable.ensures at c.earliest_confirm_timeout.ensures in
    deadline-did _ _ _ _ _ _ refl c.tell_timeout.ensures e
