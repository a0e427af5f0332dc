-- By the answer.
use mathlib.Core.Path.{refl}
use Rattle.door.proofs.answers.tell_resent.Goals as goal

pub returns-in-Err : goal.returns-in-Err
returns-in-Err c = simp c.in-Err.is record { value = c.refused.ensures; values_after = refl }

pub returns-in-Ok : goal.returns-in-Ok
returns-in-Ok c = simp (c.in-Ok.is, c.count.ensures, c.kind.ensures) record { value = refl; values_after = refl }
