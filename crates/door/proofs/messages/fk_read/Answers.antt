-- By what was read.
use mathlib.Core.Path.{refl, sym, ◌∙◌}
use Rattle.door.proofs.messages.fk_read.Goals as goal

pub returns-in-Err : goal.returns-in-Err
returns-in-Err c = simp (sym c.read-reading.ensures.value ∙ c.in-Err.is) record { value = c.refused.ensures; values_after = refl }

pub returns-in-Ok : goal.returns-in-Ok
returns-in-Ok c = simp (sym c.read-reading.ensures.value ∙ c.in-Ok.is) record { value = refl; values_after = c.say.ensures }
