-- By the answer.
use mathlib.Core.Path.{◌∙◌}
use Rattle.runs.proofs.answers.tell_resent.Goals as goal

pub returns-in-Err : goal.returns-in-Err
returns-in-Err c = simp c.in-Err.is c.refused.ensures

pub returns-in-Ok : goal.returns-in-Ok
returns-in-Ok c = simp c.in-Ok.is (c.done.ensures ∙ simp (c.kind.ensures, c.count.ensures))
