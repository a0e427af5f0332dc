-- By the outcome.
use Rattle.runs.proofs.answers.tell.Goals as goal

pub returns-in-Ok : goal.returns-in-Ok
returns-in-Ok c = simp c.in-Ok.is c.done.ensures

pub returns-in-Err : goal.returns-in-Err
returns-in-Err c = simp c.in-Err.is c.refused.ensures
