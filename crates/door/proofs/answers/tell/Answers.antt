-- By the outcome.
use Rattle.door.proofs.answers.tell.Goals as goal

pub returns-in-Err : goal.returns-in-Err
returns-in-Err c = simp c.in-Err.is c.refused.ensures
