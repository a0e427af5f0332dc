-- By the outcome.
use Rattle.replaying.proofs.lines.outcome_number.Goals as goal

pub returns-in-Err : goal.returns-in-Err
returns-in-Err c = simp (c.in-Err.is, c.number.ensures)
