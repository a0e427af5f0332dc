-- By the number of the refusal.
use Rattle.runs.proofs.answers.refused.Goals as goal

pub returns : goal.returns
returns c = simp c.number.ensures
