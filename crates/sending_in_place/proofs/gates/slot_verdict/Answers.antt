-- The first gate is open.
use Rattle.engine.specs.Gates.{slot_verdict}
use Rattle.sending_in_place.proofs.gates.slot_verdict.Goals as goal

pub returns : goal.returns
unfolding slot_verdict
returns c = simp (c.refuse_unless.ensures, c.slot_ok.ensures, c.requires.judged)
