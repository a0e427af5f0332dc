-- By the verdict; a call that passes is given a sound state, whose count is within its size.
use Rattle.std.proofs.Common.{sym}
use Rattle.engine.specs.Unconfirming.{unconfirm_of}
use Rattle.engine.specs.Gates.{slot-passed}
use Rattle.engine.proofs.unconfirming.unconfirm.Goals as goal

pub unconfirmed_state-requires : goal.unconfirmed_state-requires
unconfirmed_state-requires c = (slot-passed c.args.s c.args.slot (sym c.in-Ok.ensures)).fine.packet-count

pub returns-in-Err-clause-value : goal.returns-in-Err-clause-value
unfolding unconfirm_of
returns-in-Err-clause-value c = simp (sym c.in-Err.ensures, c.refused.ensures)

pub returns-in-Ok-clause-value : goal.returns-in-Ok-clause-value
unfolding unconfirm_of
returns-in-Ok-clause-value c = simp (sym c.in-Ok.ensures, c.done.ensures, c.unconfirmed_state.ensures)
