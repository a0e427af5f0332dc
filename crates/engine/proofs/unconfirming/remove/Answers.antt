-- By the verdict; a call that passes is given a sound state, whose count is within its size.
use Rattle.std.proofs.Common.{sym}
use Rattle.engine.specs.Unconfirming.{remove_of}
use Rattle.engine.specs.Gates.{slot-passed}
use Rattle.engine.proofs.unconfirming.remove.Goals as goal

pub removed_state-requires : goal.removed_state-requires
removed_state-requires c = (slot-passed c.args.s c.args.slot (sym c.in-Ok.ensures)).fine.packet-count

pub returns-in-Err-clause-value : goal.returns-in-Err-clause-value
unfolding remove_of
returns-in-Err-clause-value c = simp (sym c.in-Err.ensures, c.refused.ensures)

pub returns-in-Ok-clause-value : goal.returns-in-Ok-clause-value
unfolding remove_of
returns-in-Ok-clause-value c = simp (sym c.in-Ok.ensures, c.done.ensures, c.removed_state.ensures)
