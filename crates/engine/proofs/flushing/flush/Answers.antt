-- By the verdict; a call that passes is given a sound state, whose count is within its size.
use Rattle.std.proofs.Common.{sym, Ok}
use Rattle.engine.specs.Flushing.{flush_of}
use Rattle.engine.specs.Gates.{timed-passed}
use Rattle.engine.proofs.flushing.flush.Goals as goal

pub flushed_state-requires : goal.flushed_state-requires
flushed_state-requires c = (timed-passed c.args.s c.args.slot c.args.time (Ok tt) (sym c.in-Ok.ensures)).0.at.fine.packet-count

pub returns-in-Err-clause-value : goal.returns-in-Err-clause-value
unfolding flush_of
returns-in-Err-clause-value c = simp (sym c.in-Err.ensures, c.refused.ensures)

pub returns-in-Ok-clause-value : goal.returns-in-Ok-clause-value
unfolding flush_of
returns-in-Ok-clause-value c = simp (sym c.in-Ok.ensures, c.done.ensures, c.flushed_state.ensures)
