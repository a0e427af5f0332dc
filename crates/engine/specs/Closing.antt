-- Request [4]: "the fact that the reader is open, true at the start, and a call that closes it for good; closing twice is accepted and
-- changes nothing." Assumes nothing.
use Rattle.std.specs.Prelude.{false}
use Rattle.engine.specs.declared.state.State.{State}
use Rattle.engine.specs.declared.answer.Changed.{Changed}
use Rattle.engine.specs.Answer.{changed_by}
use Rattle.engine.specs.Gates.{state_verdict}
use Rattle.engine.specs.Fields.{with_reader}

-- the state with its reader closed
abbrev pub closed_state : State → State
closed_state s = with_reader s false

unfoldable pub close_of : State → Changed
close_of s = changed_by (state_verdict s) s (closed_state s)
