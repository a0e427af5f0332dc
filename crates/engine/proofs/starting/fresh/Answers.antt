-- The state that comes with a refusal is not sound.
use Rattle.engine.specs.Starting.{refused-unsound}
use Rattle.engine.proofs.starting.fresh.Goals as goal

pub returns-in-Err-clause-refused_unsound : goal.returns-in-Err-clause-refused_unsound
returns-in-Err-clause-refused_unsound c = λ e h. rw c.fresh_state.ensures (refused-unsound c.args.start.0)
