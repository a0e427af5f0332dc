-- What every state that a caller holds is. Assumes nothing.
use Rattle.engine.specs.declared.state.State.{State}
use Rattle.engine.specs.Sound.{Sound, Shaped}

-- sound, and of the lengths and ranges that a state's types say
pub record Good (s : State) : Type 0 where
  pub shaped : Shaped s
  pub sound : Sound s
