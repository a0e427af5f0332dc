-- What the passes find is the decision.
use Rattle.std.proofs.Common.{◌∙◌}
use Rattle.engine.specs.Decided.{found-same}
use Rattle.engine.proofs.Shapes.{shaped}
use Rattle.engine.proofs.sound.is_sound.Goals as goal

pub returns : goal.returns
returns c = c.found_sound.ensures ∙ found-same c.args.s (shaped c.args.s c.well_formed.0)
