-- The word is the time.
use mathlib.Core.Path.{sym}
use Rattle.words.specs.Read.{time-read}
use Rattle.words.proofs.clock.time.Goals as goal

pub returns : goal.returns
returns c = sym (time-read c.args.words.now c.requires)
