-- The word is the flag.
use mathlib.Core.Path.{sym, ◌∙◌}
use Rattle.words.specs.Read.{reader-read}
use Rattle.words.proofs.clock.read_open.Goals as goal

pub returns : goal.returns
returns c = c.is_set.ensures ∙ sym (reader-read c.args.words.now c.told-words)
