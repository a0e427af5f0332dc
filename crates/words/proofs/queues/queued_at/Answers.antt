-- The word of the place.
use mathlib.Core.Path.{sym, ◌∙◌}
use Rattle.words.specs.Read.{queued-read}
use Rattle.words.proofs.queues.queued_at.Goals as goal

pub returns : goal.returns
returns c = c.seq_word.ensures ∙ sym (queued-read c.args.words.now c.told-words c.args.i c.requires)
