-- The first word of the run.
use mathlib.Core.Path.{sym, ◌∙◌}
use Rattle.words.specs.Read.{ack-read}
use Rattle.words.proofs.queues.first_ack.Goals as goal

pub returns : goal.returns
returns c = c.seq_word.ensures ∙ sym (ack-read c.args.words.now c.told-words c.args.slot c.requires)
