-- The row's last word is its count.
use mathlib.Core.Path.{sym}
use Rattle.words.specs.OneWord.{ack-count-read}
use Rattle.words.proofs.row.ack_count_at.Goals as goal

pub returns : goal.returns
returns c = sym (ack-count-read c.args.words.now c.requires.0 c.args.slot c.requires.1)
