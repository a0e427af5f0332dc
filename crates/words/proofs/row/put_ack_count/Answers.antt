-- One word.
use Rattle.words.specs.OneWord.{ack-count-put}
use Rattle.words.proofs.row.put_ack_count.Goals as goal

pub returns : goal.returns
returns c = ack-count-put c.args.words.now c.told-words c.args.slot c.requires c.args.n
