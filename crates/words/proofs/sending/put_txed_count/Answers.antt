-- One word.
use Rattle.words.specs.OneWord.{txed-count-put}
use Rattle.words.proofs.sending.put_txed_count.Goals as goal

pub returns : goal.returns
returns c = txed-count-put c.args.words.now c.told-words c.args.n
