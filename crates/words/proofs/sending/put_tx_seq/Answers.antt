-- One word.
use Rattle.words.specs.OneWord.{tx-seq-put}
use borrow.Author.Rules.{rules}
use Rattle.words.proofs.sending.put_tx_seq.Goals as goal

pub returns : goal.returns
returns c = rw c.from.ensures (tx-seq-put c.args.words.now c.told-words c.args.seq (search rules))
