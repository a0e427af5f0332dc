-- One word.
use Rattle.words.specs.OneWord.{rx-seq-put}
use borrow.Author.Rules.{rules}
use Rattle.words.proofs.receiving.put_rx_seq.Goals as goal

pub returns : goal.returns
returns c = rw c.from.ensures (rx-seq-put c.args.words.now c.told-words c.args.seq (search rules))
