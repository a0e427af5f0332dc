-- One word.
use Rattle.words.specs.OneWord.{rx-oldest-put}
use borrow.Author.Rules.{rules}
use Rattle.words.proofs.receiving.put_rx_oldest.Goals as goal

pub returns : goal.returns
returns c = rw c.from.ensures (rx-oldest-put c.args.words.now c.told-words c.args.seq (search rules))
