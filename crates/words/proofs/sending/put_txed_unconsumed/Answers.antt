-- One word.
use Rattle.words.specs.OneWord.{txed-unconsumed-put}
use borrow.Author.Rules.{rules}
use Rattle.words.proofs.sending.put_txed_unconsumed.Goals as goal

pub returns : goal.returns
returns c = rw c.from.ensures (txed-unconsumed-put c.args.words.now c.told-words c.args.bytes (search rules))
