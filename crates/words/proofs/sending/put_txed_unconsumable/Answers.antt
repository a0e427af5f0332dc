-- One word.
use Rattle.words.specs.OneWord.{txed-unconsumable-put}
use borrow.Author.Rules.{rules}
use Rattle.words.proofs.sending.put_txed_unconsumable.Goals as goal

pub returns : goal.returns
returns c = rw c.from.ensures (txed-unconsumable-put c.args.words.now c.told-words c.args.bytes (search rules))
