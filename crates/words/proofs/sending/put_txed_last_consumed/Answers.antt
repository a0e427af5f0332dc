-- One word.
use Rattle.words.specs.OneWord.{last-consumed-put}
use borrow.Author.Rules.{rules}
use Rattle.words.proofs.sending.put_txed_last_consumed.Goals as goal

pub returns : goal.returns
returns c = rw c.from.ensures (last-consumed-put c.args.words.now c.told-words c.args.seq (search rules))
