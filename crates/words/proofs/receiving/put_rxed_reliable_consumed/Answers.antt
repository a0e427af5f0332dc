-- One word.
use Rattle.words.specs.OneWord.{untold-put}
use borrow.Author.Rules.{rules}
use Rattle.words.proofs.receiving.put_rxed_reliable_consumed.Goals as goal

pub returns : goal.returns
returns c = rw c.from.ensures (untold-put c.args.words.now c.told-words c.args.bytes (search rules))
