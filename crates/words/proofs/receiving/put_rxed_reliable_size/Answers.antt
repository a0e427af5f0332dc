-- One word.
use Rattle.words.specs.OneWord.{untaken-put}
use borrow.Author.Rules.{rules}
use Rattle.words.proofs.receiving.put_rxed_reliable_size.Goals as goal

pub returns : goal.returns
returns c = rw c.from.ensures (untaken-put c.args.words.now c.told-words c.args.bytes (search rules))
