-- One word.
use Rattle.words.specs.OneWord.{unacked-data-put}
use borrow.Author.Rules.{rules}
use Rattle.words.proofs.row.put_txed_unacked_data.Goals as goal

pub returns : goal.returns
returns c = rw c.from.ensures (unacked-data-put c.args.words.now c.told-words c.args.slot c.requires c.args.bytes (search rules))
