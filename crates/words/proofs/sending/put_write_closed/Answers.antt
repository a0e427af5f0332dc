-- One word.
use Rattle.words.specs.OneWord.{write-closed-put}
use Rattle.words.proofs.sending.put_write_closed.Goals as goal

pub returns : goal.returns
returns c = rw c.flag.ensures (write-closed-put c.args.words.now c.requires c.args.set)
