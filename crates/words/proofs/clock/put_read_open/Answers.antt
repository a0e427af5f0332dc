-- One word.
use Rattle.words.specs.Put.{reader-put}
use Rattle.words.proofs.clock.put_read_open.Goals as goal

pub returns : goal.returns
returns c = rw c.flag.ensures (reader-put c.args.words.now c.told-words c.args.reads)
