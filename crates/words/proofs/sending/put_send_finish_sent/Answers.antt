-- One word.
use Rattle.words.specs.OneWord.{finish-sent-put}
use Rattle.words.proofs.sending.put_send_finish_sent.Goals as goal

pub returns : goal.returns
returns c = rw c.flag.ensures (finish-sent-put c.args.words.now c.told-words c.args.set)
