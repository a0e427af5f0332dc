-- One word.
use Rattle.words.specs.Put.{time-put}
use Rattle.words.proofs.clock.put_time.Goals as goal

pub returns : goal.returns
returns c = time-put c.args.words.now c.told-words c.args.time
