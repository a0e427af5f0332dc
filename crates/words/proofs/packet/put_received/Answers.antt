-- One word.
use Rattle.words.specs.OneWord.{received-put}
use Rattle.words.proofs.packet.put_received.Goals as goal

pub returns : goal.returns
returns c = received-put c.args.words.now c.told-words c.args.at c.requires
