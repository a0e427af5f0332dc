-- One word of the run.
use Rattle.words.specs.Put.{ack-put}
use borrow.Author.Rules.{rules}
use Rattle.words.proofs.queues.put_ack.Goals as goal

pub returns : goal.returns
returns c = let a = c.args in
    ack-put a.words.now c.told-words c.write_word.new.part a.slot a.i a.seq c.requires.0 (search rules) c.write_word.ensures
