-- One word of the run.
use Rattle.words.specs.Put.{queued-put}
use borrow.Author.Rules.{rules}
use Rattle.words.proofs.queues.put_queued.Goals as goal

pub returns : goal.returns
returns c = let a = c.args in
    queued-put a.words.now c.told-words c.write_word.new.part a.i a.seq (search rules) c.write_word.ensures
