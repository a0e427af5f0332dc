-- The run of the half comes back as its words.
use Rattle.words.specs.Put.{rx-put}
use borrow.Author.Rules.{rules}
use Rattle.words.proofs.receiving.put_rx.Goals as goal

pub returns : goal.returns
returns c = let a = c.args in
    rx-put a.words.now c.told-words c.write_rx.new.part a.rx
    (record { expected = search rules; oldest = search rules; size = search rules; untold = search rules; buffer = search rules; cells = search rules; end = search rules })
    c.write_rx.ensures
