-- The run of the numbers comes back as their words.
use Rattle.words.specs.Put.{tx-put}
use borrow.Author.Rules.{rules}
use Rattle.words.proofs.sending.put_tx.Goals as goal

pub returns : goal.returns
returns c = let a = c.args in
    tx-put a.words.now c.told-words c.write_tx.new.part a.tx
    (record { next = search rules; unacked = search rules; unconsumed = search rules; unconsumable = search rules; last = search rules })
    c.write_tx.ensures
