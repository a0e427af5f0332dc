-- The run of the row comes back with those words.
use Rattle.words.specs.Encoded.{small-limit}
use Rattle.words.specs.Put.{acked-put}
use borrow.Author.Rules.{rules}
use Rattle.words.proofs.row.put_acked.Goals as goal

pub returns : goal.returns
returns c = let a = c.args in
    acked-put a.words.now c.told-words c.write_acked.new.part a.slot a.row c.requires (search rules) (small-limit a.row.limit_increased c.write_acked.ensures.limit_increased_bound) c.write_acked.ensures.part_after
