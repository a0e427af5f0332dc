-- The run of the row comes back as its words.
use Rattle.words.specs.Encoded.{small-limit}
use Rattle.words.specs.Put.{row_put}
use borrow.Author.Rules.{rules}
use Rattle.words.proofs.row.put_row.Goals as goal

pub returns : goal.returns
returns c = let a = c.args in
    row_put a.words.now c.told-words c.write_row.new.part a.slot a.row c.requires (search rules) (small-limit a.row.limit_increased c.write_row.ensures.limit_increased_bound) c.write_row.ensures.part_after
