-- The run comes back as words of 0.
use Rattle.links_in_place.specs.Adding.{acks-cleared}
use Rattle.links_in_place.proofs.adding.clear_acks.Goals as goal

pub returns : goal.returns
returns c = let a = c.args in
    acks-cleared a.words.now c.told-words a.slot c.requires c.empty_records.new.records c.empty_records.ensures
