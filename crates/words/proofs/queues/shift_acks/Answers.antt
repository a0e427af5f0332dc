-- The run comes back without its first.
use Rattle.words.specs.Put.{acks-shift}
use Rattle.words.proofs.queues.shift_acks.Goals as goal

pub returns : goal.returns
returns c = let a = c.args in
    acks-shift a.words.now c.told-words c.shift.new.part a.slot c.requires c.shift.ensures
