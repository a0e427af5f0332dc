-- By the length of the records.
use borrow.Author.Tests.{eq-eqb, ne_eqb}
use Rattle.runs.specs.Runs.{readyb}
use Rattle.runs.proofs.running.is_ready.Goals as goal

pub returns-then-records-rx : goal.returns-then-records-rx
unfolding readyb
returns-then-records-rx c = let long = eq-eqb _ _ (rw c.rx_of-rx.ensures at c.if-records-rx.true) in simp long c.is_sound_with.ensures

pub returns : goal.returns
unfolding readyb
returns c = let long = ne_eqb _ _ (rw c.rx_of-rx.ensures at c.if-records-rx.false) in simp long c.is_sound.ensures
