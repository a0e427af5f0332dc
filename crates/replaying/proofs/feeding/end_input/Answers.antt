-- By what the replay waits for then.
use mathlib.Core.Path.{sym, ◌∙◌, ap}
use Rattle.replaying.specs.Taking.{recorded, ended}
use Rattle.replaying.specs.Line.{left, ended-left}
use Rattle.replaying.specs.Feeding.{absent_as, absent_of, last_of}
use Rattle.replaying.proofs.feeding.end_input.Goals as goal

pub returns-in-None : goal.returns-in-None
unfolding absent_of last_of
returns-in-None c = let last = c.last_line-said in
    let l = left last.result last.new.store last.new.records in
    sym (ap (λ w. absent_as w l) c.in-None.is) ∙ ap absent_of last.ensures

pub returns-in-Some : goal.returns-in-Some
unfolding absent_of last_of
returns-in-Some c = let last = c.last_line-said in
    let l = left last.result last.new.store last.new.records in
    let h = recorded last.result.replay.state last.new.records in
    let end = c.end_frame.ensures in
    ended-left 20 h l.store (end.value ∙ ap (λ n. ended n h) c.number.ensures) end.records_after ∙ sym (ap (λ w. absent_as w l) c.in-Some.is) ∙ ap absent_of last.ensures
