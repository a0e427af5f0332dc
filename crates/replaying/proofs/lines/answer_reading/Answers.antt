-- By what the line reads as.
use mathlib.Core.Path.{sym, ◌∙◌, ap}
use Rattle.replaying.specs.Taking.{recorded, ended}
use Rattle.replaying.specs.Line.{after_reading, ended-left}
use Rattle.replaying.proofs.lines.answer_reading.Goals as goal

pub returns-in-Err : goal.returns-in-Err
returns-in-Err c = let a = c.args in
    let h = recorded a.s a.records.now in
    let end = c.end_frame.ensures in
    ended-left _ h a.store.now (end.value ∙ ap (λ n. ended n h) c.number.ensures) end.records_after ∙ sym (ap (after_reading h a.store.now) c.in-Err.is)

pub returns-in-Ok : goal.returns-in-Ok
returns-in-Ok c = let a = c.args in
    c.answer_message.ensures ∙ sym (ap (after_reading (recorded a.s a.records.now) a.store.now) c.in-Ok.is)
