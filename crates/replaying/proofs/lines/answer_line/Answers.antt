-- By what the replay waits for.
use mathlib.Core.Path.{sym, ◌∙◌, ap}
use Rattle.replaying.specs.Taking.{recorded}
use Rattle.replaying.specs.Line.{after_reading, answer_as, answer_of}
use Rattle.replaying.proofs.lines.answer_line.Goals as goal

pub returns-in-None : goal.returns-in-None
unfolding answer_of
returns-in-None c = let a = c.args in
    let h = recorded a.r.state a.records.now in
    c.answer_reading.ensures
    ∙ ap (after_reading h a.store.now) c.read_frame.ensures
    ∙ sym (ap (λ w. answer_as w h a.store.now a.line.now) c.in-None.is)

pub returns-in-Some : goal.returns-in-Some
unfolding answer_of
returns-in-Some c = let a = c.args in
    let h = recorded a.r.state a.records.now in
    c.answer_payload.ensures ∙ sym (ap (λ w. answer_as w h a.store.now a.line.now) c.in-Some.is)
