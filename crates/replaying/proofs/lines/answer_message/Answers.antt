-- By what the message carries.
use mathlib.Core.Path.{sym, ◌∙◌, ap}
use Rattle.replaying.specs.Taking.{recorded}
use Rattle.replaying.specs.Line.{after_carried, ended-left}
use Rattle.replaying.proofs.lines.answer_message.Goals as goal

pub returns-in-None : goal.returns-in-None
returns-in-None c = let a = c.args in
    let h = recorded a.s a.records.now in
    let end = c.end_frame.ensures in
    let e = sym c.from_link_msg.ensures ∙ c.in-None.is in
    ended-left 0 h a.store.now end.value end.records_after ∙ sym (ap (after_carried h a.store.now) e)

pub returns-in-Some : goal.returns-in-Some
returns-in-Some c = let a = c.args in
    let e = sym c.from_link_msg.ensures ∙ c.in-Some.is in
    c.answer_reliable.ensures ∙ sym (ap (after_carried (recorded a.s a.records.now) a.store.now) e)
