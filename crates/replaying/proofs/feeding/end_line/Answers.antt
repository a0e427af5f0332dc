-- Too long, or what the carried bytes answer.
use mathlib.Core.Path.{sym, ◌∙◌, ap}
use Rattle.std.proofs.Common.{take}
use Rattle.std.proofs.lemmas.List.{take_min}
use Rattle.replaying.specs.Taking.{recorded, ended}
use Rattle.replaying.specs.Line.{answer_of, ended-left}
use Rattle.replaying.specs.Feeding.{line-long, line-short}
use Rattle.replaying.proofs.feeding.end_line.Goals as goal

pub returns-then-count-gt-MAX_LINE : goal.returns-then-count-gt-MAX_LINE
returns-then-count-gt-MAX_LINE c = let a = c.args in
    let h = recorded a.r.state a.records.now in
    let end = c.end_frame.ensures in
    ended-left 20 h a.store.now (end.value ∙ ap (λ n. ended n h) c.number.ensures) end.records_after
    ∙ sym (line-long a.r a.store.now a.records.now a.line.now a.count c.if-count-gt-MAX_LINE.true)

pub returns : goal.returns
returns c = let a = c.args in
    let first = ap (λ n. take n a.line.now) c.min.ensures ∙ take_min a.count a.line.now in
    c.answer_line.ensures
    ∙ ap (answer_of a.r a.store.now a.records.now) first
    ∙ sym (line-short a.r a.store.now a.records.now a.line.now a.count c.if-count-gt-MAX_LINE.false)
