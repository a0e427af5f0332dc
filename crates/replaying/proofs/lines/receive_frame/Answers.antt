-- The engine's own promise, and the end of a frame.
use mathlib.Core.Path.{◌∙◌, ap}
use Rattle.replaying.specs.Taking.{recorded, ended}
use Rattle.replaying.specs.Line.{received-left}
use Rattle.replaying.proofs.lines.receive_frame.Goals as goal

pub returns : goal.returns
returns c = let a = c.args in
    let got = c.receive-changed in
    let end = c.end_frame.ensures in
    received-left (recorded a.s a.records.now) a.store.now a.msg a.seq a.payload.now got.ensures.value got.ensures.store_after got.ensures.records_after
    (end.value ∙ ap (λ n. ended n (recorded got.result.state got.new.records)) c.outcome_number.ensures) end.records_after
