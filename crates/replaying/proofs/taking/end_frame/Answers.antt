-- The acks first, then the messages.
use Rattle.std.specs.Prelude.{Some, None}
use mathlib.Core.Path.{◌∙◌, ap}
use Rattle.replaying.specs.Sizes.{CELLS}
use Rattle.replaying.specs.Taking.{Recorded, recorded, without_ready, ended, without_all}
use Rattle.replaying.proofs.taking.end_frame.Goals as goal

pub returns : goal.returns
unfolding ended without_all
returns c = let a = c.args in
    let all = c.take_ready-state.ensures ∙ ap (λ s. without_ready CELLS (recorded s a.records.now)) c.take_acks.ensures in
    record { value = ap (λ (h : Recorded). record { answer = Some (a.number, h.state.rx.rx_seq); replay = record { state = h.state; waiting = None } }) all; records_after = ap (λ h. h.records) all }
