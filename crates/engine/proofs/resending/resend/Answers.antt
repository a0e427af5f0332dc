-- By the verdict.
use Rattle.engine.proofs.Shapes.{shaped}
use Rattle.std.proofs.Common.{sym, ◌∙◌}
use Rattle.engine.specs.Resending.{resend_of, resend-cell}
use Rattle.engine.proofs.resending.resend.Goals as goal

pub returns-in-Err : goal.returns-in-Err
unfolding resend_of
returns-in-Err c = let e = sym c.in-Err.ensures in record { value = simp e; answer_value = simp e }

pub returns-in-Ok : goal.returns-in-Ok
unfolding resend_of
returns-in-Ok c = let a = c.args in
    let e = sym c.in-Ok.ensures in
    let cell = c.packet_of-p.ensures ∙ resend-cell a.s a.slot a.time a.seq.0 (shaped a.s c.well_formed.0) c.well_formed.1.1.1.0.1.1.0.1 e in
    record { value = simp (e, c.resent_state.ensures, cell); answer_value = simp (e, cell) }
