-- In a sound state the link's unacked bytes stay small; the rest is each callee's promise.
use Rattle.std.proofs.Common.{◌∙◌}
use Rattle.engine.specs.Table.{with_packet}
use Rattle.engine.proofs.Shapes.{shaped}
use Rattle.engine.specs.Resending.{resent_state, resend-fits, resend-cell, resend-passed}
use Rattle.engine.proofs.resending.resent_state.Goals as goal

pub overflow_add-row : goal.overflow_add-row
overflow_add-row c = let a = c.args in
    let cell = c.packet_of-p.ensures ∙ resend-cell a.s a.slot a.time a.seq.0 (shaped a.s c.well_formed.0) c.well_formed.1.1.1.0.1.1.0.1 c.requires in
    record { fits = rw (c.row_of-row.ensures, cell) (resend-fits a.s a.slot a.time a.seq.0 (shaped a.s c.well_formed.0) c.well_formed.1.1.1.0.1.1.0.1 c.requires) }

pub requeue-requires : goal.requeue-requires
unfolding with_packet
requeue-requires c = rw c.with_packet.ensures (resend-passed c.args.s c.args.slot c.args.time c.args.seq.0 (shaped c.args.s c.well_formed.0) c.well_formed.1.1.1.0.1.1.0.1 c.requires).timed.at.fine.packet-count

pub returns : goal.returns
unfolding resent_state
returns c = let a = c.args in
    let cell = c.packet_of-p.ensures ∙ resend-cell a.s a.slot a.time a.seq.0 (shaped a.s c.well_formed.0) c.well_formed.1.1.1.0.1.1.0.1 c.requires in
    simp (c.requeue.ensures, c.with_packet.ensures, c.with_row.ensures, c.with_unacked.ensures, c.mark_resent-marked.ensures, c.with_status-next.ensures, c.new-flight.ensures, cell, c.row_of-row.ensures)
