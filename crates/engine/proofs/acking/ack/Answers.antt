-- By the verdict: the row, the table and the sweep, each by its own promise.
use Rattle.std.proofs.Common.{◌≡◌, sym, ap, ◌∙◌}
use Rattle.engine.specs.Acking.{acked_state, ack_of, ack-passed, acked-count}
use Rattle.engine.proofs.acking.ack.Goals as goal

pub acked_row-row-requires : goal.acked_row-row-requires
acked_row-row-requires c = (ack-passed _ _ _ _ (sym c.in-Ok.ensures)).timed.at.fine

pub acked_tx-requires : goal.acked_tx-requires
acked_tx-requires c = (ack-passed _ _ _ _ (sym c.in-Ok.ensures)).timed.at.fine

pub sweep-requires : goal.sweep-requires
sweep-requires c = let a = c.args in
    let passed = sym c.in-Ok.ensures in
    let count : c.acked_tx.result.txed_count ≡ a.s.tx.txed_count = ap (λ tx. tx.txed_count) c.acked_tx.ensures ∙ acked-count a.s a.slot a.seq.0 in
    rw count (ack-passed _ _ _ _ passed).timed.at.fine.packet-count

pub returns-in-Err-clause-value : goal.returns-in-Err-clause-value
unfolding ack_of
returns-in-Err-clause-value c = simp (sym c.in-Err.ensures, c.refused.ensures)

pub returns-in-Ok-clause-value : goal.returns-in-Ok-clause-value
unfolding ack_of acked_state
returns-in-Ok-clause-value c = simp (sym c.in-Ok.ensures, c.done.ensures, c.sweep.ensures, c.with_row.ensures, c.acked_tx.ensures, c.acked_row-row.ensures)
