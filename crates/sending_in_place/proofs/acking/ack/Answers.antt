-- By the verdict: the row and the table, then the sweep, each by its own promise.
use Rattle.std.specs.Prelude.{Err}
use Rattle.std.proofs.lemmas.Result.{err_from_is_err_and}
use mathlib.Core.Path.{refl, sym, ap, ◌∙◌}
use lib.ListN.{set}
use Rattle.link.specs.declared.row.LinkRow.{LinkRow}
use Rattle.engine.specs.Sound.{row_at}
use Rattle.engine.specs.Rows.{row-of}
use Rattle.engine.specs.Fields.{with_parts}
use Rattle.engine.specs.Acking.{swept_tx, acked_row, acked_tx, acked_state, ack_of, ack-passed, acked-count}
use Rattle.words.specs.Meaning.{state_of}
use Rattle.sending_in_place.specs.RowsBare.{acked_fields, acked-fields}
use Rattle.sending_in_place.proofs.acking.ack.Goals as goal

pub settle-row-requires : goal.settle-row-requires
settle-row-requires c = let s = state_of c.args.words.now in
    let p = ack-passed s c.args.slot c.args.time c.args.seq.0 (sym c.in_ok-ack_verdict.ensures) in
    (c.requires, p.timed.at.small)

pub sweep-requires : goal.sweep-requires
sweep-requires c =
    let s = state_of c.args.words.now in
    let p = ack-passed s c.args.slot c.args.time c.args.seq.0 (sym c.in_ok-ack_verdict.ensures) in
    rw c.settle-row.ensures.words_after (rw (acked-count s c.args.slot c.args.seq.0) p.timed.at.fine.packet-count)

pub put_acked-requires : goal.put_acked-requires
put_acked-requires c =
    let s = state_of c.args.words.now in
    let p = ack-passed s c.args.slot c.args.time c.args.seq.0 (sym c.in_ok-ack_verdict.ensures) in
    p.timed.at.small

pub returns-in_err-ack_verdict : goal.returns-in_err-ack_verdict
unfolding ack_of
returns-in_err-ack_verdict c = let p = err_from_is_err_and c.from_residual.result c.from_residual.ensures.1 in
    simp (sym c.in_err-ack_verdict.ensures, p.1 ∙ ap Err p.2) record { value = refl; words_after = refl; left = λ ne. refl }

pub returns : goal.returns
unfolding ack_of acked_state
returns c = let s = state_of c.args.words.now in
    let p = ack-passed s c.args.slot c.args.time c.args.seq.0 (sym c.in_ok-ack_verdict.ensures) in
    let e = sym c.in_ok-ack_verdict.ensures in
    let R = acked_row s c.args.slot c.args.time c.args.seq.0 in
    let row = ap (acked_fields (row_at s c.args.slot)) c.settle-row.ensures.ack_count_value ∙ ap (λ (r : LinkRow). acked_fields r R) (sym (row-of s c.args.slot p.timed.at.small)) ∙ sym (acked-fields s c.args.slot c.args.time c.args.seq.0) in
    record { value = simp e; words_after = simp e (rw (c.put_time.ensures, c.put_acked.ensures, c.sweep.ensures, c.settle-row.ensures.words_after) (ap (λ (r : LinkRow). with_parts s (set s.links c.args.slot r) (swept_tx (acked_tx s c.args.slot c.args.seq.0)) s.rx c.args.time) row)); left = λ ne. absurd (ne refl) }
