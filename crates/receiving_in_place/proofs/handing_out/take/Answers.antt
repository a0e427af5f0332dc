-- By the tests in their order, and then by what is ready.
use Rattle.std.specs.Prelude.{Err, length, eqb}
use Rattle.std.proofs.lemmas.Result.{err_from_is_err_and}
use Rattle.refusal.specs.declared.Refusal.TheVariants.{StoreLength, Total}
use Rattle.receiving_in_place.specs.NewVerdict.{gate-stop}
use Rattle.refusal.specs.Verdicts.{gate-pass}
use mathlib.Core.Path.{◌≡◌, refl, sym, ap, ◌∙◌}
use borrow.Author.Tests.{eq-eqb, eqb-true}
use Rattle.engine.specs.HandingOut.{take_of, take_records, take_verdict, taken_state, hand_out_by, ready_bytes}
use Rattle.engine.specs.Fields.{with_rx}
use Rattle.engine.specs.Received.{table_of}
use Rattle.engine.specs.Totals.{total-fits}
use Rattle.words.specs.Meaning.{state_of}
use Rattle.receiving_in_place.specs.Moves.{taken-moves}
use Rattle.receiving_in_place.specs.ReadyWith.{ready-lent}
use Rattle.receiving_in_place.proofs.handing_out.take.Goals as goal

pub returns-in_err-refuse_unless : goal.returns-in_err-refuse_unless
unfolding take_of take_records take_verdict taken_state hand_out_by
returns-in_err-refuse_unless c = let stop = gate-stop (eqb (length c.args.records.now) c.rx_of-rx.result.cells) _ _ (sym c.in_err-refuse_unless.ensures) in
    let bad = rw c.rx_of-rx.ensures at stop.0 in
    let p = err_from_is_err_and c.from_residual.result c.from_residual.ensures.1 in
    let r : c.from_residual.result ≡ Err StoreLength = p.1 ∙ ap Err (p.2 ∙ stop.1) in
    simp r record { value = simp bad; words_after = simp bad; records_after = simp bad; left = λ ne. refl }

pub oldest_ready-held-requires : goal.oldest_ready-held-requires
oldest_ready-held-requires c = let a = c.args in
    rw c.rx_of-rx.ensures (ready-lent a.words.now a.records.now c.requires (rw c.rx_of-rx.ensures at (eqb-true _ _ (gate-pass (eqb (length c.args.records.now) c.rx_of-rx.result.cells) _ _ (sym c.in_ok-refuse_unless.ensures)).0)))

pub returns-in_err-refuse_unless-2 : goal.returns-in_err-refuse_unless-2
unfolding take_of take_records take_verdict taken_state hand_out_by
returns-in_err-refuse_unless-2 c = let a = c.args in
    let stop = gate-stop c.sum_fits-fits.result _ _ (sym c.in_err-refuse_unless-2.ensures) in
    let p = err_from_is_err_and c.from_residual-in_err-refuse_unless-2.result c.from_residual-in_err-refuse_unless-2.ensures.1 in
    let r : c.from_residual-in_err-refuse_unless-2.result ≡ Err Total = p.1 ∙ ap Err (p.2 ∙ stop.1) in
    let cells = rw c.rx_of-rx.ensures at (eqb-true _ _ (gate-pass (eqb (length c.args.records.now) c.rx_of-rx.result.cells) _ _ (sym c.in_ok-refuse_unless.ensures)).0) in
    let long = eq-eqb _ _ cells in
    let ok = c.requires.recorded cells in
    let total = rw (c.ready_bytes-bytes.ensures, c.oldest_ready-held.ensures, c.rx_of-rx.ensures) at (sym c.sum_fits-fits.ensures ∙ stop.0) in
    simp r record { value = simp (long, ok, total); words_after = simp (long, ok, total); records_after = simp (long, ok, total); left = λ ne. refl }

pub take_message-next-requires : goal.take_message-next-requires
take_message-next-requires c = let a = c.args in
    (rw c.rx_of-rx.ensures (ready-lent a.words.now a.records.now c.requires (rw c.rx_of-rx.ensures at (eqb-true _ _ (gate-pass (eqb (length c.args.records.now) c.rx_of-rx.result.cells) _ _ (sym c.in_ok-refuse_unless.ensures)).0))), total-fits c.rx_of-rx.result.rxed_reliable_consumed c.ready_bytes-bytes.result (sym c.sum_fits-fits.ensures ∙ (gate-pass c.sum_fits-fits.result _ _ (sym c.in_ok-refuse_unless-2.ensures)).0))

pub returns-in-None : goal.returns-in-None
unfolding take_of take_records take_verdict taken_state hand_out_by
returns-in-None c = let a = c.args in
    let cells = rw c.rx_of-rx.ensures at (eqb-true _ _ (gate-pass (eqb (length c.args.records.now) c.rx_of-rx.result.cells) _ _ (sym c.in_ok-refuse_unless.ensures)).0) in
    let long = eq-eqb _ _ cells in
    let ok = c.requires.recorded cells in
    let total = rw (c.ready_bytes-bytes.ensures, c.in-None.is, c.rx_of-rx.ensures) at (sym c.sum_fits-fits.ensures ∙ (gate-pass c.sum_fits-fits.result _ _ (sym c.in_ok-refuse_unless-2.ensures)).0) in
    let none = rw c.rx_of-rx.ensures at (sym c.oldest_ready-held.ensures ∙ c.in-None.is) in
    record { value = simp (long, ok, none, total); words_after = simp (long, ok, none, total); records_after = simp (long, ok, none, total); left = λ ne. refl }

pub returns-in-Some : goal.returns-in-Some
unfolding take_of take_records take_verdict taken_state hand_out_by
returns-in-Some c = let a = c.args in
    let cells = rw c.rx_of-rx.ensures at (eqb-true _ _ (gate-pass (eqb (length c.args.records.now) c.rx_of-rx.result.cells) _ _ (sym c.in_ok-refuse_unless.ensures)).0) in
    let long = eq-eqb _ _ cells in
    let ok = c.requires.recorded cells in
    let total = rw (c.ready_bytes-bytes.ensures, c.in-Some.is, c.rx_of-rx.ensures) at (sym c.sum_fits-fits.ensures ∙ (gate-pass c.sum_fits-fits.result _ _ (sym c.in_ok-refuse_unless-2.ensures)).0) in
    let one = rw c.rx_of-rx.ensures at (sym c.oldest_ready-held.ensures ∙ c.in-Some.is) in
    let bytes = c.ready_bytes-bytes.ensures ∙ ap ready_bytes c.in-Some.is in record { value = simp (long, ok, one, total, c.rx_of-rx.ensures); words_after = simp (long, ok, one, total) (rw (c.put_taken.ensures, c.take_message-next.ensures.value, c.rx_of-rx.ensures, bytes) (ap (with_rx (state_of a.words.now)) (sym (taken-moves (state_of a.words.now).rx.cells (table_of (state_of a.words.now).rx a.records.now) _)))); records_after = simp (long, ok, one, total) (rw (c.take_message-next.ensures.records_after, c.rx_of-rx.ensures)); left = λ ne. absurd (ne refl) }
