-- By the lengths, the verdict, and whether the number is a repeat.
use mathlib.Core.Path.{◌≡◌, refl, sym, ◌∙◌}
use Rattle.std.specs.Prelude.{Err}
use Rattle.std.proofs.Common.{ap}
use Rattle.std.proofs.lemmas.Result.{err_from_is_err_and}
use Rattle.refusal.specs.declared.Refusal.TheVariants.{StoreLength}
use Rattle.receiving_in_place.specs.NewVerdict.{gate-stop}
use Rattle.refusal.specs.Verdicts.{gate-pass}
use lib.ListN.{length}
use Rattle.engine.specs.Rows.{row-of}
use Rattle.engine.specs.Receiving.{receive-passed, receive_verdict, receive_of, receive_store, receive_records}
use Rattle.words.specs.Meaning.{state_of}
use Rattle.receiving_in_place.specs.ReadyWith.{ready-lent, cells-lent, receive-judged}
use Rattle.receiving_in_place.proofs.receiving.receive.Goals as goal

pub returns-in_err-refuse_unless : goal.returns-in_err-refuse_unless
unfolding receive_of receive_store receive_records receive_verdict
returns-in_err-refuse_unless c = let stop = gate-stop c.lengths_ok-lent.result _ _ (sym c.in_err-refuse_unless.ensures) in
    let bad = rw c.rx_of-rx.ensures at (sym c.lengths_ok-lent.ensures ∙ stop.0) in
    let p = err_from_is_err_and c.from_residual.result c.from_residual.ensures.1 in
    let r : c.from_residual.result ≡ Err StoreLength = p.1 ∙ ap Err (p.2 ∙ stop.1) in
    simp r record { value = simp bad; words_after = simp bad; store_after = simp bad; records_after = simp bad; left = λ ne. refl }

pub message_verdict-requires : goal.message_verdict-requires
message_verdict-requires c =
    let a = c.args in
    let long = rw c.rx_of-rx.ensures at (sym c.lengths_ok-lent.ensures ∙ (gate-pass c.lengths_ok-lent.result _ _ (sym c.in_ok-refuse_unless.ensures)).0) in
    (c.rx_of-rx.ensures, rw c.rx_of-rx.ensures (ready-lent a.words.now a.records.now c.requires (cells-lent a.words.now a.records.now (length a.store.now) long)))

pub is_repeat-requires : goal.is_repeat-requires
is_repeat-requires c = let a = c.args in
    let long = rw c.rx_of-rx.ensures at (sym c.lengths_ok-lent.ensures ∙ (gate-pass c.lengths_ok-lent.result _ _ (sym c.in_ok-refuse_unless.ensures)).0) in
    rw c.rx_of-rx.ensures (ready-lent a.words.now a.records.now c.requires (cells-lent a.words.now a.records.now (length a.store.now) long))

pub queue_ack-requires : goal.queue_ack-requires
queue_ack-requires c =
    let a = c.args in
    let long = rw c.rx_of-rx.ensures at (sym c.lengths_ok-lent.ensures ∙ (gate-pass c.lengths_ok-lent.result _ _ (sym c.in_ok-refuse_unless.ensures)).0) in
    let v =
    receive-judged a.words.now a.records.now (length a.store.now) a.slot a.msg a.seq.0 (length a.payload.now) c.requires long
    ∙ sym c.in_ok-message_verdict.ensures in
    let p = receive-passed (state_of a.words.now) _ a.records.now a.slot a.msg a.seq.0 _ v in
    (p.at.small, rw (row-of (state_of a.words.now) a.slot p.at.small) at p.room)

pub returns-then-is_repeat : goal.returns-then-is_repeat
unfolding receive_of receive_store receive_records
returns-then-is_repeat c = let a = c.args in
    let long = rw c.rx_of-rx.ensures at (sym c.lengths_ok-lent.ensures ∙ (gate-pass c.lengths_ok-lent.result _ _ (sym c.in_ok-refuse_unless.ensures)).0) in
    let v =
    receive-judged a.words.now a.records.now (length a.store.now) a.slot a.msg a.seq.0 (length a.payload.now) c.requires long
    ∙ sym c.in_ok-message_verdict.ensures in
    let r = rw c.rx_of-rx.ensures at (sym c.is_repeat.ensures ∙ c.if-is_repeat.true) in
    record { value = simp v; words_after = simp v (simp r c.queue_ack.ensures); store_after = simp v (simp r); records_after = simp v (simp r); left = λ ne. absurd (ne refl) }

pub receive_new-requires : goal.receive_new-requires
receive_new-requires c = let a = c.args in
    let long = rw c.rx_of-rx.ensures at (sym c.lengths_ok-lent.ensures ∙ (gate-pass c.lengths_ok-lent.result _ _ (sym c.in_ok-refuse_unless.ensures)).0) in
    let v =
    receive-judged a.words.now a.records.now (length a.store.now) a.slot a.msg a.seq.0 (length a.payload.now) c.requires long
    ∙ sym c.in_ok-message_verdict.ensures in
    let r = rw c.rx_of-rx.ensures at (sym c.is_repeat.ensures ∙ c.if-is_repeat.false) in
    record { words_len = c.rx_of-rx.ensures; payload_value = v; seq_value = r }

pub returns-in_err-message_verdict : goal.returns-in_err-message_verdict
unfolding receive_of receive_store receive_records
returns-in_err-message_verdict c = let a = c.args in
    let long = rw c.rx_of-rx.ensures at (sym c.lengths_ok-lent.ensures ∙ (gate-pass c.lengths_ok-lent.result _ _ (sym c.in_ok-refuse_unless.ensures)).0) in
    let v =
    receive-judged a.words.now a.records.now (length a.store.now) a.slot a.msg a.seq.0 (length a.payload.now) c.requires long
    ∙ sym c.in_err-message_verdict.ensures in
    let p = err_from_is_err_and c.from_residual-in_err-message_verdict.result c.from_residual-in_err-message_verdict.ensures.1 in
    simp (v, p.1 ∙ ap Err p.2) record { value = refl; words_after = refl; store_after = refl; records_after = refl; left = λ ne. refl }

pub returns-else-is_repeat : goal.returns-else-is_repeat
unfolding receive_of receive_store receive_records
returns-else-is_repeat c = let a = c.args in
    let long = rw c.rx_of-rx.ensures at (sym c.lengths_ok-lent.ensures ∙ (gate-pass c.lengths_ok-lent.result _ _ (sym c.in_ok-refuse_unless.ensures)).0) in
    let v =
    receive-judged a.words.now a.records.now (length a.store.now) a.slot a.msg a.seq.0 (length a.payload.now) c.requires long
    ∙ sym c.in_ok-message_verdict.ensures in
    let r = rw c.rx_of-rx.ensures at (sym c.is_repeat.ensures ∙ c.if-is_repeat.false) in
    let new = c.receive_new.ensures in
    record { value = simp v; words_after = simp v (simp r new.words_after); store_after = simp v (simp r new.store_after); records_after = simp v (simp r new.records_after); left = λ ne. absurd (ne refl) }
