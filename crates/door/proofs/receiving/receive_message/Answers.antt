-- The lengths are asked first, then the state with its records; the call in place says the rest.
use mathlib.Core.Path.{refl, sym, ap, ◌∙◌}
use Rattle.door.specs.Doors.{ready_with}
use Rattle.engine.specs.Answer.{outcome_told}
use Rattle.engine.specs.Receiving.{receive_of, receive_store, receive_records, receive_verdict}
use Rattle.door.proofs.receiving.receive_message.Goals as goal

pub returns-then-not-lengths_ok : goal.returns-then-not-lengths_ok
unfolding receive_of receive_store receive_records receive_verdict
returns-then-not-lengths_ok c = let bad = rw c.rx_said-rx.ensures at (sym c.lengths_ok.ensures ∙ c.if-not-lengths_ok.true) in simp bad record { value = refl; words_after = refl; store_after = refl; records_after = refl; left = λ ne. refl }

pub returns-in_default : goal.returns-in_default
unfolding receive_of receive_store receive_records receive_verdict
returns-in_default c = let long = rw c.rx_said-rx.ensures at (sym c.lengths_ok.ensures ∙ c.if-not-lengths_ok.false) in simp (long, c.in_default.ensures.value) record { value = refl; words_after = refl; store_after = refl; records_after = refl; left = λ ne. refl }

pub receive-requires : goal.receive-requires
receive-requires c = rw c.in-Some.ensures.value.same (ready_with c.args.words.now c.args.records.now c.in-Some.ensures.value.judged)

pub returns : goal.returns
returns c = let e = rw c.in-Some.ensures.value.same at c.receive.ensures in
    let t = c.tell.ensures in
    record { value = t ∙ ap (λ x. (outcome_told x).number) e.value; words_after = e.words_after; store_after = e.store_after; records_after = e.records_after; left = λ ne. e.left (λ z. ne (t ∙ z)) }
