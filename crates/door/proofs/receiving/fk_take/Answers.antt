-- The records' length is asked first, then the state with them; the call in place says the rest.
use mathlib.Core.Path.{refl, ap, ◌∙◌}
use borrow.Author.Tests.{eq-eqb, ne_eqb}
use lib.Seq.{sets}
use Rattle.door.specs.Doors.{ready_with}
use Rattle.engine.specs.HandingOut.{take_of, take_records, take_verdict, taken_state, hand_out_by, hand_out_told}
use Rattle.door.proofs.receiving.fk_take.Goals as goal

pub returns-then-records-rx : goal.returns-then-records-rx
unfolding take_of take_records take_verdict taken_state hand_out_by
returns-then-records-rx c = let bad = rw c.rx_said-rx.ensures at (ne_eqb _ _ c.if-records-rx.true) in simp bad record { value = refl; words_after = refl; records_after = refl; values_after = refl; left = λ ne. refl }

pub returns-in_default : goal.returns-in_default
unfolding take_of take_records take_verdict taken_state hand_out_by
returns-in_default c = let long = eq-eqb _ _ (rw c.rx_said-rx.ensures at c.if-records-rx.false) in simp (long, c.in_default.ensures.value) record { value = refl; words_after = refl; records_after = refl; values_after = refl; left = λ ne. refl }

pub take-requires : goal.take-requires
take-requires c = rw c.in-Some.ensures.value.same (ready_with c.args.words.now c.args.records.now c.in-Some.ensures.value.judged)

pub returns : goal.returns
returns c = let e = rw c.in-Some.ensures.value.same at c.take.ensures in
    let t = c.tell_message.ensures in
    record { value = t.value ∙ ap (λ x. (hand_out_told x).number) e.value; words_after = e.words_after; records_after = e.records_after; values_after = t.values_after ∙ ap (λ x. sets c.args.values.now 0 (hand_out_told x).values) e.value; left = λ ne. e.left (λ z. ne (t.value ∙ z)) }
