-- The store is asked first, then the state; the call in place says the rest.
use mathlib.Core.Path.{refl, ap, ◌∙◌}
use borrow.Author.Tests.{eq-eqb, ne_eqb}
use lib.Seq.{sets}
use Rattle.door.specs.Doors.{ready}
use Rattle.engine.specs.Sending.{send_of, send_store, send_verdict, send_told}
use Rattle.door.proofs.sending.send_message.Goals as goal

pub returns-then-store-ne-SENT_BYTES : goal.returns-then-store-ne-SENT_BYTES
unfolding send_of send_store send_verdict
returns-then-store-ne-SENT_BYTES c = simp (ne_eqb _ _ c.if-store-ne-SENT_BYTES.true) record { value = refl; words_after = refl; store_after = refl; values_after = refl; left = λ ne. refl }

pub returns-in_default : goal.returns-in_default
unfolding send_of send_store send_verdict
returns-in_default c = simp (eq-eqb _ _ c.if-store-ne-SENT_BYTES.false, c.in_default.ensures.value) record { value = refl; words_after = refl; store_after = refl; values_after = refl; left = λ ne. refl }

pub send-requires : goal.send-requires
send-requires c = rw c.in-Some.ensures.value.same (ready c.args.words.now c.in-Some.ensures.value.judged)

pub returns : goal.returns
returns c = let e = rw c.in-Some.ensures.value.same at c.send.ensures in
    let t = c.tell_sent.ensures in
    record { value = t.value ∙ ap (λ x. (send_told x).number) e.value; words_after = e.words_after; store_after = e.store_after; values_after = t.values_after ∙ ap (λ x. sets c.args.values.now 0 (send_told x).values) e.value; left = λ ne. e.left (λ z. ne (t.value ∙ z)) }
