-- One that is not sound is refused; any other has been judged, and the call in place says the rest.
use mathlib.Core.Path.{refl, ap, ◌∙◌}
use Rattle.door.specs.Doors.{ready}
use Rattle.engine.specs.Resending.{resend_of, resend_verdict, resend_told}
use Rattle.engine.specs.Gates.{timed_verdict}
use lib.Seq.{sets}
use Rattle.door.proofs.sending.fk_resend.Goals as goal

pub returns-in_default : goal.returns-in_default
unfolding resend_of resend_verdict timed_verdict
returns-in_default c = simp c.in_default.ensures.value record { value = refl; words_after = refl; values_after = refl; left = λ ne. refl }

pub resend-requires : goal.resend-requires
resend-requires c = rw c.in-Some.ensures.value.same (ready c.args.words.now c.in-Some.ensures.value.judged)

pub returns : goal.returns
returns c = let e = rw c.in-Some.ensures.value.same at c.resend.ensures in
    let t = c.tell_resent.ensures in
    record { value = t.value ∙ ap (λ x. (resend_told x).number) e.value; words_after = e.words_after; values_after = t.values_after ∙ ap (λ x. sets c.args.values.now 0 (resend_told x).values) e.value; left = λ ne. e.left (λ z. ne (t.value ∙ z)) }
