-- One that is not sound is refused; any other has been judged, and the call in place says the rest.
use mathlib.Core.Path.{refl, ap, ◌∙◌}
use Rattle.door.specs.Doors.{ready}
use Rattle.engine.specs.HandingOut.{take_ack_of, ack_answer, take_ack_verdict, take_ack_told}
use lib.Seq.{sets}
use Rattle.door.proofs.reader.fk_take_ack.Goals as goal

pub returns-in_default : goal.returns-in_default
unfolding take_ack_of ack_answer take_ack_verdict
returns-in_default c = simp c.in_default.ensures.value record { value = refl; words_after = refl; values_after = refl; left = λ ne. refl }

pub take_ack-requires : goal.take_ack-requires
take_ack-requires c = rw c.in-Some.ensures.value.same (ready c.args.words.now c.in-Some.ensures.value.judged)

pub returns : goal.returns
returns c = let e = rw c.in-Some.ensures.value.same at c.take_ack.ensures in
    let t = c.tell_ack.ensures in
    record { value = t.value ∙ ap (λ x. (take_ack_told x).number) e.value; words_after = e.words_after; values_after = t.values_after ∙ ap (λ x. sets c.args.values.now 0 (take_ack_told x).values) e.value; left = λ ne. e.left (λ z. ne (t.value ∙ z)) }
