-- One that is not sound is refused; any other has been judged, and the call in place says the rest.
use mathlib.Core.Path.{refl, ap, ◌∙◌}
use Rattle.door.specs.Doors.{ready}
use Rattle.engine.specs.Flushing.{flush_of}
use Rattle.engine.specs.Gates.{timed_verdict}
use Rattle.engine.specs.Answer.{outcome_told}
use Rattle.door.proofs.sending.fk_flush.Goals as goal

pub returns-in_default : goal.returns-in_default
unfolding flush_of timed_verdict
returns-in_default c = simp c.in_default.ensures.value record { value = refl; words_after = refl; left = λ ne. refl }

pub flush-requires : goal.flush-requires
flush-requires c = rw c.in-Some.ensures.value.same (ready c.args.words.now c.in-Some.ensures.value.judged)

pub returns : goal.returns
returns c = let e = rw c.in-Some.ensures.value.same at c.flush.ensures in
    let t = c.tell.ensures in
    record { value = t ∙ ap (λ x. (outcome_told x).number) e.value; words_after = e.words_after; left = λ ne. e.left (λ z. ne (t ∙ z)) }
