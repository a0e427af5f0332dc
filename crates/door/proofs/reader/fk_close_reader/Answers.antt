-- One that is not sound is refused; any other has been judged, and the call in place says the rest.
use mathlib.Core.Path.{refl, ap, ◌∙◌}
use Rattle.door.specs.Doors.{ready}
use Rattle.engine.specs.Closing.{close_of}
use Rattle.engine.specs.Answer.{outcome_told}
use Rattle.door.proofs.reader.fk_close_reader.Goals as goal

pub returns-in_default : goal.returns-in_default
unfolding close_of
returns-in_default c = simp c.in_default.ensures.value record { value = refl; words_after = refl; left = λ ne. refl }

pub close_reader-requires : goal.close_reader-requires
close_reader-requires c = rw c.in-Some.ensures.value.same (ready c.args.words.now c.in-Some.ensures.value.judged)

pub returns : goal.returns
returns c = let e = rw c.in-Some.ensures.value.same at c.close_reader.ensures in
    let t = c.tell.ensures in
    record { value = t ∙ ap (λ x. (outcome_told x).number) e.value; words_after = e.words_after; left = λ ne. e.left (λ z. ne (t ∙ z)) }
