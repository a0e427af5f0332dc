-- One that is not sound is refused; any other has been judged, and the call in place says the rest.
use mathlib.Core.Path.{refl, ap, ◌∙◌}
use Rattle.door.specs.Doors.{ready}
use Rattle.engine.specs.Links.{add_of, add_verdict, add_told}
use lib.Seq.{sets}
use Rattle.door.proofs.links.fk_add.Goals as goal

pub returns-in_default : goal.returns-in_default
unfolding add_of add_verdict
returns-in_default c = simp c.in_default.ensures.value record { value = refl; words_after = refl; values_after = refl; left = λ ne. refl }

pub add-answer-requires : goal.add-answer-requires
add-answer-requires c = rw c.in-Some.ensures.value.same (ready c.args.words.now c.in-Some.ensures.value.judged)

pub returns : goal.returns
returns c = let e = rw (c.in-Some.ensures.value.same, c.max_ping_given-max.ensures) at c.add-answer.ensures in
    let t = c.tell_added.ensures in
    record { value = t.value ∙ ap (λ x. (add_told x).number) e.value; words_after = e.words_after; values_after = t.values_after ∙ ap (λ x. sets c.args.values.now 0 (add_told x).values) e.value; left = λ ne. e.left (λ z. ne (t.value ∙ z)) }
