-- One that is not sound is refused; any other has been judged, and the call in place says the rest.
use mathlib.Core.Path.{refl, ap, ◌∙◌}
use Rattle.door.specs.Doors.{ready}
use Rattle.engine.specs.Links.{block_of}
use Rattle.engine.specs.Gates.{slot_verdict}
use Rattle.engine.specs.Answer.{outcome_told}
use Rattle.door.proofs.links.fk_block.Goals as goal

pub returns-in_default : goal.returns-in_default
unfolding block_of slot_verdict
returns-in_default c = simp c.in_default.ensures.value record { value = refl; words_after = refl; left = λ ne. refl }

pub block-requires : goal.block-requires
block-requires c = rw c.in-Some.ensures.value.same (ready c.args.words.now c.in-Some.ensures.value.judged)

pub returns : goal.returns
returns c = let e = rw c.in-Some.ensures.value.same at c.block.ensures in
    let t = c.tell.ensures in
    record { value = t ∙ ap (λ x. (outcome_told x).number) e.value; words_after = e.words_after; left = λ ne. e.left (λ z. ne (t ∙ z)) }
