-- One that is not sound is refused; any other has been judged, and the call in place says the rest.
use mathlib.Core.Path.{refl, ap, ◌∙◌}
use lib.Seq.{sets}
use Rattle.door.specs.Doors.{ready}
use Rattle.engine.specs.HandingOut.{due_of, due_told}
use Rattle.door.proofs.reader.fk_is_consume_ack_required.Goals as goal

pub returns-in_default : goal.returns-in_default
unfolding due_of
returns-in_default c = simp c.in_default.ensures record { value = refl; values_after = refl }

pub is_consume_ack_required-requires : goal.is_consume_ack_required-requires
is_consume_ack_required-requires c = rw c.in-Some.ensures.same (ready c.args.words.now c.in-Some.ensures.judged)

pub returns : goal.returns
returns c = let e = rw c.in-Some.ensures.same at c.is_consume_ack_required.ensures in
    let t = c.tell_due.ensures in
    record { value = t.value ∙ ap (λ x. (due_told x).number) e; values_after = t.values_after ∙ ap (λ x. sets c.args.values.now 0 (due_told x).values) e }
