-- One that is not sound is refused; any other has been judged, and the call in place says the rest.
use mathlib.Core.Path.{refl, ap, ◌∙◌}
use lib.Seq.{sets}
use Rattle.door.specs.Doors.{ready}
use Rattle.engine.specs.Deadlines.{earliest_confirm_timeout_of, confirm_timeout_verdict, confirm_timeout_told}
use Rattle.door.proofs.sending.fk_earliest_confirm_timeout.Goals as goal

pub returns-in_default : goal.returns-in_default
unfolding earliest_confirm_timeout_of confirm_timeout_verdict
returns-in_default c = simp c.in_default.ensures record { value = refl; values_after = refl }

pub earliest_confirm_timeout-requires : goal.earliest_confirm_timeout-requires
earliest_confirm_timeout-requires c = rw c.in-Some.ensures.same (ready c.args.words.now c.in-Some.ensures.judged)

pub returns : goal.returns
returns c = let e = rw c.in-Some.ensures.same at c.earliest_confirm_timeout.ensures in
    let t = c.tell_timeout.ensures in
    record { value = t.value ∙ ap (λ x. (confirm_timeout_told x).number) e; values_after = t.values_after ∙ ap (λ x. sets c.args.values.now 0 (confirm_timeout_told x).values) e }
