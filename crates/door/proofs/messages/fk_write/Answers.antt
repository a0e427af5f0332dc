-- By the message that is named.
use mathlib.Core.Path.{refl, sym, ap, ◌∙◌}
use lib.Seq.{sets}
use Rattle.msg.specs.Writing.{written_told}
use Rattle.door.proofs.messages.fk_write.Goals as goal

pub returns-in-None : goal.returns-in-None
returns-in-None c = simp (sym c.link_given-asked.ensures ∙ c.in-None.is) record { value = refl; buffer_after = refl; values_after = refl }

pub returns-in-Some : goal.returns-in-Some
returns-in-Some c = let w = c.write.ensures in
    let t = c.tell_written.ensures in
    simp (sym c.link_given-asked.ensures ∙ c.in-Some.is)
    record { value = t.value ∙ ap (λ x. (written_told x).number) w.value; buffer_after = w.buffer_after; values_after = t.values_after ∙ ap (λ x. sets c.args.values.now 0 (written_told x).values) w.value }
