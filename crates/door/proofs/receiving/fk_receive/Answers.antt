-- By the message that is named.
use mathlib.Core.Path.{refl, sym, ◌∙◌}
use Rattle.door.proofs.receiving.fk_receive.Goals as goal

pub returns-in-None : goal.returns-in-None
returns-in-None c = simp (sym c.message_given-asked.ensures ∙ c.in-None.is) record { value = refl; words_after = refl; store_after = refl; records_after = refl; left = λ ne. refl }

pub returns-in-Some : goal.returns-in-Some
returns-in-Some c = simp (sym c.message_given-asked.ensures ∙ c.in-Some.is) c.receive_message.ensures
