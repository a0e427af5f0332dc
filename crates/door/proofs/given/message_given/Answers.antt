-- By the kind and the count.
use borrow.Author.Tests.{eq-eqb, ne_eqb}
use Rattle.door.specs.Given.{given}
use Rattle.door.proofs.given.message_given.Goals as goal

pub returns-then-kind-eq-MSG_CONSUMED : goal.returns-then-kind-eq-MSG_CONSUMED
unfolding given
returns-then-kind-eq-MSG_CONSUMED c = simp (eq-eqb _ _ c.if-kind-eq-MSG_CONSUMED.true)

pub returns-then-count-ne0 : goal.returns-then-count-ne0
unfolding given
returns-then-count-ne0 c = simp (ne_eqb _ _ c.if-kind-eq-MSG_CONSUMED.false, ne_eqb _ _ c.if-count-ne0.true)

pub returns : goal.returns
unfolding given
returns c = simp (ne_eqb _ _ c.if-kind-eq-MSG_CONSUMED.false, eq-eqb _ _ c.if-count-ne0.false) c.plain_given.ensures
