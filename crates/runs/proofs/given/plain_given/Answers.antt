-- By the kind.
use borrow.Author.Tests.{eq-eqb, ne_eqb}
use Rattle.runs.specs.Asked.{plain_given}
use Rattle.runs.proofs.given.plain_given.Goals as goal

pub returns-then-kind : goal.returns-then-kind
unfolding plain_given
returns-then-kind c = simp (eq-eqb _ _ c.if-kind.true)

pub returns-then-kind-2 : goal.returns-then-kind-2
unfolding plain_given
returns-then-kind-2 c = simp (ne_eqb _ _ c.if-kind.false, eq-eqb _ _ c.if-kind-2.true)

pub returns-then-kind-3 : goal.returns-then-kind-3
unfolding plain_given
returns-then-kind-3 c = simp (ne_eqb _ _ c.if-kind.false, ne_eqb _ _ c.if-kind-2.false, eq-eqb _ _ c.if-kind-3.true)

pub returns-then-kind-4 : goal.returns-then-kind-4
unfolding plain_given
returns-then-kind-4 c = simp (ne_eqb _ _ c.if-kind.false, ne_eqb _ _ c.if-kind-2.false, ne_eqb _ _ c.if-kind-3.false, eq-eqb _ _ c.if-kind-4.true)

pub returns : goal.returns
unfolding plain_given
returns c = simp (ne_eqb _ _ c.if-kind.false, ne_eqb _ _ c.if-kind-2.false, ne_eqb _ _ c.if-kind-3.false, ne_eqb _ _ c.if-kind-4.false)
