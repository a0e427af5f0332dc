-- Data first, then by the count and by the kind.
use Rattle.std.proofs.Common.{eq-eqb, ne_eqb, le-ltb, lt-ltb}
use borrow.Table.Steps.{cases}
use lib.Dec.{ltb}
use Rattle.runs.specs.Asked.{given, plain_given}
use Rattle.runs.proofs.given.message_given.Goals as goal

pub returns-then-count-eq0 : goal.returns-then-count-eq0
unfolding given plain_given
returns-then-count-eq0 c = simp (c.if-kind.true, c.if-count-eq0.true)

pub returns-then-kind : goal.returns-then-kind
unfolding given
returns-then-kind c =
    simp (c.if-kind.true, ne_eqb c.args.count 0 c.if-count-eq0.false)
    (cases (ltb c.args.count 4294967296) (λ t. simp t) (λ t. simp t))

pub returns-then-count-ge-HALF : goal.returns-then-count-ge-HALF
unfolding given
returns-then-count-ge-HALF c = simp (le-ltb c.args.count 4294967296 c.if-count-ge-HALF.true)

pub returns-then-kind-2 : goal.returns-then-kind-2
unfolding given
returns-then-kind-2 c = simp (lt-ltb c.args.count 4294967296 c.if-count-ge-HALF.false, eq-eqb c.args.kind 9 c.if-kind-2.true)

pub returns-then-count-ne0 : goal.returns-then-count-ne0
unfolding given
returns-then-count-ne0 c =
    simp (lt-ltb c.args.count 4294967296 c.if-count-ge-HALF.false, ne_eqb c.args.kind 9 c.if-kind-2.false, ne_eqb c.args.count 0 c.if-count-ne0.true)

pub returns : goal.returns
unfolding given
returns c =
    simp (lt-ltb c.args.count 4294967296 c.if-count-ge-HALF.false, ne_eqb c.args.kind 9 c.if-kind-2.false, eq-eqb c.args.count 0 c.if-count-ne0.false) c.plain_given.ensures
