-- By the kind.
use Rattle.std.proofs.Common.{arith}
use borrow.Author.Tests.{ne_eqb}
use Rattle.door.specs.Given.{plain_given}
use Rattle.door.proofs.given.plain_given.Goals as goal

pub returns-in-7 : goal.returns-in-7
unfolding plain_given
returns-in-7 c = simp c.in-7.is

pub returns-in-10 : goal.returns-in-10
unfolding plain_given
returns-in-10 c = simp c.in-10.is

pub returns-in-11 : goal.returns-in-11
unfolding plain_given
returns-in-11 c = simp c.in-11.is

pub returns-in-12 : goal.returns-in-12
unfolding plain_given
returns-in-12 c = simp c.in-12.is

pub returns-in_default : goal.returns-in_default
unfolding plain_given
returns-in_default c = let k = c.args.kind in simp (ne_eqb k 7 (omega arith), ne_eqb k 10 (omega arith), ne_eqb k 11 (omega arith), ne_eqb k 12 (omega arith))
