-- By the tag.
use Rattle.words.specs.Meaning.{status_of}
use Rattle.std.proofs.Common.{get_or, arith}
use borrow.Author.Tests.{ne_eqb}
use Rattle.words.proofs.packet.status_in.Goals as goal

pub returns-in-1 : goal.returns-in-1
unfolding status_of
returns-in-1 c = simp (c.in-1.is, c.flight_in.ensures)

pub returns-in-2 : goal.returns-in-2
unfolding status_of
returns-in-2 c = simp (c.in-2.is, c.flight_in-in-2.ensures)

pub returns-in-3 : goal.returns-in-3
unfolding status_of
returns-in-3 c = simp (c.in-3.is)

pub returns-in-4 : goal.returns-in-4
unfolding status_of
returns-in-4 c = simp (c.in-4.is)

pub returns-in_default : goal.returns-in_default
unfolding status_of
returns-in_default c = let t = get_or c.args.part.now 2 0 in simp (ne_eqb t 1 (omega arith), ne_eqb t 2 (omega arith), ne_eqb t 3 (omega arith), ne_eqb t 4 (omega arith), c.flight_in-in_default.ensures)
