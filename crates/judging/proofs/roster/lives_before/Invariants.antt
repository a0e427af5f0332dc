-- The slots that are left to look at give the same answer at each turn.
use Rattle.std.proofs.Common.{◌≡◌}
use Rattle.engine.specs.Roster.{roster_of, lives_before}
use Rattle.words.specs.Meaning.{state_of}
use Rattle.judging.proofs.roster.lives_before.Given as goal

abbrev pub invariant-loop-slot : goal.invariant-loop-slot
invariant-loop-slot l = lives_before (roster_of (state_of l.words).links) l.slot l.id ≡ lives_before (roster_of (state_of l.words).links) l.n l.id
