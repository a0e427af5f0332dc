-- The slots that are left give the same answer at each turn.
use Rattle.std.proofs.Common.{◌≡◌, ◌≤◌}
use Rattle.engine.specs.Found.{distinct_below}
use Rattle.engine.specs.Roster.{roster_of}
use Rattle.words.specs.Meaning.{state_of}
use Rattle.judging.proofs.roster.distinct.Given as goal

abbrev pub invariant-loop-slot : goal.invariant-loop-slot
invariant-loop-slot l = (l.slot ≤ 8) × (distinct_below (roster_of (state_of l.words).links) l.slot ≡ distinct_below (roster_of (state_of l.words).links) 8)
