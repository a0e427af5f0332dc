-- The rows that are left to look at give the same slot at each turn.
use Rattle.std.proofs.Common.{◌≡◌, drop}
use Rattle.engine.specs.Links.{lowest_empty}
use Rattle.words.specs.Meaning.{state_of}
use Rattle.links_in_place.proofs.adding.lowest_empty.Given as goal

abbrev pub invariant-loop-slot : goal.invariant-loop-slot
invariant-loop-slot l = lowest_empty (drop l.slot (state_of l.words).links) l.slot ≡ lowest_empty (state_of l.words).links 0
