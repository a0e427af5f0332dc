-- The rows that are left to look at give the same answer at each turn.
use Rattle.std.proofs.Common.{◌≡◌, drop}
use Rattle.engine.specs.Links.{is_taken}
use Rattle.words.specs.Meaning.{state_of}
use Rattle.links_in_place.proofs.adding.is_taken.Given as goal

abbrev pub invariant-loop-slot : goal.invariant-loop-slot
invariant-loop-slot l = is_taken (drop l.slot (state_of l.words).links) l.link_id ≡ is_taken (state_of l.words).links l.link_id
