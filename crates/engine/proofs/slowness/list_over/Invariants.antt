-- What was found is the list of the slots passed.
use Rattle.std.proofs.Common.{◌≡◌, take}
use Rattle.engine.specs.Slowness.{over_slots, listed_in}
use Rattle.engine.proofs.slowness.list_over.Given as goal

abbrev pub invariant-loop-slot : goal.invariant-loop-slot
invariant-loop-slot l = l.found ≡ listed_in (over_slots 0 (take l.slot l.row-items))
