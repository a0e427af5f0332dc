-- What is left of the part adds to what was carried.
use Rattle.std.proofs.Common.{◌≡◌, drop}
use Rattle.replaying.specs.Feeding.{carried_count, carried_line}
use Rattle.replaying.proofs.feeding.gather.Given as goal

abbrev pub invariant-loop-b : goal.invariant-loop-b
invariant-loop-b l = (carried_count l.n (drop l.b-index l.part) ≡ carried_count l.count l.part)
    × (carried_line l.line l.n (drop l.b-index l.part) ≡ carried_line l.initial.line l.count l.part)
