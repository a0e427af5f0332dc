-- What is left to empty leaves the same records at each turn.
use Rattle.std.proofs.Common.{◌≡◌, ◌-◌, ◌<◌, length, replicate}
use Rattle.engine.specs.Ring.{refilled}
use Rattle.engine.proofs.cells.empty_cells.Given as goal

abbrev pub invariant-loop : goal.invariant-loop
invariant-loop l = (l.at < l.cells) × (length l.records ≡ length l.initial.records)
    × (refilled l.cells l.records l.at (replicate (l.count - l.counter) 0) ≡ refilled l.cells l.initial.records l.initial.at (replicate l.count 0))
