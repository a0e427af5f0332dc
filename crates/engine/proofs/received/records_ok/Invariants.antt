-- What is left of the records in use, weighed on top of the sum so far, gives the same tally at each turn; a record that is not well spoils it.
use Rattle.std.proofs.Common.{◌≡◌, ◌-◌, ◌<◌, true}
use Rattle.engine.specs.CellTally.{record_tally_from}
use Rattle.engine.specs.Ring.{window}
use Rattle.engine.proofs.received.records_ok.Given as goal

abbrev pub invariant-loop-k : goal.invariant-loop-k
invariant-loop-k l = (l.at < l.cells)
    × (record_tally_from (window l.cells 0 l.records l.at (l.used - l.k)) l.k l.expected (record { ok = true; size = l.size }) ≡ record_tally_from (window l.cells 0 l.records l.initial.at l.used) 0 l.expected (record { ok = true; size = 0 }))
