-- What is left of the table gives the same answer at each turn.
use Rattle.std.proofs.Common.{◌≡◌, length}
use Rattle.engine.specs.InOrder.{packets_left}
use Rattle.engine.specs.Acking.{sweep_from, sweep_of}
use Rattle.engine.proofs.acking.swept.Given as goal

abbrev pub invariant-loop-p : goal.invariant-loop-p
invariant-loop-p l = (length (packets_left l.p-iterator) ≡ l.front.left) × (sweep_from (packets_left l.p-iterator) l.front.last l.front.held ≡ sweep_of l.fn.tx)
