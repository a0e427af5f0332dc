-- What is left of the table, weighed on top of the tally so far, gives the same tally at each turn.
use Rattle.std.proofs.Common.{◌≡◌}
use Rattle.engine.specs.InOrder.{packets_left}
use Rattle.engine.specs.Tally.{tally_from, tally_of}
use Rattle.engine.proofs.packets.tallied.Given as goal

abbrev pub invariant-loop-p : goal.invariant-loop-p
invariant-loop-p l = tally_from l.fn.tx.resend_queue l.roster l.time (packets_left l.p-iterator) l.n.0 l.t ≡ tally_of l.fn.tx l.roster l.time
