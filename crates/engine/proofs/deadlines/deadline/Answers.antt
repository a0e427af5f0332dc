-- Neither the time that a packet was definitely sent at nor the wait is above 2^56.
use Rattle.std.proofs.Common.{arith}
use Rattle.link.specs.Timeout.{duration-between, bounded}
use Rattle.engine.specs.Deadlines.{deadline_of}
use Rattle.engine.proofs.deadlines.deadline.Goals as goal

pub overflow_add-result : goal.overflow_add-result
overflow_add-result c = let a = c.args in
    let pre = c.requires in
    let bounds = bounded a.timeout pre.1 in
    let wait = duration-between a.timeout c.row_of-roundtrip.result.roundtrip a.flight.resent a.unreliable bounds.ordered in
    record { fits = omega (arith, c.definitely_sent.ensures, c.duration-wait.ensures, pre.0, wait.1, bounds.within) }

pub returns : goal.returns
unfolding deadline_of
returns c = simp (c.definitely_sent.ensures, c.duration-wait.ensures, c.row_of-roundtrip.ensures)
