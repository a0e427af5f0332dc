-- Neither the time that a packet was definitely sent at nor the wait is above 2^56.
use native.Mathlib.Omega.{arith}
use Rattle.link.specs.Timeout.{duration-between, bounded}
use Rattle.engine.specs.Deadlines.{deadline_of}
use Rattle.sending_in_place.proofs.deadlines.deadline.Goals as goal

pub overflow_add-result : goal.overflow_add-result
overflow_add-result c =
    let bounds = bounded c.args.timeout c.requires.1 in
    let wait = duration-between c.args.timeout c.row_of-roundtrip.result.roundtrip c.args.flight.resent c.args.unreliable bounds.ordered in
    record { fits = omega (arith, c.definitely_sent.ensures, c.duration-wait.ensures, c.requires.0, wait.1, bounds.within) }

pub returns : goal.returns
unfolding deadline_of
returns c = simp (c.definitely_sent.ensures, c.duration-wait.ensures, c.row_of-roundtrip.ensures)
