-- By whether a packet is Sent; one of a sound state was sent within the latest time.
use Rattle.std.proofs.Common.{sym}
use Rattle.engine.specs.Deadlines.{first-within, timeout-passed}
use Rattle.engine.proofs.deadlines.named.Goals as goal

pub first_sent-requires : goal.first_sent-requires
first_sent-requires c = (timeout-passed c.args.s c.args.timeout c.requires).fine.packet-count

pub deadline-at-requires : goal.deadline-at-requires
deadline-at-requires c = let a = c.args in
    let passed = timeout-passed a.s a.timeout c.requires in
    (first-within a.s c.in-Some.flight passed.fine (sym c.in-Some.ensures), passed.within)
