-- One packet less, and the next cell.
use Rattle.std.proofs.Common.{ap, length, arith, rules}
use Rattle.engine.specs.Ring.{window-step, window-none, next-cell-lt}
use Rattle.engine.specs.Packets.{no_packet}
use Rattle.engine.specs.InOrder.{packets_left}
use Rattle.engine.specs.Sizes.{PACKETS}
use Rattle.engine.proofs.table.InOrderIterator.next.Goals as goal

pub returns-then-self-eq0-clause-steps : goal.returns-then-self-eq0-clause-steps
unfolding packets_left
returns-then-self-eq0-clause-steps c = let it = c.args.self.now in
    let none = window-none PACKETS no_packet it.cells.now it.at it.left (omega arith) in
    (none, none)

pub invariant_of-self : goal.invariant_of-self
invariant_of-self c = record { inside = rw c.next_cell-self.ensures (next-cell-lt PACKETS c.args.self.now.at (omega arith)) }

pub returns-clause-steps : goal.returns-clause-steps
unfolding packets_left
returns-clause-steps c = let it = c.args.self.now in
    let step = window-step PACKETS no_packet it.cells.now it.at it.left (omega arith) in
    rw c.next_cell-self.ensures step

pub returns-clause-goes : goal.returns-clause-goes
unfolding packets_left
returns-clause-goes c = let it = c.args.self.now in
    let step = window-step PACKETS no_packet it.cells.now it.at it.left (omega arith) in
    let shorter = ap length step in
    let e = c.next_cell-self.ensures in
    search rules
