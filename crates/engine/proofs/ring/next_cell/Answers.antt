-- One further, or back to the first cell: also where the sum goes round, since there are fewer cells than that.
use Rattle.std.proofs.Common.{◌+◌, ltb, arith, ltb-false, ltb-true, le-ltb}
use borrow.Table.Steps.{cases}
use Rattle.engine.specs.Ring.{next_cell}
use Rattle.engine.proofs.ring.next_cell.Goals as goal

pub returns-then-next-cells : goal.returns-then-next-cells
unfolding next_cell
returns-then-next-cells c = let a = c.args in
    cases (ltb (a.at + 1) a.cells)
    (λ t. let h = ltb-true (a.at + 1) a.cells t in simp t (omega arith))
    (λ t. let h = ltb-false (a.at + 1) a.cells t in simp t (omega arith))

pub returns-else-next-cells : goal.returns-else-next-cells
unfolding next_cell
returns-else-next-cells c = let a = c.args in
    simp (le-ltb (a.at + 1) a.cells (omega arith))
