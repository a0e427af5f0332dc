-- As many turns as are left advance what is there to the same table.
use Rattle.std.proofs.Common.{◌≡◌, ◌-◌, length}
use Rattle.engine.specs.Received.{table_of}
use Rattle.engine.specs.Cells.{advanced}
use Rattle.engine.proofs.cells.advance.Given as goal

abbrev pub invariant-loop : goal.invariant-loop
invariant-loop l =
    let N = l.initial.out.cells in
    (l.out.cells ≡ N) × (length l.records ≡ length l.initial.records) × (advanced N (N - l.counter) (table_of l.out l.records) ≡ advanced N N (table_of l.initial.out l.initial.records))
