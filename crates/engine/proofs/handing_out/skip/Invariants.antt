-- As many turns as are left skip from there to the same number, and none changes the cell count.
use Rattle.std.proofs.Common.{◌≡◌, ◌-◌}
use Rattle.engine.specs.HandingOut.{skipped}
use Rattle.engine.proofs.handing_out.skip.Given as goal

abbrev pub invariant-loop : goal.invariant-loop
invariant-loop l =
    let N = l.initial.out.cells in
    (l.out.cells ≡ N) × (skipped N (N - l.counter) l.records l.out ≡ skipped N N l.records l.initial.out)
