-- As many turns as are left take from there to the same state and records.
use Rattle.std.proofs.Common.{◌≡◌, ◌-◌, length}
use Rattle.replaying.specs.Sizes.{CELLS}
use Rattle.replaying.specs.Taking.{recorded, without_ready}
use Rattle.replaying.proofs.taking.take_ready.Given as goal

abbrev pub invariant-loop : goal.invariant-loop
invariant-loop l = (without_ready (CELLS - l.counter) (recorded l.out l.records) ≡ without_ready CELLS (recorded l.initial.out l.initial.records)) × (length l.records ≡ length l.initial.records)
