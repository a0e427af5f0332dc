-- As many turns as are left take from there to the same state.
use Rattle.std.proofs.Common.{◌≡◌, ◌-◌}
use Rattle.link.specs.Sizes.{ACKS}
use Rattle.replaying.specs.Taking.{without_acks}
use Rattle.replaying.proofs.taking.take_acks.Given as goal

abbrev pub invariant-loop : goal.invariant-loop
invariant-loop l = without_acks (ACKS - l.counter) l.out ≡ without_acks ACKS l.initial.out
