-- The call stands where the bytes that it used lead.
use mathlib.Core.Path.{◌≡◌}
use Prim.Native.Nat.{◌-◌}
use lib.ListN.{length}
use Rattle.replaying.specs.Feeding.{carrying}
use Rattle.replaying.specs.FeedLine.{fed_as, Going}
use Rattle.replaying.proofs.feeding.feed.Given as goal

abbrev pub invariant-loop-used : goal.invariant-loop-used
invariant-loop-used l = Going (carrying (record { replay = l.initial.said.replay; count = l.initial.count }) l.initial.store l.initial.records l.initial.line) l.piece l.initial.out
    (fed_as (record { replay = l.said.replay; count = l.count }) l.used l.wrote) l.store l.records l.line l.out
    × (length l.store ≡ length l.initial.store)
    × (length l.records ≡ length l.initial.records)

abbrev pub decreases-loop-used : goal.decreases-loop-used
decreases-loop-used l = length l.piece - l.used
