-- Each turn lists the differences on the next number of either table.
use Rattle.std.proofs.Common.{◌≡◌, ◌+◌, length}
use Rattle.comparing.specs.Listing.{Merging}
use Rattle.comparing.proofs.listing.list_all.Given as goal

abbrev pub invariant-loop-rank : goal.invariant-loop-rank
invariant-loop-rank l = Merging l.first l.second l.start.0 l.a l.b l.initial.list l.x l.y l.n l.list × (length l.list ≡ length l.initial.list)

abbrev pub decreases-loop-rank : goal.decreases-loop-rank
decreases-loop-rank l = length l.x + length l.y
