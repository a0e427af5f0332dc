-- As many cells as were passed are empty, and the rest as they were.
use Rattle.std.proofs.Common.{◌≡◌, length}
use Rattle.words.specs.Layout.{WORDS}
use Rattle.words.specs.Meaning.{state_of}
use Rattle.links_in_place.specs.Zeros.{emptied}
use Rattle.links_in_place.proofs.fresh.put_packets.Given as goal

abbrev pub invariant-loop-at : goal.invariant-loop-at
invariant-loop-at l = (length l.words ≡ WORDS) × (state_of l.words ≡ emptied (state_of l.initial.words) l.at)
