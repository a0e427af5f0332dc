-- What is left of the piece goes in again: the session stands where the bytes before lead.
use mathlib.Core.Path.{◌≡◌}
use Prim.Native.Nat.{◌-◌, ◌≤◌}
use lib.ListN.{length, take}
use Rattle.replaying.specs.Writing.{LINE_TEXT}
use Rattle.replaying.specs.Feeding.{carrying, fed_by}
use Rattle.replaying.specs.Pieces.{lent}
use Rattle.replay.proofs.answer_piece.Given as goal

abbrev pub invariant-loop-at : goal.invariant-loop-at
invariant-loop-at g l = (carrying l.going l.store l.records l.line ≡ lent (fed_by (carrying l.initial.going l.initial.store l.initial.records l.initial.line) (take l.at l.piece)))
    × (l.at ≤ length l.piece)
    × (length l.store ≡ length l.initial.store)
    × (length l.records ≡ length l.initial.records)
    × (LINE_TEXT ≤ length l.out)

abbrev pub decreases-loop-at : goal.decreases-loop-at
decreases-loop-at g l = length l.piece - l.at
