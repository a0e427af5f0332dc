-- The piece and the buffer are beginnings of the rooms for them.
-- what is within a list is within one that begins with it
use mathlib.Core.Path.{sym}
use mathlib.Core.List.{List, ◌++◌}
use Prim.Native.Nat.{ℕ, ◌≤◌}
use native.Mathlib.Omega.{arith}
use lib.ListN.{length, length-append}
use lib.Seq.{length-take-le}
use Rattle.cuttings.proofs.feed_next.Goals as goal

within : (n : ℕ) (xs ys : List ℕ) → n ≤ length xs → n ≤ length (xs ++ ys)
within n xs ys h = simp length-append (omega arith)

pub slice_bounds-read_full-end : goal.slice_bounds-read_full-end
slice_bounds-read_full-end c = sym (length-take-le _ _ (omega (arith, c.requires.length_len_bound)))

pub slice_bounds-piece-end-2 : goal.slice_bounds-piece-end-2
slice_bounds-piece-end-2 c = within _ c.read_full-n.new.buf _ c.read_full-n.ensures.0

pub slice_bounds-feed_one-end : goal.slice_bounds-feed_one-end
slice_bounds-feed_one-end c = let r = c.read_full-n in
    sym (length-take-le r.result _ (within r.result r.new.buf _ r.ensures.0))

pub slice_bounds-feed_one-end-2 : goal.slice_bounds-feed_one-end-2
slice_bounds-feed_one-end-2 c = sym (length-take-le _ _ (omega (arith, c.requires.room_bound)))
