-- The text is a beginning of its buffer.
use mathlib.Core.Path.{sym}
use Prim.Native.Nat.{◌≤◌}
use lib.ListN.{length}
use lib.Seq.{length-take-le}
use Rattle.replaying.specs.Feeding.{carrying}
use Rattle.replaying.specs.Pieces.{wrote-within}
use Rattle.cuttings.proofs.feed_one.Goals as goal

pub slice_bounds-write_all-end : goal.slice_bounds-write_all-end
slice_bounds-write_all-end c = let a = c.args in
    let e = c.feed-fed.ensures in
    rw (e.value, e.out_after) (wrote-within (carrying a.session a.store.now a.records.now a.line.now) a.piece.now a.out.now)

pub slice_bounds-write_all-end-2 : goal.slice_bounds-write_all-end-2
slice_bounds-write_all-end-2 c =
    let a = c.args in
    let f = c.feed-fed in
    let within : f.result.wrote ≤ length f.new.out =
    rw (f.ensures.value, f.ensures.out_after) (wrote-within (carrying a.session a.store.now a.records.now a.line.now) a.piece.now a.out.now)
    in
    sym (length-take-le _ _ within)
