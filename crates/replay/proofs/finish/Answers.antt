-- The last text is one line at most.
use mathlib.Core.Path.{sym}
use Prim.Native.Nat.{◌≤◌}
use lib.ListN.{length}
use lib.Seq.{length-take-le}
use Rattle.replaying.specs.Feeding.{carrying}
use Rattle.replaying.specs.Pieces.{closed-within}
use Rattle.replay.proofs.finish.Goals as goal

pub slice_bounds-text-end : goal.slice_bounds-text-end
slice_bounds-text-end g c = let a = c.args in
    let k = c.close-closed in
    rw (k.ensures.value, k.ensures.out_after) (closed-within (carrying a.session a.store.now a.records.now a.line.now) _)

pub slice_bounds-show-end : goal.slice_bounds-show-end
slice_bounds-show-end g c =
    let a = c.args in
    let k = c.close-closed in
    let within : k.result.wrote ≤ length k.new.out =
    rw (k.ensures.value, k.ensures.out_after) (closed-within (carrying a.session a.store.now a.records.now a.line.now) _)
    in
    sym (length-take-le k.result.wrote k.new.out within)
