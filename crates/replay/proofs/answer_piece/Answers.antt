-- What is left of the piece goes in again: the session stands where the bytes before lead.
use mathlib.Core.Path.{refl, sym, ◌∙◌, ap}
use Prim.Native.Nat.{◌-◌, ◌≤◌}
use native.Mathlib.Omega.{arith}
use lib.ListN.{length, drop, length-drop}
use lib.Seq.{length-take-le, take_all}
use Rattle.replaying.specs.Feeding.{carrying, fed_by}
use Rattle.replaying.specs.Pieces.{lent, wrote-within, turn}
use Rattle.replay.proofs.answer_piece.Goals as goal

pub buffer-space-requires : goal.buffer-space-requires
buffer-space-requires g c = tt

pub slice_bounds-out-end : goal.slice_bounds-out-end
slice_bounds-out-end g c = c.buffer-space.ensures

pub loop-at-init : goal.loop-at-init
unfolding fed_by
loop-at-init g c = (refl, omega arith, refl, refl, omega (arith, c.buffer-space.ensures))

pub slice_bounds-feed-count : goal.slice_bounds-feed-count
slice_bounds-feed-count g c = omega (arith, c.loop-at.invariant.1)

pub slice_bounds-feed-start : goal.slice_bounds-feed-start
slice_bounds-feed-start g c = omega (arith, c.loop-at.invariant.1)

pub slice_bounds-feed-end : goal.slice_bounds-feed-end
slice_bounds-feed-end g c = omega (arith, c.loop-at.invariant.1)

pub feed-fed-requires : goal.feed-fed-requires
feed-fed-requires g c = tt

pub overflow_add-at : goal.overflow_add-at
overflow_add-at g c = let a = c.args in
    let l = c.loop-at in
    let e = c.feed-fed.ensures in
    let left = take_all (length a.piece.now - l.at) (drop l.at a.piece.now) (simp length-drop (omega arith)) in
    let t = turn (carrying a.session a.store.now a.records.now a.line.now) l.going l.store l.records l.line a.piece.now _ l.out l.at l.invariant.0 left c.loop-at-test.true l.invariant.4 in
    omega (arith, t.2, ap (λ f. f.used) e.value, c.well_formed.1.1.1.1.1.0.0)

pub slice_bounds-show-end : goal.slice_bounds-show-end
slice_bounds-show-end g c = let l = c.loop-at in
    let e = c.feed-fed.ensures in
    rw (e.value, e.out_after) (wrote-within (carrying l.going l.store l.records l.line) _ l.out)

pub slice_bounds-show-end-in-loop-at : goal.slice_bounds-show-end-in-loop-at
slice_bounds-show-end-in-loop-at g c =
    let l = c.loop-at in
    let f = c.feed-fed in
    let within : f.result.wrote ≤ length f.new.out =
    rw (f.ensures.value, f.ensures.out_after) (wrote-within (carrying l.going l.store l.records l.line) _ l.out)
    in
    sym (length-take-le _ _ within)

pub shape_of-store-in_err-show : goal.shape_of-store-in_err-show
shape_of-store-in_err-show g c = c.feed-fed.auto.store ∙ c.loop-at.invariant.2

pub shape_of-records-in_err-show : goal.shape_of-records-in_err-show
shape_of-records-in_err-show g c = c.feed-fed.auto.records ∙ c.loop-at.invariant.3

pub loop-at-smaller : goal.loop-at-smaller
loop-at-smaller g c = let a = c.args in
    let l = c.loop-at in
    let e = c.feed-fed.ensures in
    let left = take_all (length a.piece.now - l.at) (drop l.at a.piece.now) (simp length-drop (omega arith)) in
    let t = turn (carrying a.session a.store.now a.records.now a.line.now) l.going l.store l.records l.line a.piece.now _ l.out l.at l.invariant.0 left c.loop-at-test.true l.invariant.4 in
    omega (arith, t.1, t.2, ap (λ f. f.used) e.value)

pub loop-at-preserved : goal.loop-at-preserved
loop-at-preserved g c = let a = c.args in
    let l = c.loop-at in
    let e = c.feed-fed.ensures in
    let left = take_all (length a.piece.now - l.at) (drop l.at a.piece.now) (simp length-drop (omega arith)) in
    let t = turn (carrying a.session a.store.now a.records.now a.line.now) l.going l.store l.records l.line a.piece.now _ l.out l.at l.invariant.0 left c.loop-at-test.true l.invariant.4 in (
      rw (e.value, e.store_after, e.records_after, e.line_after) t.0,
      omega (arith, t.2, ap (λ f. f.used) e.value),
      c.feed-fed.auto.store ∙ l.invariant.2,
      c.feed-fed.auto.records ∙ l.invariant.3,
      omega (arith, l.invariant.4),
    )

pub shape_of-store : goal.shape_of-store
shape_of-store g c = c.loop-at.invariant.2

pub shape_of-records : goal.shape_of-records
shape_of-records g c = c.loop-at.invariant.3

pub returns : goal.returns
returns g c = let a = c.args in
    let l = c.loop-at in
    l.invariant.0 ∙ ap (λ p. lent (fed_by (carrying a.session a.store.now a.records.now a.line.now) p)) (take_all l.at a.piece.now (omega arith))
