-- A part that is not within the bytes makes it no call.
use Prim.Native.Nat.{◌+◌, ◌-◌}
use lib.ListN.{get_or, take, drop}
use Rattle.runs.specs.Bridges.{receive-did}
use mathlib.Core.Path.{◌≡◌, sym, ◌∙◌}
use native.Mathlib.Omega.{arith}
use Rattle.runs.specs.Asked.{within-true}
use Rattle.runs.specs.Did.{none-did}
use Rattle.runs.proofs.receiving.receive_message.Goals as goal

pub returns-then-not-within : goal.returns-then-not-within
returns-then-not-within c = λ s. none-did _ _ _ (simp (sym c.within.ensures ∙ c.if-not-within.true)) c.no_call.ensures s c.args.received.now c.args.records.now

pub overflow_add-end : goal.overflow_add-end
overflow_add-end c = omega (arith, within-true _ _ _ (sym c.within.ensures ∙ c.if-not-within.false))

pub slice_bounds-receive-end : goal.slice_bounds-receive-end
slice_bounds-receive-end c = omega (arith, within-true _ _ _ (sym c.within.ensures ∙ c.if-not-within.false))

pub returns : goal.returns
returns c = let e = c.receive.ensures in
    let xs = c.args.call.now in
    let from = get_or xs 5 0 in
    let len = get_or xs 6 0 in
    let long : from + len - from ≡ len = omega arith in
    receive-did _ _ _ _ _ _ _ _ _ c.slot_of-slot.result c.args.msg (get_or xs 3 0) (take (from + len - from) (drop from c.args.bytes.now)) (simp ((sym c.within.ensures ∙ c.if-not-within.false), c.slot_of-slot.ensures, long)) c.tell.ensures e.value e.words_after e.store_after e.records_after
