-- By the number; what a family is not given it leaves.
use borrow.Author.Tests.{le-leb, lt-leb}
use Prim.Native.Nat.{◌<◌}
use lib.ListN.{get_or}
use native.Mathlib.Omega.{arith}
use Rattle.runs.specs.Asked.{asked_of}
use Rattle.runs.proofs.calls.one_call.Goals as goal

pub returns-then-n-le8 : goal.returns-then-n-le8
unfolding asked_of
returns-then-n-le8 c = simp (le-leb _ _ c.if-n-le8.true) (c.links_call.ensures c.args.sent.now c.args.received.now c.args.records.now)

pub returns-then-n-le12 : goal.returns-then-n-le12
unfolding asked_of
returns-then-n-le12 c =
    simp (lt-leb _ _ c.if-n-le8.false, le-leb _ _ c.if-n-le12.true) (c.sending_call.ensures c.args.received.now c.args.records.now)

pub returns-then-n-le15 : goal.returns-then-n-le15
unfolding asked_of
returns-then-n-le15 c =
    let h : 8 < get_or c.args.call.now 0 0 = omega (arith, c.if-n-le12.false) in
    simp (lt-leb (get_or c.args.call.now 0 0) 8 h, lt-leb _ _ c.if-n-le12.false, le-leb _ _ c.if-n-le15.true) (c.receiving_call.ensures c.args.sent.now)

pub returns : goal.returns
unfolding asked_of
returns c =
    let h : 8 < get_or c.args.call.now 0 0 = omega (arith, c.if-n-le15.false) in
    simp (lt-leb (get_or c.args.call.now 0 0) 8 h, lt-leb _ _ c.if-n-le12.false, lt-leb _ _ c.if-n-le15.false) (c.reader_call.ensures c.args.sent.now c.args.received.now c.args.records.now)
