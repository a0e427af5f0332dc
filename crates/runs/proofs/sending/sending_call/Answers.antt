-- By the number.
use borrow.Author.Tests.{ne_eqb}
use Rattle.runs.specs.Did.{none-did}
use Rattle.runs.specs.Asked.{sending_asked}
use Rattle.runs.specs.Bridges.{flush-did}
use lib.ListN.{get_or}
use Rattle.runs.proofs.sending.sending_call.Goals as goal

pub returns-then-n-eq10 : goal.returns-then-n-eq10
unfolding sending_asked
returns-then-n-eq10 c = let e = c.send_call.ensures in simp c.if-n-eq10.true e

pub returns-then-n-eq12 : goal.returns-then-n-eq12
unfolding sending_asked
returns-then-n-eq12 c = let e = rw c.slot_of-slot.ensures at c.ack_call.ensures in simp c.if-n-eq12.true (λ v k. e c.args.sent.now v k)

pub returns-then-n-eq9 : goal.returns-then-n-eq9
unfolding sending_asked
returns-then-n-eq9 c = λ v k. flush-did _ _ _ _ _ c.slot_of-slot.result (get_or c.args.call.now 2 0) (simp (c.if-n-eq9.true, c.slot_of-slot.ensures)) c.tell.ensures c.flush.ensures.value c.flush.ensures.words_after c.args.sent.now v k

pub returns-then-n-eq11 : goal.returns-then-n-eq11
unfolding sending_asked
returns-then-n-eq11 c = let e = rw c.slot_of-slot.ensures at c.resend_call.ensures in simp c.if-n-eq11.true (λ v k. e c.args.sent.now v k)

pub returns : goal.returns
unfolding sending_asked
returns c = λ v k. none-did _ _ _ (simp (ne_eqb _ _ c.if-n-eq10.false, ne_eqb _ _ c.if-n-eq12.false, ne_eqb _ _ c.if-n-eq9.false, ne_eqb _ _ c.if-n-eq11.false)) c.no_call.ensures c.args.sent.now v k
