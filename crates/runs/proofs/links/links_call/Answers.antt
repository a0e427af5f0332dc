-- By the number.
use borrow.Author.Tests.{ne_eqb}
use Rattle.runs.specs.Did.{none-did}
use Rattle.runs.specs.Asked.{link_asked}
use Rattle.runs.specs.Bridges.{remove-did, confirm-did, unconfirm-did, block-did, ping-did, pong-did}
use lib.ListN.{get_or}
use Rattle.runs.proofs.links.links_call.Goals as goal

pub returns-then-n-eq1 : goal.returns-then-n-eq1
unfolding link_asked
returns-then-n-eq1 c = let e = c.add_call.ensures in simp c.if-n-eq1.true e

pub returns-then-n-eq2 : goal.returns-then-n-eq2
unfolding link_asked
returns-then-n-eq2 c = remove-did _ _ _ _ _ c.slot_of-slot.result (simp (c.if-n-eq2.true, c.slot_of-slot.ensures)) c.tell.ensures c.remove.ensures.value c.remove.ensures.words_after

pub returns-then-n-eq3 : goal.returns-then-n-eq3
unfolding link_asked
returns-then-n-eq3 c = confirm-did _ _ _ _ _ c.slot_of-slot.result (simp (c.if-n-eq3.true, c.slot_of-slot.ensures)) c.tell-then-n-eq3.ensures c.confirm.ensures.value c.confirm.ensures.words_after

pub returns-then-n-eq4 : goal.returns-then-n-eq4
unfolding link_asked
returns-then-n-eq4 c = unconfirm-did _ _ _ _ _ c.slot_of-slot.result (simp (c.if-n-eq4.true, c.slot_of-slot.ensures)) c.tell-then-n-eq4.ensures c.unconfirm.ensures.value c.unconfirm.ensures.words_after

pub returns-then-n-eq5 : goal.returns-then-n-eq5
unfolding link_asked
returns-then-n-eq5 c = block-did _ _ _ _ _ c.slot_of-slot.result c.is_set.result (simp (c.if-n-eq5.true, c.slot_of-slot.ensures, c.is_set.ensures)) c.tell-then-n-eq5.ensures c.block.ensures.value c.block.ensures.words_after

pub returns-then-n-eq6 : goal.returns-then-n-eq6
unfolding link_asked
returns-then-n-eq6 c = let e = rw c.slot_of-slot.ensures at c.mark_call.ensures in simp c.if-n-eq6.true e

pub returns-then-n-eq7 : goal.returns-then-n-eq7
unfolding link_asked
returns-then-n-eq7 c = ping-did _ _ _ _ _ c.slot_of-slot.result (get_or c.args.call.now 2 0) (simp (c.if-n-eq7.true, c.slot_of-slot.ensures)) c.tell-then-n-eq7.ensures c.ping.ensures.value c.ping.ensures.words_after

pub returns-then-n-eq8 : goal.returns-then-n-eq8
unfolding link_asked
returns-then-n-eq8 c = pong-did _ _ _ _ _ c.slot_of-slot.result (get_or c.args.call.now 2 0) (simp (c.if-n-eq8.true, c.slot_of-slot.ensures)) c.tell-then-n-eq8.ensures c.pong.ensures.value c.pong.ensures.words_after

pub returns : goal.returns
unfolding link_asked
returns c = none-did _ _ _ (simp (ne_eqb _ _ c.if-n-eq1.false, ne_eqb _ _ c.if-n-eq2.false, ne_eqb _ _ c.if-n-eq3.false, ne_eqb _ _ c.if-n-eq4.false, ne_eqb _ _ c.if-n-eq5.false, ne_eqb _ _ c.if-n-eq6.false, ne_eqb _ _ c.if-n-eq7.false, ne_eqb _ _ c.if-n-eq8.false)) c.no_call.ensures
