-- By the number.
use borrow.Author.Tests.{ne_eqb}
use Rattle.runs.specs.Did.{none-did}
use Rattle.runs.specs.Asked.{reader_asked}
use Rattle.runs.specs.Bridges.{take-ack-did, due-did, close-did}
use Rattle.runs.proofs.reader.reader_call.Goals as goal

pub returns-then-n-eq16 : goal.returns-then-n-eq16
unfolding reader_asked
returns-then-n-eq16 c = take-ack-did _ _ _ _ _ c.slot_of-slot.result (simp (c.if-n-eq16.true, c.slot_of-slot.ensures)) c.tell_ack.ensures c.take_ack.ensures.value c.take_ack.ensures.words_after

pub returns-then-n-eq17 : goal.returns-then-n-eq17
unfolding reader_asked
returns-then-n-eq17 c = due-did _ _ _ _ (simp c.if-n-eq17.true) c.tell_due.ensures c.is_consume_ack_required.ensures

pub returns-then-n-eq18 : goal.returns-then-n-eq18
unfolding reader_asked
returns-then-n-eq18 c = close-did _ _ _ _ _ (simp c.if-n-eq18.true) c.tell.ensures c.close_reader.ensures.value c.close_reader.ensures.words_after

pub returns-then-n-eq19 : goal.returns-then-n-eq19
unfolding reader_asked
returns-then-n-eq19 c = let e = c.deadline_call.ensures in simp c.if-n-eq19.true e

pub returns : goal.returns
unfolding reader_asked
returns c = none-did _ _ _ (simp (ne_eqb _ _ c.if-n-eq16.false, ne_eqb _ _ c.if-n-eq17.false, ne_eqb _ _ c.if-n-eq18.false, ne_eqb _ _ c.if-n-eq19.false)) c.no_call.ensures
