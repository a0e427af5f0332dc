-- By the number.
use borrow.Author.Tests.{ne_eqb}
use Rattle.runs.specs.Did.{none-did}
use Rattle.runs.specs.Asked.{receiving_asked}
use Rattle.runs.specs.Bridges.{show-did, take-did}
use Rattle.runs.proofs.receiving.receiving_call.Goals as goal

pub returns-then-n-eq13 : goal.returns-then-n-eq13
unfolding receiving_asked
returns-then-n-eq13 c = let e = c.receive_call.ensures in simp c.if-n-eq13.true e

pub returns-then-n-eq14 : goal.returns-then-n-eq14
unfolding receiving_asked
returns-then-n-eq14 c = show-did _ _ _ _ _ _ (simp c.if-n-eq14.true) c.tell_message.ensures c.showing.ensures

pub returns-then-n-eq15 : goal.returns-then-n-eq15
unfolding receiving_asked
returns-then-n-eq15 c = take-did _ _ _ _ _ _ _ _ (simp c.if-n-eq15.true) c.tell_message-then-n-eq15.ensures c.take.ensures.value c.take.ensures.words_after c.take.ensures.records_after

pub returns : goal.returns
unfolding receiving_asked
returns c = λ s. none-did _ _ _ (simp (ne_eqb _ _ c.if-n-eq13.false, ne_eqb _ _ c.if-n-eq14.false, ne_eqb _ _ c.if-n-eq15.false)) c.no_call.ensures s c.args.received.now c.args.records.now
