-- By the number, then by the message that is named.
use mathlib.Core.Path.{sym, ◌∙◌}
use borrow.Author.Tests.{lt-ltb, le-ltb}
use Rattle.runs.specs.Did.{none-did}
use Rattle.runs.specs.Asked.{receive_asked}
use Rattle.runs.proofs.receiving.receive_call.Goals as goal

pub returns-then-call-ge-HALF : goal.returns-then-call-ge-HALF
unfolding receive_asked
returns-then-call-ge-HALF c = λ s. none-did _ _ _ (simp (le-ltb _ _ c.if-call-ge-HALF.true)) c.no_call.ensures s c.args.received.now c.args.records.now

pub returns-in-None : goal.returns-in-None
unfolding receive_asked
returns-in-None c = λ s. none-did _ _ _ (simp (lt-ltb _ _ c.if-call-ge-HALF.false, (sym c.message_given-given.ensures ∙ c.in-None.is))) c.no_call-in-None.ensures s c.args.received.now c.args.records.now

pub returns-in-Some : goal.returns-in-Some
unfolding receive_asked
returns-in-Some c = simp (lt-ltb _ _ c.if-call-ge-HALF.false, (sym c.message_given-given.ensures ∙ c.in-Some.is)) c.receive_message.ensures
