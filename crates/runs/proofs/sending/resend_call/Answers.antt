-- A number of more than 32 bits makes it no call.
use borrow.Author.Tests.{lt-ltb, le-ltb}
use Rattle.runs.specs.Did.{none-did}
use Rattle.runs.specs.Bridges.{resend-did}
use Rattle.runs.proofs.sending.resend_call.Goals as goal

pub returns-then-number-ge-HALF : goal.returns-then-number-ge-HALF
returns-then-number-ge-HALF c = none-did _ _ _ (simp (le-ltb _ _ c.if-number-ge-HALF.true)) c.no_call.ensures

pub returns : goal.returns
returns c = resend-did _ _ _ _ _ c.args.slot c.args.time c.args.number (simp (lt-ltb _ _ c.if-number-ge-HALF.false)) c.tell_resent.ensures c.resend.ensures.value c.resend.ensures.words_after
