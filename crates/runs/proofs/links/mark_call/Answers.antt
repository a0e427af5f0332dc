-- A number of more than 32 bits makes it no call.
use borrow.Author.Tests.{lt-ltb, le-ltb}
use Rattle.runs.specs.Did.{none-did}
use Rattle.runs.specs.Bridges.{mark-did}
use Rattle.seq.specs.Numbers.{seq_of}
use Rattle.runs.proofs.links.mark_call.Goals as goal

pub returns-then-number-ge-HALF : goal.returns-then-number-ge-HALF
returns-then-number-ge-HALF c = none-did _ _ _ (simp (le-ltb _ _ c.if-number-ge-HALF.true)) c.no_call.ensures

pub returns : goal.returns
returns c = mark-did _ _ _ _ _ c.args.slot (seq_of c.args.number) (simp (lt-ltb _ _ c.if-number-ge-HALF.false)) c.tell.ensures c.mark.ensures.value c.mark.ensures.words_after
