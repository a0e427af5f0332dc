-- One test after another.
use Rattle.std.proofs.Common.{sym, ◌∙◌, le-leb}
use borrow.Author.Tests.{lt-leb}
use Rattle.judging.proofs.packet.flight_ok.Goals as goal

pub returns-then-not-lives_in : goal.returns-then-not-lives_in
returns-then-not-lives_in c = simp (sym c.lives_in.ensures ∙ c.if-not-lives_in.true)

pub returns-then-time-part : goal.returns-then-time-part
returns-then-time-part c = simp (sym c.lives_in.ensures ∙ c.if-not-lives_in.false, lt-leb _ _ c.if-time-part.true)

pub returns : goal.returns
returns c = simp (sym c.lives_in.ensures ∙ c.if-not-lives_in.false, le-leb _ _ c.if-time-part.false) c.flushed_ok.ensures
