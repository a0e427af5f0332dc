-- One test after another.
use Rattle.std.proofs.Common.{sym, ◌∙◌}
use Rattle.judging.proofs.sound.links_ok.Goals as goal

pub returns-then-not-rows_ok : goal.returns-then-not-rows_ok
returns-then-not-rows_ok c = simp (sym c.rows_ok.ensures ∙ c.if-not-rows_ok.true)

pub returns-then-not-distinct : goal.returns-then-not-distinct
returns-then-not-distinct c = simp (sym c.rows_ok.ensures ∙ c.if-not-rows_ok.false, sym c.distinct.ensures ∙ c.if-not-distinct.true)

pub returns : goal.returns
returns c = simp (sym c.rows_ok.ensures ∙ c.if-not-rows_ok.false, sym c.distinct.ensures ∙ c.if-not-distinct.false)
