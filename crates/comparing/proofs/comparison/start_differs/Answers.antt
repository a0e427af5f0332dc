-- One start number, or two.
use Rattle.std.proofs.Common.{sym, ◌∙◌}
use Rattle.comparing.specs.Judging.{starts_in}
use Rattle.comparing.proofs.comparison.start_differs.Goals as goal

pub returns-then-eq : goal.returns-then-eq
unfolding starts_in
returns-then-eq c = simp (sym c.eq.ensures ∙ c.if-eq.true)

pub returns-else-eq : goal.returns-else-eq
unfolding starts_in
returns-else-eq c = simp (sym c.eq.ensures ∙ c.if-eq.false)
