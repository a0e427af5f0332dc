-- By whether the settings are within their sizes.
use mathlib.Core.Path.{sym, ◌∙◌}
use Rattle.engine.specs.Deadlines.{confirm_timeout_verdict, earliest_confirm_timeout_of}
use Rattle.sending_in_place.proofs.deadlines.earliest_confirm_timeout.Goals as goal

pub named-requires : goal.named-requires
named-requires c = (c.requires, sym c.is_within.ensures ∙ c.if-is_within.true)

pub returns-then-is_within : goal.returns-then-is_within
unfolding earliest_confirm_timeout_of confirm_timeout_verdict
returns-then-is_within c = simp (c.requires.judged, sym c.is_within.ensures ∙ c.if-is_within.true, c.named.ensures)

pub returns : goal.returns
unfolding earliest_confirm_timeout_of confirm_timeout_verdict
returns c = simp (c.requires.judged, sym c.is_within.ensures ∙ c.if-is_within.false)
