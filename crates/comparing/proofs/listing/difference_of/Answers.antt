-- Each kind that the code tells is a place of the list of kinds; any other is past its end.
use native.Mathlib.Omega.{arith}
use mathlib.Core.Path.{sym, ◌∙◌}
use Rattle.comparing.specs.Words.{difference_in, other-kind}
use Rattle.comparing.proofs.listing.difference_of.Goals as goal

pub returns-in-0 : goal.returns-in-0
unfolding difference_in
returns-in-0 c = simp (sym c.kind_in.ensures ∙ c.in-0.is)

pub returns-in-1 : goal.returns-in-1
unfolding difference_in
returns-in-1 c = simp (sym c.kind_in.ensures ∙ c.in-1.is)

pub returns-in-2 : goal.returns-in-2
unfolding difference_in
returns-in-2 c = simp (sym c.kind_in.ensures ∙ c.in-2.is)

pub returns-in-3 : goal.returns-in-3
unfolding difference_in
returns-in-3 c = simp (sym c.kind_in.ensures ∙ c.in-3.is)

pub returns-in-4 : goal.returns-in-4
unfolding difference_in
returns-in-4 c = simp (sym c.kind_in.ensures ∙ c.in-4.is)

pub returns-in_default : goal.returns-in_default
returns-in_default c = sym (other-kind c.args.word (omega (arith, c.kind_in.ensures)))
