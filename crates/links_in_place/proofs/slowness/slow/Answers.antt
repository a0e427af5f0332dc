-- Eight rows without their acks.
use Rattle.std.proofs.Common.{◌∙◌}
use Rattle.std.specs.Prelude.{[], ◌∷◌}
use Rattle.engine.specs.Slowness.{slow_of}
use Rattle.words.specs.Meaning.{state_of}
use Rattle.links_in_place.specs.Acks.{links-long}
use Rattle.links_in_place.specs.SlowBare.{slow-bare}
use Rattle.links_in_place.proofs.slowness.slow.Goals as goal

-- there are as many words as the array has
pub returns-in_default : goal.returns-in_default
returns-in_default c = absurd (c.in_default.ensures.cases c.requires)

pub returns : goal.returns
returns c = let rows = (state_of c.args.words.now).links in
    rw c.in-Some.ensures.cases.same at (c.slow_rows.ensures
    ∙ (λ i. slow_of (c.row_at.ensures i ∷ c.row_at-2.ensures i ∷ c.row_at-3.ensures i ∷ c.row_at-4.ensures i ∷ c.row_at-5.ensures i ∷ c.row_at-6.ensures i ∷ c.row_at-7.ensures i ∷ c.row_at-8.ensures i ∷ [])))
    ∙ slow-bare rows (links-long c.args.words.now c.requires)
