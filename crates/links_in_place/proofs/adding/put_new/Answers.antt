-- The acks, and then the row.
use mathlib.Core.Path.{ap, ◌∙◌}
use Rattle.engine.specs.Fields.{with_row}
use Rattle.engine.specs.Sound.{row_at}
use Rattle.words.specs.Meaning.{state_of}
use Rattle.links_in_place.specs.Acks.{links-long}
use Rattle.links_in_place.specs.Adding.{new_row}
use Rattle.links_in_place.specs.RowsBare.{over}
use Rattle.links_in_place.proofs.adding.put_new.Goals as goal

pub returns : goal.returns
returns c = let a = c.args in
    let w = a.words.now in
    let j = a.slot in
    c.put_row.ensures
    ∙ ap (λ s. with_row s j (over (row_at s j) a.row)) c.clear_acks.ensures
    ∙ new_row (state_of w) j a.row (rw (links-long w c.told-words) c.requires)
