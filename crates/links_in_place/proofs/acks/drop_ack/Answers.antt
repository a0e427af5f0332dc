-- The acks move to the front, and the count is one less.
use mathlib.Core.Path.{◌∙◌}
use Rattle.link.specs.Acks.{shifted}
use Rattle.link.specs.Fields.{with_acks}
use Rattle.engine.specs.Fields.{with_row}
use Rattle.engine.specs.Sound.{row_at}
use Rattle.words.specs.Meaning.{state_of}
use Rattle.links_in_place.specs.Acks.{links-long, acks-dropped}
use Rattle.links_in_place.specs.RowsBare.{over}
use Rattle.links_in_place.proofs.acks.drop_ack.Goals as goal

pub returns : goal.returns
returns c = let w = c.args.words.now in
    let s = state_of w in
    let j = c.args.slot in
    let row = c.args.row in
    let q = with_acks (row_at s j) (shifted (row_at s j).tx_ack_queue) (row_at s j).ack_count in
    c.put_row.ensures
    ∙ (λ i. let t = c.shift_acks.ensures i in with_row t j (over (row_at t j) (c.fewer.ensures i)))
    ∙ acks-dropped s j row (rw (links-long w c.told-words) c.requires.0) c.requires.1 c.requires.2
