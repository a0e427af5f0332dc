-- Past the eight, or by its row.
use mathlib.Core.Path.{sym, ap, ◌∙◌}
use borrow.Author.Tests.{le-ltb}
use Rattle.link.specs.declared.row.LinkRow.{LinkRow}
use Rattle.link.specs.Row.{empty_row}
use Rattle.engine.specs.Rows.{row_of, row-of}
use Rattle.words.specs.Meaning.{state_of}
use Rattle.receiving_in_place.proofs.effects.acks_at.Goals as goal

pub returns-then-j-ge-SLOTS : goal.returns-then-j-ge-SLOTS
unfolding row_of empty_row
returns-then-j-ge-SLOTS c = simp (le-ltb _ _ c.if-j-ge-SLOTS.true)

pub returns : goal.returns
returns c = let a = c.args in
    ap (λ (r : LinkRow). r.ack_count) c.row_at.ensures ∙ sym (ap (λ (r : LinkRow). r.ack_count) (row-of (state_of a.words.now) a.slot c.if-j-ge-SLOTS.false))
