-- By whether there is such a slot.
use borrow.Author.Tests.{lt-ltb, le-ltb}
use Rattle.link.specs.Row.{empty_row}
use Rattle.engine.specs.Rows.{row_of}
use Rattle.words.specs.Encoded.{no_acks}
use Rattle.sending_in_place.proofs.rows.row_of.Goals as goal

pub returns-then-slot-ge-SLOT_END : goal.returns-then-slot-ge-SLOT_END
unfolding row_of empty_row no_acks
returns-then-slot-ge-SLOT_END c = simp (c.empty.ensures, le-ltb _ _ c.if-slot-ge-SLOT_END.true)

pub returns : goal.returns
unfolding row_of
returns c = simp (c.row_at.ensures, lt-ltb _ _ c.if-slot-ge-SLOT_END.false)
