-- The words of its row.
use Rattle.std.proofs.Common.{sym, ◌∙◌}
use Rattle.words.specs.Meaning.{state_of}
use Rattle.links_in_place.specs.Adding.{slot-live, id-read}
use Rattle.links_in_place.proofs.adding.lives.Goals as goal

pub returns-then-slot_ok : goal.returns-then-slot_ok
returns-then-slot_ok c = let a = c.args in
    let s = state_of a.words.now in
    simp (sym (slot-live s a.slot c.requires) ∙ sym c.slot_ok.ensures ∙ c.if-slot_ok.true, id-read a.words.now c.told-words a.slot c.requires, c.from.ensures)

pub returns-else-slot_ok : goal.returns-else-slot_ok
returns-else-slot_ok c = let a = c.args in
    let s = state_of a.words.now in
    simp (sym (slot-live s a.slot c.requires) ∙ sym c.slot_ok.ensures ∙ c.if-slot_ok.false, c.if-slot_ok.false)
