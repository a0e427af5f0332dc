-- What was found is the list of the slots passed.
use Rattle.std.proofs.Common.{◌≡◌, length, ap, ◌∙◌, arith, rules}
use Rattle.engine.specs.Slowness.{over_slots, listed_in, note_step, note-end, note-room}
use Rattle.engine.proofs.slowness.list_over.Goals as goal

pub loop-slot-init : goal.loop-slot-init
unfolding over_slots
loop-slot-init c = c.none_listed-found.ensures

pub note-found-requires : goal.note-found-requires
note-found-requires c = let l = c.loop-slot in
    simp l.invariant (note-room c.args.rows l.slot (omega arith))

pub loop-slot-preserved : goal.loop-slot-preserved
loop-slot-preserved c = let l = c.loop-slot in
    let rows = c.args.rows in
    let long : length rows ≡ 8 = search rules in
    c.note-found.ensures ∙ simp l.invariant (note_step rows l.slot (omega arith) (omega arith))

pub returns : goal.returns
returns c = let l = c.loop-slot in
    let rows = c.args.rows in
    let long : length rows ≡ 8 = search rules in
    l.invariant ∙ ap listed_in (note-end rows l.slot (omega arith))
