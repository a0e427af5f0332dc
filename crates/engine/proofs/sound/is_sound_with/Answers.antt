-- The state is judged first, then the length of its records, and then what they hold: what the pass finds is the decision.
use Rattle.std.proofs.Common.{◌≡◌, true, ne_eqb, sym, ◌∙◌}
use Rattle.refusal.specs.Tests.{and-true-first}
use Rattle.engine.specs.CellCount.{cell-count}
use Rattle.engine.specs.Received.{table_of}
use Rattle.engine.specs.Decide.{soundb, sound, sound_withb, records-unlike}
use Rattle.engine.specs.DecidedRecords.{found-records-same}
use Rattle.engine.proofs.Shapes.{shaped}
use Rattle.engine.proofs.sound.is_sound_with.Goals as goal

pub returns-then-not-is_sound : goal.returns-then-not-is_sound
unfolding sound_withb
returns-then-not-is_sound c = simp (sym c.is_sound.ensures ∙ c.if-not-is_sound.true)

pub returns-else-records-s : goal.returns-else-records-s
unfolding sound_withb
returns-else-records-s c = let s = c.args.s in
    let ok : soundb s ≡ true = sym c.is_sound.ensures ∙ c.if-not-is_sound.false in
    simp (ok, ne_eqb _ _ c.if-records-s.false, records-unlike (table_of s.rx c.args.records.now) c.if-records-s.false)

pub found_records-requires : goal.found_records-requires
found_records-requires c = let s = c.args.s in
    let ok : soundb s ≡ true = sym c.is_sound.ensures ∙ c.if-not-is_sound.false in
    let fine = sound s ok in
    record { lent = record { some = (cell-count s.rx.cells fine.cell-count).some; all = c.if-records-s.true }; used = fine.used }

pub returns-then-records-s : goal.returns-then-records-s
unfolding sound_withb
returns-then-records-s c = let s = c.args.s in
    let ok : soundb s ≡ true = sym c.is_sound.ensures ∙ c.if-not-is_sound.false in
    let fine = sound s ok in
    let shape = shaped s c.well_formed.0 in
    c.found_records.ensures
    ∙ found-records-same (table_of s.rx c.args.records.now) (cell-count s.rx.cells fine.cell-count) fine.near fine.used shape.expected-u32 shape.oldest-u32 shape.end-u32 c.if-records-s.true
    ∙ sym (and-true-first ok)
