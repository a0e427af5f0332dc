-- The state is judged first, then the length of its records, and then what they hold: what the pass finds is the decision.
use Rattle.std.proofs.Common.{◌≡◌, true, length, sym, ap, ◌∙◌, subst}
use Rattle.refusal.specs.Tests.{and-true-first}
use Rattle.engine.specs.declared.state.Receiving.{Receiving}
use Rattle.engine.specs.CellCount.{cell-count}
use Rattle.engine.specs.CellTally.{Judged, found_records}
use Rattle.engine.specs.Received.{table_of}
use Rattle.engine.specs.Decide.{soundb, sound, sound_withb, records-unlike}
use Rattle.engine.specs.DecidedRecords.{found-records-same}
use Rattle.words.specs.Meaning.{state_of}
use Rattle.words.specs.Ready.{shaped-words}
use Rattle.judging.specs.Words.{sound-long, unlike-words}
use Rattle.judging.proofs.sound.is_sound_with.Goals as goal

pub returns-then-not-is_sound : goal.returns-then-not-is_sound
unfolding sound_withb
returns-then-not-is_sound c = simp (sym c.is_sound.ensures ∙ c.if-not-is_sound.true)

pub returns-in_default : goal.returns-in_default
unfolding sound_withb
returns-in_default c = simp (unlike-words c.args.words.now c.in_default.ensures.cases)

pub returns-then-records-rx : goal.returns-then-records-rx
unfolding sound_withb
returns-then-records-rx c = let w = c.args.words.now in
    let s = state_of w in
    let ok : soundb s ≡ true = sym c.is_sound.ensures ∙ c.if-not-is_sound.false in
    simp (ok, records-unlike (table_of s.rx c.args.records.now) (λ e. c.if-records-rx.true (e ∙ ap (λ (r : Receiving). r.cells) (sym (rw c.in-Some.ensures.cases.same at c.rx_of-rx.ensures)))))

pub found_records-requires : goal.found_records-requires
found_records-requires c = let w = c.args.words.now in
    let s = state_of w in
    let ok : soundb s ≡ true = sym c.is_sound.ensures ∙ c.if-not-is_sound.false in
    let fine = sound s ok in
    subst (λ (r : Receiving). Judged r (length c.args.records.now)) (sym (rw c.in-Some.ensures.cases.same at c.rx_of-rx.ensures))
    (record { lent = record { some = (cell-count s.rx.cells fine.cell-count).some; all = c.if-records-rx.false ∙ ap (λ (r : Receiving). r.cells) (rw c.in-Some.ensures.cases.same at c.rx_of-rx.ensures) }; used = fine.used })

pub returns : goal.returns
unfolding sound_withb
returns c = let w = c.args.words.now in
    let s = state_of w in
    let ok : soundb s ≡ true = sym c.is_sound.ensures ∙ c.if-not-is_sound.false in
    let fine = sound s ok in
    let shape = shaped-words w (sound-long w ok) (λ i. (c.type_inv.words i).fits) in
    let records = c.args.records.now in
    let e = (rw c.in-Some.ensures.cases.same at c.rx_of-rx.ensures) in
    c.found_records.ensures
    ∙ ap (λ (r : Receiving). found_records (table_of r records)) e
    ∙ found-records-same (table_of s.rx records) (cell-count s.rx.cells fine.cell-count) fine.near fine.used shape.expected-u32 shape.oldest-u32 shape.end-u32 (c.if-records-rx.false ∙ ap (λ (r : Receiving). r.cells) e)
    ∙ sym (and-true-first ok)
