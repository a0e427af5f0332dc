-- Past the eight, or the flag of its row.
use Rattle.std.proofs.Common.{◌<◌, ◌≤◌, ◌+◌, ◌*◌, get_or, sym, ap, ◌∙◌}
use borrow.Author.Tests.{le-ltb, lt-ltb}
use Rattle.engine.specs.Rows.{slot_ok}
use Rattle.words.specs.Meaning.{is_set}
use Rattle.words.specs.Read.{live-read}
use Rattle.words.proofs.gates.slot_ok.Goals as goal

pub returns-then-j-lt-SLOTS : goal.returns-then-j-lt-SLOTS
unfolding slot_ok
returns-then-j-lt-SLOTS c = let a = c.args in
    let small : a.slot < 8 = rw c.from-j.ensures at c.if-j-lt-SLOTS.true in
    simp (lt-ltb _ _ small) (c.is_set.ensures ∙ ap (λ j. is_set (get_or a.words.now (32 + j * 16) 0)) c.from-j.ensures ∙ sym (live-read a.words.now c.told-words a.slot small))

pub returns-else-j-lt-SLOTS : goal.returns-else-j-lt-SLOTS
unfolding slot_ok
returns-else-j-lt-SLOTS c = let a = c.args in
    let large : 8 ≤ a.slot = rw c.from-j.ensures at c.if-j-lt-SLOTS.false in
    simp (c.from-j.ensures, le-ltb _ _ large)
