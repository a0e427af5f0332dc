-- Past the eight, or by its row.
use Rattle.std.proofs.Common.{eqb, sym, ap, ◌∙◌, le-ltb}
use Rattle.engine.specs.Roster.{lives_in}
use Rattle.words.specs.Meaning.{state_of}
use Rattle.judging.specs.Words.{lives-none, lives-some}
use Rattle.judging.proofs.roster.lives_in.Goals as goal

pub returns-then-slot-ge-SLOTS : goal.returns-then-slot-ge-SLOTS
unfolding lives_in
returns-then-slot-ge-SLOTS c = simp (le-ltb _ _ c.if-slot-ge-SLOTS.true)

pub returns-then-not-is_live : goal.returns-then-not-is_live
returns-then-not-is_live c = let a = c.args in
    sym (lives-none (state_of a.words.now) a.slot a.id c.if-slot-ge-SLOTS.false (sym c.is_live.ensures ∙ c.if-not-is_live.true))

pub returns : goal.returns
returns c = let a = c.args in
    ap (λ n. eqb n a.id) c.id_of.ensures ∙ sym (lives-some (state_of a.words.now) a.slot a.id c.if-slot-ge-SLOTS.false (sym c.is_live.ensures ∙ c.if-not-is_live.false))
