-- The slots that are left to look at give the same answer at each turn.
use Rattle.std.proofs.Common.{sym, refl, ◌∙◌}
use Rattle.engine.specs.Roster.{roster_of, lives-step, lives-none}
use Rattle.words.specs.Meaning.{state_of}
use Rattle.judging.proofs.roster.lives_before.Goals as goal

pub loop-slot-init : goal.loop-slot-init
loop-slot-init c = refl

pub returns-then-lives_in : goal.returns-then-lives_in
returns-then-lives_in c = let a = c.args in
    let l = c.loop-slot in
    sym (lives-step (roster_of (state_of a.words.now).links) a.id l.slot c.loop-slot-test.true ∙ simp (sym c.lives_in.ensures, c.if-lives_in.true)) ∙ l.invariant

pub loop-slot-preserved : goal.loop-slot-preserved
loop-slot-preserved c = let a = c.args in
    let l = c.loop-slot in
    sym (lives-step (roster_of (state_of a.words.now).links) a.id l.slot c.loop-slot-test.true ∙ simp (sym c.lives_in.ensures, c.if-lives_in.false)) ∙ l.invariant

pub returns : goal.returns
returns c = let a = c.args in
    sym (lives-none (roster_of (state_of a.words.now).links) a.id c.loop-slot.slot c.loop-slot-test.false) ∙ c.loop-slot.invariant
