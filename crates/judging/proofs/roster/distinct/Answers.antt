-- The slots that are left give the same answer at each turn.
use Rattle.std.proofs.Common.{◌-◌, sym, refl, ap, ◌∙◌, arith}
use Rattle.engine.specs.DecidedTables.{roster-at}
use Rattle.engine.specs.Found.{distinct-step, distinct_none}
use Rattle.engine.specs.Roster.{roster_of, lives_before}
use Rattle.words.specs.Meaning.{state_of}
use Rattle.judging.proofs.roster.distinct.Goals as goal

pub loop-slot-init : goal.loop-slot-init
loop-slot-init c = (omega arith, refl)

pub is_live-requires : goal.is_live-requires
is_live-requires c =
    omega arith

pub id_of-requires : goal.id_of-requires
id_of-requires c =
    omega arith

pub returns-then-lives_before : goal.returns-then-lives_before
returns-then-lives_before c = let s = state_of c.args.words.now in
    let r = roster_of s.links in
    let l = c.loop-slot in
    let at = roster-at s.links (l.slot - 1) (omega arith) in
    let live = at.0 ∙ sym c.is_live.ensures ∙ c.if-is_live.true in
    let twice = ap (lives_before r (l.slot - 1)) (at.1 ∙ sym c.id_of.ensures) ∙ sym c.lives_before.ensures ∙ c.if-lives_before.true in
    sym (distinct-step r l.slot c.loop-slot-test.true ∙ simp (live, twice)) ∙ l.invariant.1

pub loop-slot-preserved-else-lives_before : goal.loop-slot-preserved-else-lives_before
loop-slot-preserved-else-lives_before c = let s = state_of c.args.words.now in
    let r = roster_of s.links in
    let l = c.loop-slot in
    let at = roster-at s.links (l.slot - 1) (omega arith) in
    let live = at.0 ∙ sym c.is_live.ensures ∙ c.if-is_live.true in
    let twice = ap (lives_before r (l.slot - 1)) (at.1 ∙ sym c.id_of.ensures) ∙ sym c.lives_before.ensures ∙ c.if-lives_before.false in
    (omega arith, sym (distinct-step r l.slot c.loop-slot-test.true ∙ simp (live, twice)) ∙ l.invariant.1)

pub loop-slot-preserved : goal.loop-slot-preserved
loop-slot-preserved c = let s = state_of c.args.words.now in
    let l = c.loop-slot in
    let live = (roster-at s.links (l.slot - 1) (omega arith)).0 ∙ sym c.is_live.ensures ∙ c.if-is_live.false in
    (omega arith, sym (distinct-step (roster_of s.links) l.slot c.loop-slot-test.true ∙ simp live) ∙ l.invariant.1)

pub returns : goal.returns
returns c = sym (distinct_none (roster_of (state_of c.args.words.now).links) c.loop-slot.slot c.loop-slot-test.false) ∙ c.loop-slot.invariant.1
