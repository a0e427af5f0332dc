-- The rows that are left to look at give the same slot at each turn.
use Rattle.std.proofs.Common.{◌≡◌, ◌<◌, true, false, length, get_or, sym, ◌∙◌, arith}
use borrow.Author.Tests.{lt-ltb}
use Rattle.link.specs.Row.{no_row}
use Rattle.engine.specs.Links.{lowest_in, lowest_step, lowest-none}
use Rattle.words.specs.Meaning.{state_of}
use Rattle.links_in_place.specs.Acks.{links-long}
use Rattle.links_in_place.specs.Adding.{slot-live, lowest_slot}
use Rattle.links_in_place.proofs.adding.lowest_empty.Goals as goal

pub returns-then-not-slot_ok : goal.returns-then-not-slot_ok
unfolding lowest_slot
returns-then-not-slot_ok c = let rows = (state_of c.args.words.now).links in let long : length rows ≡ 8 = links-long c.args.words.now c.told-words in
    let l = c.loop-slot in
    let small : l.slot < 8 = omega arith in
    let dead : (get_or rows l.slot no_row).live ≡ false = sym (slot-live (state_of c.args.words.now) l.slot small) ∙ sym c.slot_ok.ensures ∙ c.if-not-slot_ok.true in
    let found : lowest_in (state_of c.args.words.now) ≡ l.slot = sym l.invariant ∙ lowest_step rows l.slot l.slot (omega arith) ∙ simp dead in
    simp (found, lt-ltb _ _ small)

pub loop-slot-preserved : goal.loop-slot-preserved
loop-slot-preserved c = let rows = (state_of c.args.words.now).links in let long : length rows ≡ 8 = links-long c.args.words.now c.told-words in
    let l = c.loop-slot in
    let small : l.slot < 8 = omega arith in
    let alive : (get_or rows l.slot no_row).live ≡ true = sym (slot-live (state_of c.args.words.now) l.slot small) ∙ sym c.slot_ok.ensures ∙ c.if-not-slot_ok.false in
    sym (lowest_step rows l.slot l.slot (omega arith) ∙ simp alive) ∙ l.invariant

pub returns : goal.returns
unfolding lowest_slot
returns c = let rows = (state_of c.args.words.now).links in let long : length rows ≡ 8 = links-long c.args.words.now c.told-words in
    let l = c.loop-slot in
    let end : l.slot ≡ 8 = omega arith in
    let none : lowest_in (state_of c.args.words.now) ≡ 8 = sym l.invariant ∙ lowest-none rows l.slot l.slot (omega arith) ∙ end in
    simp none
