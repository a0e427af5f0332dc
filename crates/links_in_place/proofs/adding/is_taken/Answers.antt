-- The rows that are left to look at give the same answer at each turn.
use Rattle.std.proofs.Common.{◌≡◌, length, sym, ◌∙◌, arith}
use Rattle.engine.specs.Links.{taken_step, taken_none}
use Rattle.words.specs.Meaning.{state_of}
use Rattle.links_in_place.specs.Acks.{links-long}
use Rattle.links_in_place.proofs.adding.is_taken.Goals as goal

pub returns-then-lives : goal.returns-then-lives
returns-then-lives c = let rows = (state_of c.args.words.now).links in let long : length rows ≡ 8 = links-long c.args.words.now c.told-words in
    let l = c.loop-slot in
    sym (taken_step rows l.slot c.args.link_id (omega arith) ∙ simp (sym c.lives.ensures, c.if-lives.true)) ∙ l.invariant

pub loop-slot-preserved : goal.loop-slot-preserved
loop-slot-preserved c = let rows = (state_of c.args.words.now).links in let long : length rows ≡ 8 = links-long c.args.words.now c.told-words in
    let l = c.loop-slot in
    sym (taken_step rows l.slot c.args.link_id (omega arith) ∙ simp (sym c.lives.ensures, c.if-lives.false)) ∙ l.invariant

pub returns : goal.returns
returns c = let rows = (state_of c.args.words.now).links in let long : length rows ≡ 8 = links-long c.args.words.now c.told-words in
    let l = c.loop-slot in
    sym (taken_none rows l.slot c.args.link_id (omega arith)) ∙ l.invariant
