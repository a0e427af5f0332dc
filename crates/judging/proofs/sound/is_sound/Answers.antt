-- Words of another length say no sound state; of a state's, what the passes find is the decision.
use Rattle.std.proofs.Common.{sym, ◌∙◌}
use Rattle.engine.specs.Decided.{found-same}
use Rattle.words.specs.Meaning.{state_of}
use Rattle.words.specs.Ready.{shaped-words}
use Rattle.judging.specs.Words.{unlike-words}
use Rattle.judging.proofs.sound.is_sound.Goals as goal

pub returns-in_default : goal.returns-in_default
returns-in_default c = sym (unlike-words c.args.words.now c.in_default.ensures.cases)

pub returns : goal.returns
returns c = let w = c.args.words.now in
    let all = c.in-Some.ensures.cases in
    rw all.same at (c.found_sound.ensures ∙ found-same (state_of c.in-Some.words.now) (rw all.same (shaped-words w all.long (λ i. (c.type_inv.words i).fits))))
