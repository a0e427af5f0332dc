-- Words of a sound state have its length, so that they are an array of it.
use Rattle.std.proofs.Common.{refl, sym, ◌∙◌}
use Rattle.judging.specs.Words.{sound-long}
use Rattle.judging.proofs.Matching.{match-map}
use Rattle.judging.proofs.entry.as_mut_sound.Goals as goal

pub returns : goal.returns
returns c = let ok = sym c.is_sound.ensures ∙ c.if-not-is_sound.false in
    (refl, record { value = match-map c.as_mut_array.result c.as_mut_array.ensures.cases (λ ne. absurd (ne (sound-long c.args.words.now ok))) (λ y all. record { same = all.same; judged = ok }); writes_back = tt })
