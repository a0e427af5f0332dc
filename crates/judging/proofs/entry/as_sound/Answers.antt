-- Words of a sound state have its length, so that they are an array of it.
use Rattle.std.proofs.Common.{sym, ◌∙◌}
use Rattle.judging.specs.Words.{sound-long}
use Rattle.judging.proofs.Matching.{match-map}
use Rattle.judging.proofs.entry.as_sound.Goals as goal

pub returns : goal.returns
returns c = let ok = sym c.is_sound.ensures ∙ c.if-not-is_sound.false in
    match-map c.as_array.result c.as_array.ensures.cases (λ ne. absurd (ne (sound-long c.args.words.now ok))) (λ y all. record { same = all.same; judged = ok })
