-- Words of a sound state have its length, so that they are an array of it.
use Rattle.std.proofs.Common.{sym, ◌∙◌}
use Rattle.refusal.specs.Tests.{split}
use Rattle.engine.specs.Decide.{soundb, sound_withb}
use Rattle.words.specs.Meaning.{state_of}
use Rattle.judging.specs.Words.{sound-long}
use Rattle.judging.proofs.Matching.{match-map}
use Rattle.judging.proofs.entry.as_sound_with.Goals as goal

pub returns : goal.returns
unfolding sound_withb
returns c = let ok = sym c.is_sound_with.ensures ∙ c.if-not-is_sound_with.false in
    match-map c.as_array.result c.as_array.ensures.cases (λ ne. absurd (ne (sound-long c.args.words.now (split (soundb (state_of c.args.words.now)) _ ok).0))) (λ y all. record { same = all.same; judged = ok })
