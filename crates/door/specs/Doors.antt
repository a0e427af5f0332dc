-- What a call that was judged is given. Assumes nothing.
use Rattle.std.specs.Prelude.{◌≡◌, true, List, ℕ}
use Rattle.refusal.specs.Tests.{split}
use Rattle.engine.specs.Decide.{soundb, sound_withb}
use Rattle.words.specs.Meaning.{state_of}
use Rattle.words.specs.Ready.{Ready}
use Rattle.judging.specs.Words.{sound-long}
use Rattle.receiving_in_place.specs.ReadyWith.{ReadyWith}

pub ready : (w : List ℕ) → soundb (state_of w) ≡ true → Ready w
ready w t = record { long = sound-long w t; judged = t }

pub ready_with : (w records : List ℕ) → sound_withb (state_of w) records ≡ true → ReadyWith w records
unfolding sound_withb
ready_with w records t = record { ready = ready w (split (soundb (state_of w)) _ t).0; recorded = λ e. t }
