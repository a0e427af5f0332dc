-- What is known of words that were taken as those of a sound state: they are the words that were lent, and were judged. Assumes nothing.
use Rattle.std.specs.Prelude.{◌≡◌, true, List, ℕ}
use Rattle.engine.specs.Decide.{soundb, sound_withb}
use Rattle.words.specs.Meaning.{state_of}

pub record Entered (taken lent : List ℕ) : Type 0 where
  pub same : taken ≡ lent
  pub judged : soundb (state_of lent) ≡ true

pub record EnteredWith (taken lent records : List ℕ) : Type 0 where
  pub same : taken ≡ lent
  pub judged : sound_withb (state_of lent) records ≡ true
