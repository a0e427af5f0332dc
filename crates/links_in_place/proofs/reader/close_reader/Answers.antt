-- The words are those of a sound state.
use mathlib.Core.Path.{refl}
use Rattle.engine.specs.Closing.{close_of}
use Rattle.links_in_place.proofs.reader.close_reader.Goals as goal

pub returns : goal.returns
unfolding close_of
returns c = simp c.requires.judged record { value = refl; words_after = c.put_read_open.ensures; left = λ ne. absurd (ne refl) }
