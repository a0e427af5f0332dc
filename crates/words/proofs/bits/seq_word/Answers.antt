-- The half, as a number.
use mathlib.Core.Path.{ap}
use Rattle.seq.specs.Numbers.{seq_of}
use Rattle.words.proofs.bits.seq_word.Goals as goal

pub returns : goal.returns
returns c = ap seq_of c.half.ensures
