-- Half of the numbers past the start number, and the rank.
use mathlib.Core.Path.{◌∙◌, ap}
use Rattle.seq.specs.Numbers.{seq_of, plus}
use Rattle.comparing.specs.Ranks.{number_of}
use Rattle.comparing.proofs.listing.number_of.Goals as goal

pub returns : goal.returns
unfolding number_of
returns c = c.add.ensures ∙ ap (λ s. seq_of (plus s.0 c.args.rank)) c.add-middle.ensures
