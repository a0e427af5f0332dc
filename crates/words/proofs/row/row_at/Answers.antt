-- The row of the part.
use mathlib.Core.Path.{◌∙◌}
use Rattle.words.specs.Read.{row-got}
use mathlib.Core.Path.{◌∙◌}
use Rattle.words.proofs.row.row_at.Goals as goal

pub returns : goal.returns
returns c = c.row_in.ensures ∙ row-got c.args.words.now c.told-words c.args.slot c.requires
