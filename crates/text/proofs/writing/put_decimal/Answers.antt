-- The digits that the library spells are put.
use mathlib.Core.Path.{◌∙◌}
use Rattle.text.specs.Put.{fewest-text}
use Rattle.text.proofs.writing.put_decimal.Goals as goal

pub returns : goal.returns
returns c =
    let e = c.decimal-count.ensures.digits ∙ fewest-text _ _ c.decimal-count.ensures.len in
    record { value = simp e at c.put.ensures.value; out_after = simp e at c.put.ensures.out_after }
