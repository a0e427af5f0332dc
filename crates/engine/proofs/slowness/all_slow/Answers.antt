-- The definition asks the same of each row.
use Rattle.std.proofs.Common.{◌≡◌, ◌&&◌, List, [], ◌∷◌, refl, ap, ◌∙◌, rules, tests}
use Rattle.std.specs.List.{list_all}
use Rattle.std.proofs.lemmas.Iterator.{YieldsList-from_slice}
use Rattle.std.proofs.lemmas.Iterator.Search.{all_from_yields_List}
use Rattle.link.specs.declared.row.LinkRow.{LinkRow}
use Rattle.engine.specs.Slowness.{slow_if_confirmed, all_slow}
use Rattle.engine.proofs.slowness.all_slow.Goals as goal

each : (rows : List LinkRow) → list_all slow_if_confirmed rows ≡ all_slow rows
unfolding all_slow
each [] = refl
each (row ∷ rows) = ap (λ b. slow_if_confirmed row && b) (each rows)

pub returns : goal.returns
returns c =
    all_from_yields_List slow_if_confirmed _ _ c.all.result c.all.ensures.ran (YieldsList-from_slice c.args.rows (cc)) (λ x b q k. search (rules, tests))
    ∙ each c.args.rows
