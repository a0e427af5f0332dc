-- The definition asks the same of each row.
use Rattle.std.proofs.Common.{◌≡◌, ℕ, ◌&&◌, ◌||◌, List, [], ◌∷◌, eqb, refl, ap, ◌∙◌, rules, tests}
use Rattle.std.specs.List.{list_any}
use Rattle.std.proofs.lemmas.Iterator.{YieldsList-from_slice}
use Rattle.std.proofs.lemmas.Iterator.Search.{any_from_yields_List}
use Rattle.link.specs.declared.row.LinkRow.{LinkRow}
use Rattle.engine.specs.Links.{is_taken}
use Rattle.engine.proofs.links.is_taken.Goals as goal

each : (rows : List LinkRow) (id : ℕ) → list_any (λ row. row.live && eqb row.link_id id) rows ≡ is_taken rows id
unfolding is_taken
each [] id = refl
each (row ∷ rows) id = ap (λ b. (row.live && eqb row.link_id id) || b) (each rows id)

pub returns : goal.returns
returns c = let a = c.args in
    any_from_yields_List (λ row. row.live && eqb row.link_id a.link_id) _ _ c.any.result c.any.ensures.ran (YieldsList-from_slice a.links (cc)) (λ x b q k. search (rules, tests))
    ∙ each a.links a.link_id
