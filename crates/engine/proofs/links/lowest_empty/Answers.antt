-- The definition counts the rows with a link from the first on.
use Rattle.std.proofs.Common.{◌≡◌, ℕ, suc, ◌+◌, cond, not, List, [], ◌∷◌, length, nat_lt, Some, None, ◌∙◌, arith, rules, tests}
use Rattle.std.specs.List.{position_or_len}
use Rattle.std.proofs.lemmas.Iterator.{YieldsList-from_slice}
use Rattle.std.proofs.lemmas.Iterator.Search.{position_from_yields_List}
use borrow.Table.Steps.{cases}
use Rattle.link.specs.declared.row.LinkRow.{LinkRow}
use Rattle.engine.specs.Links.{lowest_empty}
use Rattle.engine.proofs.links.lowest_empty.Goals as goal

counted : (rows : List LinkRow) (slot : ℕ) → slot + position_or_len (λ row. not row.live) rows ≡ lowest_empty rows slot
unfolding lowest_empty
counted [] slot = omega arith
counted (row ∷ rows) slot =
    let rest = counted rows (suc slot) in
    cases row.live
    (λ t. simp t (omega (arith, rest)))
    (λ t. simp t (omega arith))

pub returns : goal.returns
returns c = let links = c.args.links in
    let first = position_or_len (λ (row : LinkRow). not row.live) links in
    let same : first ≡ lowest_empty links 0 = omega (arith, counted links 0) in
    let long : length links ≡ 8 = search rules in
    position_from_yields_List (λ (row : LinkRow). not row.live) _ _ c.position.result c.position.ensures.ran (YieldsList-from_slice links (cc)) (λ x b q k. search (rules, tests))
    ∙ (λ i. cond (nat_lt (same i) (long i)) (Some (same i)) None)
