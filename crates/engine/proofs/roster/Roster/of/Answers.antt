-- The eight entries of each, one by one.
use Rattle.std.proofs.Common.{◌≡◌, get_or, map, false, rules}
use Rattle.std.specs.List.{range_with_len}
use Rattle.std.proofs.lemmas.List.FromFn.{fill_by_all}
use Rattle.link.specs.Row.{no_row}
use Rattle.engine.specs.Roster.{roster_of}
use Rattle.engine.proofs.roster.Roster.of.Goals as goal

pub returns : goal.returns
unfolding roster_of
returns c = let links = c.args.links in
    let live : c.from_fn.result ≡ map (λ k. (get_or links k no_row).live) (range_with_len 0 8) =
    fill_by_all (λ k. (get_or links k no_row).live) c.from_fn.result 8 false c.from_fn.ensures.items.long (λ k h. let at = c.from_fn.ensures.items.at k false h in search rules) in
    let ids : c.from_fn-2.result ≡ map (λ k. (get_or links k no_row).link_id) (range_with_len 0 8) =
    fill_by_all (λ k. (get_or links k no_row).link_id) c.from_fn-2.result 8 0 c.from_fn-2.ensures.items.long (λ k h. let at = c.from_fn-2.ensures.items.at k 0 h in search rules) in
    λ i. record { live = live i; ids = ids i }
