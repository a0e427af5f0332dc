-- Equal, or one difference more.
use mathlib.Core.Path.{ap}
use native.Mathlib.Omega.{arith}
use borrow.Author.Rules.{rules}
use Rattle.comparing.specs.Listing.{words_for, place_of, pushed_none}
use Rattle.comparing.proofs.listing.list_content.Goals as goal

pub push-requires : goal.push-requires
push-requires c =
    record { n_in_bounds = c.requires.n_in_bounds; fits = (omega (arith, c.requires.content_bound, ap place_of c.in-Differ.is), search rules, search rules) }

pub push-requires-in-Begins : goal.push-requires-in-Begins
push-requires-in-Begins c =
    record { n_in_bounds = c.requires.n_in_bounds; fits = omega (arith, c.requires.content_bound, ap place_of c.in-Begins.is) }

pub returns-in-Equal : goal.returns-in-Equal
unfolding words_for
returns-in-Equal c = let a = c.args in
    rw c.in-Equal.is (pushed_none a.list.now a.n)

pub returns-in-Differ : goal.returns-in-Differ
returns-in-Differ c = rw c.in-Differ.is c.push.ensures

pub returns-in-Begins : goal.returns-in-Begins
returns-in-Begins c = rw c.in-Begins.is c.push-in-Begins.ensures
