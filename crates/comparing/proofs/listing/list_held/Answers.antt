-- Neither has it, one has it, or both.
use mathlib.Core.Path.{ap}
use native.Mathlib.Omega.{arith}
use borrow.Author.Rules.{rules}
use Rattle.comparing.specs.Listing.{words_for, has_of, pushed_none, part-near}
use Rattle.comparing.proofs.listing.list_held.Goals as goal

pub push-requires : goal.push-requires
push-requires c = record { n_in_bounds = omega (arith, c.requires, ap has_of c.in-Some-b.is); fits = search rules }

pub push-requires-in-None-b-2 : goal.push-requires-in-None-b-2
push-requires-in-None-b-2 c = record { n_in_bounds = omega (arith, c.requires, ap has_of c.in-Some.is); fits = search rules }

pub list_content-requires : goal.list_content-requires
list_content-requires c = record { n_in_bounds = omega (arith, c.requires, ap has_of c.in-Some.is); content_bound = part-near _ _ _ _ _ c.compare_runs-content.ensures }

pub returns-in-None-b : goal.returns-in-None-b
unfolding words_for
returns-in-None-b c = let a = c.args in
    rw (c.in-None.is, c.in-None-b.is) (pushed_none a.list.now a.n)

pub returns-in-Some-b : goal.returns-in-Some-b
returns-in-Some-b c = rw (c.in-None.is, c.in-Some-b.is) c.push.ensures

pub returns-in-None-b-2 : goal.returns-in-None-b-2
returns-in-None-b-2 c = rw (c.in-Some.is, c.in-None-b-2.is) c.push-in-None-b-2.ensures

pub returns-in-Some-b-2 : goal.returns-in-Some-b-2
returns-in-Some-b-2 c = rw (c.in-Some.is, c.in-Some-b-2.is, ← c.compare_runs-content.ensures) c.list_content.ensures
