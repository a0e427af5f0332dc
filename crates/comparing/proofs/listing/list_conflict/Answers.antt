-- No conflict, or one difference more.
use mathlib.Core.Path.{◌≡◌, ap}
use native.Mathlib.Omega.{arith}
use Rattle.comparing.specs.Differences.{conflict_as}
use Rattle.comparing.specs.Says.{flag_held}
use Rattle.comparing.specs.Listing.{words_for, has_of, pushed_none}
use Rattle.comparing.proofs.listing.list_conflict.Goals as goal

pub returns-else-is_conflict : goal.returns-else-is_conflict
unfolding words_for
returns-else-is_conflict c = let a = c.args in
    let e : conflict_as (flag_held a.held) a.d ≡ _ = ap (λ h. conflict_as (flag_held h) a.d) c.in-Some.is in
    rw e (simp (c.if-is_conflict.false) (pushed_none a.list.now a.n))

pub push-requires : goal.push-requires
push-requires c =
    record { n_in_bounds = omega (arith, c.requires.held_in_bounds, ap has_of c.in-Some.is); fits = c.requires.fits }

pub returns-in-None : goal.returns-in-None
unfolding words_for
returns-in-None c = let a = c.args in
    rw c.in-None.is (pushed_none a.list.now a.n)

pub returns-then-is_conflict : goal.returns-then-is_conflict
returns-then-is_conflict c = let a = c.args in
    let e : conflict_as (flag_held a.held) a.d ≡ _ = ap (λ h. conflict_as (flag_held h) a.d) c.in-Some.is in
    rw e (simp (c.if-is_conflict.true) c.push.ensures)
