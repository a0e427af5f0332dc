-- The conflicts of both, then what each has.
use native.Mathlib.Omega.{arith}
use borrow.Author.Rules.{rules}
use Rattle.comparing.specs.declared.listing.Difference.TheVariants.{ConflictFirst, ConflictSecond}
use Rattle.comparing.specs.Listing.{pushed_then, number_pushed, conflict-few}
use Rattle.comparing.proofs.listing.list_number.Goals as goal

pub list_conflict-l-requires : goal.list_conflict-l-requires
list_conflict-l-requires c =
    let few = conflict-few c.args.number.0 c.args.a ConflictFirst in
    record { held_in_bounds = omega (arith, c.requires, few, c.list_conflict-m.ensures.count); fits = search rules }

pub list_held-requires : goal.list_held-requires
list_held-requires c =
    let few = conflict-few c.args.number.0 c.args.a ConflictFirst in
    let few₂ = conflict-few c.args.number.0 c.args.b ConflictSecond in
    omega (arith, c.requires, few, few₂, c.list_conflict-m.ensures.count, c.list_conflict-l.ensures.count)

pub returns : goal.returns
returns c = let a = c.args in
    let rest = pushed_then _ _ _ _ _ _ _ _ c.list_conflict-l.ensures c.list_held.ensures in
    rw (← number_pushed a.first.now a.second.now a.number.0 a.a a.b) (pushed_then _ _ _ _ _ _ _ _ c.list_conflict-m.ensures rest)
