-- Each turn lists the differences on the next number of either table.
use Rattle.std.specs.Prelude.{◌≡◌, List, ℕ, ◌-◌, ◌≤◌, length, take, drop}
use Rattle.std.proofs.Common.{refl, sym, ◌∙◌, ap, arith, rules, length-take, length-drop}
use Rattle.std.proofs.Math.Seq.{take-length}
use Rattle.comparing.specs.declared.table.Row.{Row}
use Rattle.comparing.specs.Listing.{has_of, has-first, merging_start, turn-rank, turn-room, turn-less, turn_step, turn_end}
use Rattle.comparing.proofs.listing.list_all.Goals as goal

-- what is left behind some rows
rest : (k : ℕ) (rows : List Row) → k ≤ length rows → take (length rows - k) (drop k rows) ≡ drop k rows
rest k rows h = ap (λ n. take n (drop k rows)) (sym (length-drop k rows)) ∙ take-length (drop k rows)

pub loop-rank-init : goal.loop-rank-init
loop-rank-init c = (merging_start c.requires.rising.0 c.requires.rising.1, refl)

pub number_of-number-requires : goal.number_of-number-requires
number_of-number-requires c = turn-rank c.requires.says c.loop-rank.invariant.0 c.in-Some.rank (sym c.next_rank.ensures ∙ c.in-Some.is)

pub list_number-n-requires : goal.list_number-n-requires
list_number-n-requires c =
    let room = turn-room c.requires.says c.loop-rank.invariant.0 c.in-Some.rank (sym c.next_rank.ensures ∙ c.in-Some.is) c.requires.a_len.0 c.requires.a_len.1 in
    omega (arith, room, ap has_of c.held_first-held_x.ensures, ap has_of c.held_first-held_y.ensures, c.loop-rank.invariant.1, c.requires.a_len.2)

pub slice_bounds-x-count : goal.slice_bounds-x-count
slice_bounds-x-count c = omega (arith, c.has.ensures, ap has_of c.held_first-held_x.ensures, has-first c.in-Some.rank c.loop-rank.x.now)

pub slice_bounds-x-start : goal.slice_bounds-x-start
slice_bounds-x-start c = omega (arith, c.has.ensures, ap has_of c.held_first-held_x.ensures, has-first c.in-Some.rank c.loop-rank.x.now)

pub slice_bounds-y-count : goal.slice_bounds-y-count
slice_bounds-y-count c = omega (arith, c.has-in-Some.ensures, ap has_of c.held_first-held_y.ensures, has-first c.in-Some.rank c.loop-rank.y.now)

pub slice_bounds-y-start : goal.slice_bounds-y-start
slice_bounds-y-start c = omega (arith, c.has-in-Some.ensures, ap has_of c.held_first-held_y.ensures, has-first c.in-Some.rank c.loop-rank.y.now)

pub loop-rank-smaller : goal.loop-rank-smaller
loop-rank-smaller c =
    let less = turn-less c.requires.says c.loop-rank.invariant.0 c.in-Some.rank (sym c.next_rank.ensures ∙ c.in-Some.is) in
    simp (length-take, length-drop)
    (omega (
      arith,
      less,
      c.has.ensures,
      c.has-in-Some.ensures,
      ap has_of c.held_first-held_x.ensures,
      ap has_of c.held_first-held_y.ensures,
      has-first c.in-Some.rank c.loop-rank.x.now,
      has-first c.in-Some.rank c.loop-rank.y.now,
    ))

pub loop-rank-preserved : goal.loop-rank-preserved
loop-rank-preserved c =
    let l = c.loop-rank in
    let number = ap (λ n. n.0) c.number_of-number.ensures in
    let first = c.has.ensures ∙ ap has_of c.held_first-held_x.ensures in
    let second = c.has-in-Some.ensures ∙ ap has_of c.held_first-held_y.ensures in
    let xs = rest c.has.result l.x.now (omega (arith, first, has-first c.in-Some.rank l.x.now)) ∙ ap (λ n. drop n l.x.now) first in
    let ys = rest c.has-in-Some.result l.y.now (omega (arith, second, has-first c.in-Some.rank l.y.now)) ∙ ap (λ n. drop n l.y.now) second in
    let pushed = rw (c.held_first-held_x.ensures, c.held_first-held_y.ensures) at c.list_number-n.ensures in
    let step = turn_step c.requires.says l.invariant.0 c.in-Some.rank (sym c.next_rank.ensures ∙ c.in-Some.is) _ _ _ number pushed in
    (rw (xs, ys) step, search rules)

pub returns-clause-pushed : goal.returns-clause-pushed
returns-clause-pushed c = turn_end c.requires.says c.loop-rank.invariant.0 (sym c.next_rank.ensures ∙ c.in_default.is)
