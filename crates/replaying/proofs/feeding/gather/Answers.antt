-- What is left of the part adds to what was carried.
use Rattle.std.specs.Prelude.{◌≡◌, ◌+◌, ◌∷◌, get_or, drop}
use Rattle.std.proofs.Common.{sym, ◌∙◌, ap, arith, add-one, drop-cons, drop_of_length-le}
use Rattle.replaying.specs.Feeding.{carried_count, carried_line}
use Rattle.replaying.proofs.feeding.gather.Goals as goal

pub loop-b-preserved : goal.loop-b-preserved
unfolding carried_count carried_line
loop-b-preserved c = let l = c.loop-b in
    let e : drop l.b-index c.args.part.now ≡ get_or c.args.part.now l.b-index 0 ∷ drop (l.b-index + 1) c.args.part.now = rw add-one (drop-cons c.args.part.now l.b-index 0 (omega arith)) in (
      simp c.carry-n.ensures.value (sym (ap (carried_count l.n) e) ∙ l.invariant.0),
      simp (c.carry-n.ensures.value, c.carry-n.ensures.line_after) (sym (ap (carried_line l.line l.n) e) ∙ l.invariant.1),
    )

pub returns : goal.returns
unfolding carried_count carried_line
returns c = let l = c.loop-b in
    let e = drop_of_length-le c.args.part.now {i = l.b-index} (omega arith) in
    record { value = rw e at l.invariant.0; line_after = rw e at l.invariant.1 }
