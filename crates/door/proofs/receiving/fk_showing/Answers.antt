-- The lengths are asked first, then the state with its records; the call in place says the rest.
use mathlib.Core.Path.{refl, sym, ap, ◌∙◌}
use Rattle.door.specs.Doors.{ready_with}
use lib.Seq.{sets}
use Rattle.engine.specs.HandingOut.{showing_of, show_verdict, hand_out_by, hand_out_told}
use Rattle.door.proofs.receiving.fk_showing.Goals as goal

pub returns-then-not-lengths_ok : goal.returns-then-not-lengths_ok
unfolding showing_of show_verdict hand_out_by
returns-then-not-lengths_ok c = let bad = rw c.rx_said-rx.ensures at (sym c.lengths_ok.ensures ∙ c.if-not-lengths_ok.true) in simp bad record { value = refl; values_after = refl }

pub returns-in_default : goal.returns-in_default
unfolding showing_of show_verdict hand_out_by
returns-in_default c = let long = rw c.rx_said-rx.ensures at (sym c.lengths_ok.ensures ∙ c.if-not-lengths_ok.false) in simp (long, c.in_default.ensures) record { value = refl; values_after = refl }

pub showing-requires : goal.showing-requires
showing-requires c = rw c.in-Some.ensures.same (ready_with c.args.words.now c.args.records.now c.in-Some.ensures.judged)

pub returns : goal.returns
returns c = let e = rw c.in-Some.ensures.same at c.showing.ensures in
    let t = c.tell_message.ensures in
    record { value = t.value ∙ ap (λ x. (hand_out_told x).number) e; values_after = t.values_after ∙ ap (λ x. sets c.args.values.now 0 (hand_out_told x).values) e }
