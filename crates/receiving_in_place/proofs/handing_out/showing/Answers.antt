-- By the lengths, and then by what is ready.
use Rattle.std.specs.Prelude.{Err}
use Rattle.std.proofs.lemmas.Result.{err_from_is_err_and}
use Rattle.refusal.specs.declared.Refusal.TheVariants.{StoreLength}
use Rattle.receiving_in_place.specs.NewVerdict.{gate-stop}
use Rattle.refusal.specs.Verdicts.{gate-pass}
use mathlib.Core.Path.{◌≡◌, ap, sym, ◌∙◌}
use Rattle.engine.specs.HandingOut.{showing_of, show_verdict, hand_out_by}
use Rattle.receiving_in_place.specs.ReadyWith.{ready-lent, cells-lent}
use Rattle.receiving_in_place.proofs.handing_out.showing.Goals as goal

pub returns-in_err-refuse_unless : goal.returns-in_err-refuse_unless
unfolding showing_of show_verdict hand_out_by
returns-in_err-refuse_unless c = let stop = gate-stop c.lengths_ok.result _ _ (sym c.in_err-refuse_unless.ensures) in
    let bad = rw c.rx_of-rx.ensures at (sym c.lengths_ok.ensures ∙ stop.0) in
    let p = err_from_is_err_and c.from_residual.result c.from_residual.ensures.1 in
    let r : c.from_residual.result ≡ Err StoreLength = p.1 ∙ ap Err (p.2 ∙ stop.1) in
    simp (r, bad)

pub oldest_ready-held-requires : goal.oldest_ready-held-requires
oldest_ready-held-requires c = let a = c.args in
    let long = rw c.rx_of-rx.ensures at (sym c.lengths_ok.ensures ∙ (gate-pass c.lengths_ok.result _ _ (sym c.in_ok-refuse_unless.ensures)).0) in
    rw c.rx_of-rx.ensures (ready-lent a.words.now a.records.now c.requires (cells-lent a.words.now a.records.now a.store long))

pub returns-in-None : goal.returns-in-None
unfolding showing_of show_verdict hand_out_by
returns-in-None c = let a = c.args in
    let long = rw c.rx_of-rx.ensures at (sym c.lengths_ok.ensures ∙ (gate-pass c.lengths_ok.result _ _ (sym c.in_ok-refuse_unless.ensures)).0) in
    let ok = c.requires.recorded (cells-lent a.words.now a.records.now a.store long) in
    let none = rw c.rx_of-rx.ensures at (sym c.oldest_ready-held.ensures ∙ c.in-None.is) in
    simp (long, ok, none)

pub returns-in-Some : goal.returns-in-Some
unfolding showing_of show_verdict hand_out_by
returns-in-Some c = let a = c.args in
    let long = rw c.rx_of-rx.ensures at (sym c.lengths_ok.ensures ∙ (gate-pass c.lengths_ok.result _ _ (sym c.in_ok-refuse_unless.ensures)).0) in
    let ok = c.requires.recorded (cells-lent a.words.now a.records.now a.store long) in
    let one = rw c.rx_of-rx.ensures at (sym c.oldest_ready-held.ensures ∙ c.in-Some.is) in
    simp (long, ok, one, c.rx_of-rx.ensures)
