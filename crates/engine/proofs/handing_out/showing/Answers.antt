-- By the verdict, and then by what is ready.
use Rattle.std.proofs.Common.{length, sym, ◌∙◌}
use Rattle.refusal.specs.Verdicts.{gate-pass}
use Rattle.engine.specs.Decide.{sound_withb}
use Rattle.engine.specs.Received.{table_of}
use Rattle.engine.specs.Receiving.{lengths_ok, sound-lent}
use Rattle.engine.specs.HandingOut.{show_verdict, showing_of, hand-told}
use Rattle.engine.proofs.handing_out.showing.Goals as goal

pub hand_out-requires : goal.hand_out-requires
unfolding show_verdict
hand_out-requires c = λ e.
    let s = c.args.s in
    let records = c.args.records.now in
    let e2 = gate-pass (lengths_ok s.rx (length c.args.store.now) (length records)) _ _ (sym c.show_verdict.ensures ∙ e) in
    sound-lent s records (gate-pass (sound_withb s records) _ _ e2.1).0

pub returns : goal.returns
unfolding showing_of
returns c = let e = c.hand_out.ensures in
    record { value = simp (e, c.show_verdict.ensures); result_value = hand-told c.show_verdict.result _ (table_of c.args.s.rx c.args.records.now) e c.show_verdict.ensures }
