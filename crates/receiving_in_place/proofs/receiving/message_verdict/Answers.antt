-- The gates, in the order of the definition, and from the eleventh on by whether the number is new.
use mathlib.Core.Path.{◌≡◌, sym, ap, ◌∙◌}
use Rattle.std.proofs.Common.{arith}
use Rattle.std.proofs.lemmas.Grind.{common_steps}
use Rattle.refusal.specs.Verdicts.{gate-pass}
use mathlib.Core.Bool.{true, false}
use Rattle.seq.specs.Distance.{near}
use Rattle.engine.specs.declared.state.Receiving.{Receiving}
use Rattle.engine.specs.Cells.{is_repeat}
use Rattle.engine.specs.Received.{table_of}
use Rattle.engine.specs.Receiving.{message_verdict}
use Rattle.words.specs.Meaning.{state_of}
use Rattle.receiving_in_place.specs.NewVerdict.{repeat-verdict, new-verdict}
use Rattle.receiving_in_place.proofs.receiving.message_verdict.Goals as goal

pub returns-in_err-refuse_unless : goal.returns-in_err-refuse_unless
unfolding message_verdict
returns-in_err-refuse_unless c = let same = c.requires.0 in grind (arith, common_steps, same)

pub returns-in_err-refuse_unless-2 : goal.returns-in_err-refuse_unless-2
unfolding message_verdict
returns-in_err-refuse_unless-2 c = let same = c.requires.0 in grind (arith, common_steps, same)

pub returns-in_err-refuse_unless-3 : goal.returns-in_err-refuse_unless-3
unfolding message_verdict
returns-in_err-refuse_unless-3 c = let same = c.requires.0 in grind (arith, common_steps, same)

pub returns-then-is_repeat : goal.returns-then-is_repeat
returns-then-is_repeat c = let s = state_of c.args.words.now in
    let n = c.args.seq.0 in
    let e22 : near n s.rx.rx_seq.0 ≡ true = ap (λ (x : Receiving). near n x.rx_seq.0) (sym c.requires.0) ∙ sym c.is_near.ensures ∙ (gate-pass c.is_near.result _ _ (sym c.in_ok-refuse_unless-3.ensures)).0 in
    let again : is_repeat s.rx.cells (table_of s.rx c.args.records.now) n ≡ true = ap (λ (x : Receiving). is_repeat x.cells (table_of x c.args.records.now) n) (sym c.requires.0) ∙ sym c.is_repeat.ensures ∙ c.if-is_repeat.true in
    rw (c.refuse_unless-then-is_repeat.ensures, c.acks_at.ensures) (sym (repeat-verdict s c.args.records.now c.args.slot c.args.msg n c.args.len (sym c.slot_ok.ensures ∙ (gate-pass c.slot_ok.result _ _ (sym c.in_ok-refuse_unless.ensures)).0) (sym c.length_ok.ensures ∙ (gate-pass c.length_ok.result _ _ (sym c.in_ok-refuse_unless-2.ensures)).0) e22 again))

pub returns : goal.returns
returns c = let s = state_of c.args.words.now in
    let n = c.args.seq.0 in
    let e22 : near n s.rx.rx_seq.0 ≡ true = ap (λ (x : Receiving). near n x.rx_seq.0) (sym c.requires.0) ∙ sym c.is_near.ensures ∙ (gate-pass c.is_near.result _ _ (sym c.in_ok-refuse_unless-3.ensures)).0 in
    let again : is_repeat s.rx.cells (table_of s.rx c.args.records.now) n ≡ false = ap (λ (x : Receiving). is_repeat x.cells (table_of x c.args.records.now) n) (sym c.requires.0) ∙ sym c.is_repeat.ensures ∙ c.if-is_repeat.false in
    c.new_verdict.ensures ∙ sym (new-verdict s c.args.records.now c.args.slot c.args.msg n c.args.len (sym c.slot_ok.ensures ∙ (gate-pass c.slot_ok.result _ _ (sym c.in_ok-refuse_unless.ensures)).0) (sym c.length_ok.ensures ∙ (gate-pass c.length_ok.result _ _ (sym c.in_ok-refuse_unless-2.ensures)).0) e22 again)
