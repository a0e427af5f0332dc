-- As many turns as are left take from there to the same state.
use Rattle.std.specs.Prelude.{◌≡◌, true, false, ◌+◌, ◌-◌, Result, Ok, Err}
use Rattle.std.specs.Result.{is_err}
use Rattle.std.proofs.Common.{refl, sym, ◌∙◌, ap, arith}
use Rattle.refusal.specs.declared.Refusal.{Refusal}
use Rattle.seq.specs.declared.Seq.{Seq}
use Rattle.link.specs.Sizes.{ACKS}
use Rattle.engine.specs.Turns.{turn_on, turn-off, turn-out}
use Rattle.replaying.specs.Taking.{is_ack, has_ack, after_ack, without_acks}
use Rattle.replaying.specs.Taken.{no-ack}
use Rattle.replaying.proofs.taking.take_acks.Goals as goal

refused : (answer : Result Seq Refusal) → is_err answer ≡ true → is_ack answer ≡ false
refused (Ok seq) e = sym e
refused (Err r) e = refl

taken : (answer : Result Seq Refusal) → is_err answer ≡ false → is_ack answer ≡ true
taken (Ok seq) e = refl
taken (Err r) e = sym e

pub loop-init : goal.loop-init
loop-init c = refl

pub returns-then-row_of-eq0 : goal.returns-then-row_of-eq0
returns-then-row_of-eq0 c = let l = c.loop in
    turn-off has_ack after_ack (ACKS - l.counter) l.out _ l.invariant (no-ack l.out (ap (λ r. r.ack_count) (sym c.row_of.ensures) ∙ c.if-row_of-eq0.true))

pub returns-then-is_err : goal.returns-then-is_err
returns-then-is_err c = let l = c.loop in
    turn-off has_ack after_ack (ACKS - l.counter) l.out _ l.invariant
    (sym (ap (λ r. is_ack r.answer) c.take_ack-taken.ensures.value) ∙ refused _ (sym c.is_err.ensures.value ∙ c.if-is_err.true))

pub loop-preserved : goal.loop-preserved
loop-preserved c = let l = c.loop in
    let took = c.take_ack-taken.ensures.value in
    let less : ACKS - (l.counter + 1) ≡ ACKS - l.counter - 1 = omega arith in
    ap (λ n. without_acks n c.take_ack-taken.result.state) less
    ∙ ap (λ r. without_acks (ACKS - l.counter - 1) r.state) took
    ∙ turn_on has_ack after_ack (ACKS - l.counter) l.out _ l.invariant (omega arith)
    (sym (ap (λ r. is_ack r.answer) took) ∙ taken _ (sym c.is_err.ensures.value ∙ c.if-is_err.false))

pub returns : goal.returns
returns c = let l = c.loop in turn-out has_ack after_ack (ACKS - l.counter) l.out _ l.invariant (omega arith)
