-- As many turns as are left take from there to the same state and records.
use Rattle.std.specs.Prelude.{◌≡◌, true, false, ◌+◌, ◌-◌, Ok, Err}
use Rattle.std.specs.Result.{is_err}
use Rattle.std.proofs.Common.{refl, sym, ◌∙◌, ap, arith, eqb-true}
use Rattle.engine.specs.Held.{HandOut}
use Rattle.engine.specs.Turns.{turn_on, turn-off, turn-out}
use Rattle.replaying.specs.Sizes.{CELLS}
use Rattle.replaying.specs.Taking.{is_message, has_message, after_message, recorded, without_ready}
use Rattle.replaying.specs.Taken.{no-message, untaken-records}
use Rattle.replaying.proofs.taking.take_ready.Goals as goal

refused : (answer : HandOut) → is_err answer ≡ true → is_message answer ≡ false
refused (Ok message) e = sym e
refused (Err r) e = refl

taken : (answer : HandOut) → is_err answer ≡ false → is_message answer ≡ true
taken (Ok message) e = refl
taken (Err r) e = sym e

pub loop-init : goal.loop-init
loop-init c = (refl, refl)

pub returns-then-eq : goal.returns-then-eq
returns-then-eq c = let l = c.loop in
    let h = recorded l.out l.records in
    turn-off has_message after_message (CELLS - l.counter) h _ l.invariant.0 (no-message h (eqb-true _ _ (sym c.eq.ensures ∙ c.if-eq.true)))

pub returns-then-is_err : goal.returns-then-is_err
returns-then-is_err c = let l = c.loop in
    let h = recorded l.out l.records in
    let took = c.take-taken.ensures in
    let none = sym (ap (λ r. is_message r.answer) took.value) ∙ refused _ (sym c.is_err.ensures.value ∙ c.if-is_err.true) in
    ap (recorded l.out) (took.records_after ∙ untaken-records h none) ∙ turn-off has_message after_message (CELLS - l.counter) h _ l.invariant.0 none

pub loop-preserved : goal.loop-preserved
loop-preserved c = let l = c.loop in
    let h = recorded l.out l.records in
    let took = c.take-taken.ensures in
    let less : CELLS - (l.counter + 1) ≡ CELLS - l.counter - 1 = omega arith in
    let some = sym (ap (λ r. is_message r.answer) took.value) ∙ taken _ (sym c.is_err.ensures.value ∙ c.if-is_err.false) in (
      ap (λ n. without_ready n (recorded c.take-taken.result.state c.take-taken.new.records)) less
          ∙ ap (λ r. without_ready (CELLS - l.counter - 1) (recorded r.state c.take-taken.new.records)) took.value
          ∙ ap (λ x. without_ready (CELLS - l.counter - 1) (recorded (after_message h).state x)) took.records_after
          ∙ turn_on has_message after_message (CELLS - l.counter) h _ l.invariant.0 (omega arith) some,
      c.take-taken.auto.records ∙ l.invariant.1,
    )

pub returns : goal.returns
returns c = let l = c.loop in turn-out has_message after_message (CELLS - l.counter) (recorded l.out l.records) _ l.invariant.0 (omega arith)
