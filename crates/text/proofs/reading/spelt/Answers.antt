-- A digit that isn't one, or a number past the limit, is none whatever follows.
use Rattle.std.proofs.Common.{◌≡◌, ◌<◌, ◌+◌, ◌*◌, sym, ◌∙◌, arith, get_or, drop, drop_of_length-le}
use mathlib.Core.List.{[]}
use Rattle.text.specs.Decimal.{digit_value, read-none, read_past, read_step, read-other}
use Rattle.text.proofs.reading.spelt.Goals as goal

pub returns-in_err-d : goal.returns-in_err-d
returns-in_err-d c = let l = c.loop-byte in
    let a = c.args in
    let none : digit_value (get_or a.word.now l.byte-index 0) ≡ 10 = c.in_err-d.ensures in
    c.from_residual.ensures ∙ sym (sym l.invariant.1 ∙ read-other l.n a.word.now l.byte-index a.limit c.loop-byte-test.true (omega (arith, none)))

pub returns-in_err-tens : goal.returns-in_err-tens
returns-in_err-tens c = let l = c.loop-byte in
    let a = c.args in
    let over : l.n * 10 < 18446744073709551616 → ⊥ = c.in_err-tens.ensures in
    c.from_residual-in_err-tens.ensures
    ∙ sym (sym l.invariant.1 ∙ read_step l.n a.word.now l.byte-index a.limit c.loop-byte-test.true (omega (arith, c.in_ok-d.ensures)) ∙ read_past _ _ _ (omega (arith, over, c.ranges.limit.fits)))

pub returns-in_err-sum : goal.returns-in_err-sum
returns-in_err-sum c = let l = c.loop-byte in
    let a = c.args in
    let over : c.in_ok-tens.tens + c.in_ok-d.d < 18446744073709551616 → ⊥ = c.in_err-sum.ensures in
    c.from_residual-in_err-sum.ensures
    ∙ sym (sym l.invariant.1 ∙ read_step l.n a.word.now l.byte-index a.limit c.loop-byte-test.true (omega (arith, c.in_ok-d.ensures)) ∙ read_past _ _ _ (omega (arith, over, c.in_ok-d.ensures, c.in_ok-tens.ensures, c.ranges.limit.fits)))

pub returns-then-limit-sum : goal.returns-then-limit-sum
returns-then-limit-sum c = let l = c.loop-byte in
    let a = c.args in
    sym (sym l.invariant.1 ∙ read_step l.n a.word.now l.byte-index a.limit c.loop-byte-test.true (omega (arith, c.in_ok-d.ensures)) ∙ read_past _ _ _ (omega (arith, c.in_ok-d.ensures, c.in_ok-tens.ensures, c.in_ok-sum.ensures)))

pub loop-byte-preserved : goal.loop-byte-preserved
loop-byte-preserved c = let l = c.loop-byte in
    let a = c.args in
    let more : c.in_ok-sum.sum ≡ l.n * 10 + digit_value (get_or a.word.now l.byte-index 0) = omega (arith, c.in_ok-d.ensures, c.in_ok-tens.ensures, c.in_ok-sum.ensures) in (
      omega arith,
      rw more (sym (read_step l.n a.word.now l.byte-index a.limit c.loop-byte-test.true (omega (arith, c.in_ok-d.ensures))) ∙ l.invariant.1),
    )

pub returns : goal.returns
returns c = let l = c.loop-byte in
    let a = c.args in
    let none : drop l.byte-index a.word.now ≡ [] = drop_of_length-le a.word.now c.loop-byte-test.false in
    sym (sym l.invariant.1 ∙ (rw none (read-none l.n a.limit l.invariant.0)))
