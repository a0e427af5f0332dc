-- The words and both numbers are put one behind the other, and there is room for all.
use native.Mathlib.Omega.{arith}
use Rattle.text.specs.Put.{put_one, puts_then, puts-all}
use Rattle.comparing.specs.Writing.{refused_text, refused-short}
use Rattle.comparing.proofs.writing.write_refused.Goals as goal

pub returns : goal.returns
unfolding refused_text
returns c =
    let n = c.number in
    let a = c.args in
    let text = rw (c.from.ensures, n.ensures) at (puts_then (put_one (c.put-a.ensures.value, c.put-a.ensures.out_after)) (puts_then (put_one (c.put_decimal-b.ensures.value, c.put_decimal-b.ensures.out_after)) (puts_then c.put_side-c.ensures c.put_count.ensures))) in
    let whole = puts-all text (omega (arith, refused-short a.refusal a.side a.line (omega (arith, n.ensures, n.type_inv)) (omega arith))) in
    record { value = whole.0; out_after = whole.1 }
