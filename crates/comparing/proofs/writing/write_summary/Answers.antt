-- What is written is put one behind the other, and there is room for all.
use native.Mathlib.Omega.{arith}
use lib.ListN.{length, take, length-take}
use borrow.Author.Tests.{ne_eqb}
use Rattle.text.specs.Put.{put_one, puts_then, puts-all}
use Rattle.comparing.specs.Writing.{summary_text, equal-short, counts-short}
use Rattle.comparing.proofs.writing.write_summary.Goals as goal

pub returns-then-n-eq0 : goal.returns-then-n-eq0
unfolding summary_text
returns-then-n-eq0 c =
    let text = puts_then (put_one (c.put-a.ensures.value, c.put-a.ensures.out_after)) c.put_count.ensures in
    rw c.if-n-eq0.true
    (let whole = puts-all text (omega (arith, equal-short c.args.first (omega arith))) in
    record { value = whole.0; out_after = whole.1 })

pub returns : goal.returns
unfolding summary_text
returns c =
    let a = c.args in
    let words = take a.n a.list.now in
    let count = length-take a.n a.list.now in
    let whole = puts-all (puts_then c.put_sides-a.ensures c.put_kinds.ensures) (omega (arith, counts-short words a.first a.second (omega arith) (omega arith) (omega arith))) in
    rw (ne_eqb (length words) 0 (λ e. omega (arith, c.if-n-eq0.false))) (record { value = whole.0; out_after = whole.1 })
