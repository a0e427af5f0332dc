-- The number is put, then what the difference is, and there is room for both.
use native.Mathlib.Omega.{arith}
use Rattle.text.specs.Put.{puts_then, puts-all}
use Rattle.comparing.specs.Writing.{line_text, line-short}
use Rattle.comparing.proofs.writing.write_difference.Goals as goal

pub returns : goal.returns
unfolding line_text
returns c =
    let text = rw (c.number_in-number.ensures, c.difference_of-what.ensures) at (puts_then c.put_number-at.ensures c.put_what.ensures) in
    let whole = puts-all text (omega (arith, line-short c.args.word)) in
    record { value = whole.0; out_after = whole.1 }
