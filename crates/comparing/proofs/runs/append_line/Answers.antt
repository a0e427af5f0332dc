-- A line that is too long, or spells no bytes, adds none, and any other adds its bytes behind the first `n`.
use mathlib.Core.Path.{sym, ◌∙◌, ap}
use mathlib.Core.List.{◌++◌}
use Prim.Native.Nat.{◌-◌}
use native.Mathlib.Omega.{arith}
use lib.ListN.{length, take, length-take, length-drop}
use borrow.Rule.Slice.PartMut.{take_put}
use Rattle.text.specs.HexRun.{count-says, bad-says, counted_start}
use Rattle.comparing.specs.Runs.{line_bytes, bytes-long, bytes-bad, bytes_good, put-none, put-behind}
use Rattle.comparing.proofs.runs.append_line.Goals as goal

pub returns-then-line-gt-MAX_LINE : goal.returns-then-line-gt-MAX_LINE
returns-then-line-gt-MAX_LINE c = let a = c.args in
    record { run_after = put-none a.run.now (line_bytes a.line.now) a.n (bytes-long a.line.now c.if-line-gt-MAX_LINE.true); upper_bound = omega arith }

pub returns-in_default : goal.returns-in_default
returns-in_default c = let a = c.args in
    let read = c.read_hex in
    let bad = bad-says a.line.now _ (sym read.ensures.value ∙ c.in_default.is) (simp (length-take, length-drop) (omega arith)) in
    record { run_after = take_put a.n (length a.run.now - a.n) a.run.now read.new.into (omega arith) ∙ put-none a.run.now (line_bytes a.line.now) a.n (bytes-bad a.line.now bad); upper_bound = omega arith }

pub overflow_add-result : goal.overflow_add-result
overflow_add-result c = let said = count-says c.args.line.now _ _ (sym c.read_hex.ensures.value ∙ c.in-Some.is) in
    omega arith

pub returns : goal.returns
returns c = let a = c.args in
    let short = c.if-line-gt-MAX_LINE.false in
    let read = c.read_hex in
    let count = sym read.ensures.value ∙ c.in-Some.is in
    let said = count-says a.line.now _ _ count in
    let bytes = counted_start a.line.now _ _ _ count read.ensures.into_after ∙ sym (bytes_good a.line.now short said.2) in
    record { run_after = put-behind a.run.now read.new.into _ a.n _ (omega arith) (omega arith) ∙ ap (λ l. take a.n a.run.now ++ l) bytes; upper_bound = omega arith }
