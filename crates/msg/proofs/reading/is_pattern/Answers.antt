-- What is left of the pattern and of the bytes gives the same answer at each turn, and the counter is the remainder of the index.
use mathlib.Core.Path.{◌∙◌, sym}
use lib.ListN.{length}
use native.Mathlib.Omega.{arith}
use Rattle.msg.specs.Messages.{pattern}
use Rattle.msg.specs.RoundTrip.{length-pattern, pattern-at}
use Rattle.msg.proofs.Opening.{opens-end, opens-same, opens-other}
use Rattle.msg.proofs.reading.is_pattern.Goals as goal

pub returns-then-byte-next : goal.returns-then-byte-next
returns-then-byte-next c = let l = c.loop-byte in
    let bytes = c.args.bytes.now in
    let here = pattern-at (length bytes) l.byte-index (omega arith) in
    sym (opens-other (pattern (length bytes)) bytes l.byte-index (omega (arith, length-pattern (length bytes))) (omega arith) (λ e. c.if-byte-next.true (e ∙ here ∙ sym l.invariant.0))) ∙ l.invariant.1

pub loop-byte-preserved : goal.loop-byte-preserved
loop-byte-preserved c = let l = c.loop-byte in
    let bytes = c.args.bytes.now in
    let here = pattern-at (length bytes) l.byte-index (omega arith) in (
      omega arith,
      opens-same (pattern (length bytes)) bytes l.byte-index (omega (arith, length-pattern (length bytes))) (omega arith) (c.if-byte-next.false ∙ l.invariant.0 ∙ sym here) ∙ l.invariant.1,
    )

pub returns : goal.returns
returns c = let l = c.loop-byte in
    let bytes = c.args.bytes.now in
    sym (opens-end (pattern (length bytes)) bytes l.byte-index (omega (arith, length-pattern (length bytes), c.loop-byte-test.false))) ∙ l.invariant.1
