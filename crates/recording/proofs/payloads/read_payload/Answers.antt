-- Too long, or what the digits spell.
use mathlib.Core.Path.{◌∙◌}
use native.Mathlib.Omega.{arith}
use Rattle.recording.specs.Payloads.{payload-long, payload-read}
use borrow.Author.Rules.{rules}
use Rattle.recording.proofs.payloads.read_payload.Goals as goal

pub returns-then-line-gt-MAX_PAYLOAD : goal.returns-then-line-gt-MAX_PAYLOAD
returns-then-line-gt-MAX_PAYLOAD c =
    let whole = let a = c.args in
    payload-long a.line.now a.into.now c.if-line-gt-MAX_PAYLOAD.true
    in record { value = whole.0; into_after = whole.1 }

pub returns : goal.returns
returns c = let a = c.args in
    let said = payload-read a.line.now a.into.now (search rules) (omega (arith, c.if-line-gt-MAX_PAYLOAD.false)) in
    record { value = c.read_hex.ensures.value ∙ said.0; into_after = c.read_hex.ensures.into_after ∙ said.1 }
