-- Eight digits spell four bytes, which are the number, and any other line is bad.
use Rattle.std.specs.Int.{w32, from_be_bytes}
use Rattle.std.specs.Prelude.{◌≡◌, List, ℕ, Some}
use Rattle.std.proofs.Common.{sym, ◌∙◌, ap, arith, rules}
use Rattle.text.specs.HexRun.{count-says, bad-says}
use Rattle.msg.specs.Reading.{number_at}
use Rattle.seq.specs.Numbers.{seq_of}
use Rattle.comparing.specs.Messages.{start-other, start-bad, start-good, start-bytes}
use Rattle.comparing.proofs.messages.read_start.Goals as goal

four : (bytes : List ℕ) → from_be_bytes w32 bytes ≡ number_at bytes 0
unfolding number_at
four bytes = omega arith

pub returns-then-line-ne8 : goal.returns-then-line-ne8
returns-then-line-ne8 c = sym (start-other c.args.line.now c.if-line-ne8.true)

pub returns-in_err-read_hex : goal.returns-in_err-read_hex
returns-in_err-read_hex c =
    let line = c.args.line.now in
    c.from_residual.ensures ∙ sym (start-bad line (bad-says line _ (sym c.read_hex.ensures.value ∙ c.in_err-read_hex.was) (search rules)))

pub returns : goal.returns
returns c =
    let line = c.args.line.now in
    let count = sym c.read_hex.ensures.value ∙ c.in_ok-read_hex.was in
    let spelled = start-bytes line _ c.read_hex.new.into _ c.if-line-ne8.false c.read_hex.auto.into count c.read_hex.ensures.into_after in
    let digits = (count-says line _ _ count).2 in
    ap (λ n. Some (seq_of n)) (c.from_be_bytes.ensures ∙ four c.read_hex.new.into ∙ ap (λ l. number_at l 0) spelled) ∙ sym (start-good line c.if-line-ne8.false digits)
