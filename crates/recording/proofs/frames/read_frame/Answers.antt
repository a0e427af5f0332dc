-- Too long, or no digits, or what the bytes read as.
use mathlib.Core.Path.{sym, ◌∙◌, ap}
use native.Mathlib.Omega.{arith}
use lib.Seq.{length-take-le}
use Rattle.text.specs.HexRun.{count-says, bad-says, counted_start}
use Rattle.msg.specs.Reading.{read_of}
use Rattle.recording.specs.Frames.{frame-long, frame-bad, frame-good}
use borrow.Author.Rules.{rules}
use Rattle.recording.proofs.frames.read_frame.Goals as goal

pub returns-then-line-gt-MAX_LINE : goal.returns-then-line-gt-MAX_LINE
returns-then-line-gt-MAX_LINE c = sym (frame-long c.args.line.now (omega (arith, c.if-line-gt-MAX_LINE.true)))

pub returns-in_default : goal.returns-in_default
returns-in_default c = let line = c.args.line.now in
    let read = c.read_hex in
    let bad = bad-says line _ (sym read.ensures.value ∙ c.in_default.is) (search rules) in
    sym (frame-bad line (omega (arith, c.if-line-gt-MAX_LINE.false)) bad)

pub slice_bounds-bytes-end : goal.slice_bounds-bytes-end
slice_bounds-bytes-end c = omega (arith, (count-says _ _ _ (sym c.read_hex.ensures.value ∙ c.in-Some.is)).1)

pub slice_bounds-read-end : goal.slice_bounds-read-end
slice_bounds-read-end c = sym (length-take-le _ _ (omega (arith, (count-says _ _ _ (sym c.read_hex.ensures.value ∙ c.in-Some.is)).1)))

pub returns : goal.returns
returns c = let line = c.args.line.now in
    let said = c.read_hex in
    let counted = count-says line _ _ (sym said.ensures.value ∙ c.in-Some.is) in
    let bytes = counted_start line _ _ _ (sym said.ensures.value ∙ c.in-Some.is) said.ensures.into_after in
    c.read.ensures.value ∙ ap read_of bytes ∙ sym (frame-good line (omega (arith, c.if-line-gt-MAX_LINE.false)) counted.2)
