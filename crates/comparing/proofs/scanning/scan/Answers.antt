-- The first line is no start number, or the others follow it.
use Rattle.std.proofs.Common.{sym, ◌∙◌, ap, arith, length-take-le}
use Rattle.recording.specs.Lines.{until-within}
use Rattle.comparing.specs.Messages.{start_of}
use Rattle.comparing.specs.Judging.{line_in}
use Rattle.comparing.specs.Table.{no_numbers, tabled}
use Rattle.comparing.specs.Scanning.{first-bad, first_good, first-long}
use Rattle.comparing.proofs.scanning.scan.Goals as goal

pub slice_bounds-read_start-end : goal.slice_bounds-read_start-end
slice_bounds-read_start-end c = let input = c.args.input.now in
    sym (length-take-le _ _ (omega (arith, c.line_end-end.ensures, until-within input 0 (omega arith))))

pub returns-in_default : goal.returns-in_default
unfolding tabled
returns-in_default c = let input = c.args.input.now in
    let bad = first-bad input c.line_end-end.result (omega (arith, c.line_end-end.ensures)) (sym c.read_start.ensures ∙ c.in_default.is) in
    record {
      starts = sym bad.1;
      bads = sym (ap (λ b. line_in b.bad) bad.0);
      tables = c.requires ∙ sym (ap (λ b. tabled input (start_of input) no_numbers b.messages) bad.0);
    }

pub scan_body-requires : goal.scan_body-requires
scan_body-requires c =
    let read = sym c.read_start.ensures ∙ c.in-Some.is in
    let long = first-long c.args.input.now c.line_end-end.result (omega (arith, c.line_end-end.ensures)) _ read in
    record { le_from = omega (arith, long, c.next_line.ensures); empty = c.requires }

pub returns : goal.returns
returns c = let input = c.args.input.now in
    let read = sym c.read_start.ensures ∙ c.in-Some.is in
    let good = first_good input c.line_end-end.result (omega (arith, c.line_end-end.ensures)) _ read in
    rw (good.1, good.0, ← c.next_line.ensures) c.scan_body.ensures
