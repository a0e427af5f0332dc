-- By the lines from the place on: none, a frame's alone, or a frame's and the next, whose bytes go behind it if they are its payload.
use mathlib.Core.Path.{sym, ◌∙◌, ap}
use mathlib.Core.List.{◌++◌}
use Prim.Native.Nat.{◌+◌, ◌-◌}
use native.Mathlib.Omega.{arith}
use lib.ListN.{take, drop}
use Rattle.recording.specs.Lines.{until-within}
use Rattle.comparing.specs.Runs.{line_bytes, payload_after, run_none, run-one, run-two}
use Rattle.comparing.proofs.runs.read_run.Goals as goal

pub returns-then-input-at : goal.returns-then-input-at
returns-then-input-at c = record { run_after = sym (run_none c.args.input.now c.args.at c.if-input-at.true); upper_bound = omega arith }

pub slice_bounds-frame-end : goal.slice_bounds-frame-end
slice_bounds-frame-end c = omega (arith, until-within c.args.input.now c.args.at (omega arith))

pub returns-then-input-end : goal.returns-then-input-end
returns-then-input-end c = let a = c.args in
    let put = c.append_line-n.ensures in
    record { run_after = put.run_after ∙ sym (run-one a.input.now a.at _ c.line_end-end.ensures c.if-input-at.false (omega arith)); upper_bound = omega arith }

pub returns-then-input-next : goal.returns-then-input-next
returns-then-input-next c = let a = c.args in
    let put = c.append_line-n.ensures in
    record { run_after = put.run_after ∙ sym (run-one a.input.now a.at _ c.line_end-end.ensures c.if-input-at.false c.if-input-next.true); upper_bound = omega arith }

pub slice_bounds-append_payload-end : goal.slice_bounds-append_payload-end
slice_bounds-append_payload-end c = omega (arith, until-within c.args.input.now (c.line_end-end.result + 1) (omega arith))

pub returns : goal.returns
returns c = let a = c.args in
    let first = c.line_end-end in
    let put = c.append_line-n.ensures in
    let read = c.read_line-found in
    let second = c.line_end-last in
    let behind = c.append_payload.ensures in
    let frame = take (first.result - a.at) (drop a.at a.input.now) in
    let payload = take (second.result - (first.result + 1)) (drop (first.result + 1) a.input.now) in
    let run = run-two a.input.now a.at first.result first.ensures c.if-input-at.false second.result second.ensures c.if-input-next.false in
    let whole =
    behind.run_after
    ∙ ap (λ l. l ++ payload_after read.result payload) put.run_after
    ∙ ap (λ f. line_bytes frame ++ payload_after f payload) read.ensures in
    record { run_after = whole ∙ sym run; upper_bound = omega (arith, behind.upper_bound, put.upper_bound) }
