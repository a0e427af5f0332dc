-- What is left to empty leaves the same records at each turn.
use Rattle.std.proofs.Common.{◌≡◌, ◌+◌, ◌-◌, replicate, sym, refl, ap, ◌∙◌, mod-lt, arith, length-set}
use Rattle.engine.specs.Ring.{refilled, next-cell-lt, refill-step, refill-none}
use Rattle.engine.proofs.cells.empty_cells.Goals as goal

pub loop-init : goal.loop-init
loop-init c =
    let all : c.args.count - 0 ≡ c.args.count = omega arith in
    (rw c.cell_at-at.ensures (mod-lt c.args.from.0 c.requires.0), refl, simp all)

pub loop-preserved : goal.loop-preserved
loop-preserved c = let l = c.loop in
    let N = c.args.cells in
    let left : c.args.count - (l.counter + 1) ≡ c.args.count - l.counter - 1 = omega arith in (
      rw c.next_cell-at.ensures (next-cell-lt N l.at c.requires.0),
      simp length-set l.invariant.1,
      simp (left, c.next_cell-at.ensures) (sym (refill-step N 0 l.records l.at (c.args.count - l.counter) 0 (omega arith)) ∙ l.invariant.2),
    )

pub returns : goal.returns
returns c = let l = c.loop in
    let s = c.args in
    sym (refill-none s.cells 0 l.records l.at (s.count - l.counter) 0 (omega arith))
    ∙ l.invariant.2
    ∙ ap (λ at. refilled s.cells s.records.now at (replicate s.count 0)) c.cell_at-at.ensures
