-- Whatever the steps that are left give, with those taken they are steps of the whole table.
use Rattle.std.proofs.Common.{◌≡◌, ◌∷◌, [], ◌+◌, ◌-◌, arith}
use Rattle.engine.specs.Ring.{refilled, next-cell-lt}
use Rattle.engine.proofs.Steps.{zip-turn, zip-none}
use Rattle.engine.specs.Packets.{no_packet}
use Rattle.engine.specs.Table.{with_table}
use Rattle.engine.specs.Sizes.{PACKETS}
use Rattle.engine.proofs.table.with_each.Goals as goal

pub loop-init : goal.loop-init
unfolding with_table
loop-init g c = let e = c.first_cell-at.ensures in
    let whole : c.args.tx.txed_count - 0 ≡ c.args.tx.txed_count = omega arith in
    (e.upper_bound, c.requires.count, λ qs z. (qs, simp (e.value, whole) at z, simp e.value))

pub loop-preserved : goal.loop-preserved
unfolding refilled
loop-preserved g c = let l = c.loop in
    let cells = l.out.txed_packets in
    let left = c.args.tx.txed_count - l.counter in
    let fewer : c.args.tx.txed_count - (l.counter + 1) ≡ c.args.tx.txed_count - l.counter - 1 = omega arith in
    rw c.next_cell-at.ensures (
      next-cell-lt PACKETS l.at (omega arith),
      c.requires.count,
      λ qs z. l.invariant.2 (c.step.result ∷ qs)
          (zip-turn PACKETS no_packet (goal.F-post g c.args.step) cells l.at left c.step.result qs l.invariant.0 (omega (arith, c.loop-test.true)) (omega arith) c.step.ensures (rw fewer at z)),
    )

pub returns : goal.returns
unfolding refilled
returns g c = let l = c.loop in
    l.invariant.2 [] (zip-none PACKETS no_packet (goal.F-post g c.args.step) l.out.txed_packets l.at (c.args.tx.txed_count - l.counter) (omega (arith, c.loop-test.false)))
