-- As many turns as are left skip from there to the same number, and none changes the cell count.
use Rattle.std.proofs.Common.{◌≡◌, ◌+◌, ◌-◌, sym, refl, ap, ◌∙◌, arith}
use Rattle.engine.specs.HandingOut.{can_skip, passed_by}
use Rattle.engine.specs.declared.state.Receiving.{Receiving}
use Rattle.engine.specs.Turns.{turn_on, turn-off, turn-out}
use Rattle.engine.proofs.handing_out.skip.Goals as goal

pub loop-init : goal.loop-init
loop-init c = let all : c.args.rx.cells - 0 ≡ c.args.rx.cells = omega arith in (refl, simp all)

pub can_skip-requires : goal.can_skip-requires
can_skip-requires c = let l = c.loop in let lent = c.requires in record { some = omega (arith, lent.some, l.invariant.0); all = lent.all ∙ sym l.invariant.0 }

pub returns-then-not-can_skip : goal.returns-then-not-can_skip
returns-then-not-can_skip c = let l = c.loop in
    let N = c.args.rx.cells in
    let test = can_skip N c.args.records.now in
    let same : test l.out ≡ c.can_skip.result = ap (λ n. can_skip n c.args.records.now l.out) (sym l.invariant.0) ∙ sym c.can_skip.ensures in
    turn-off test passed_by (N - l.counter) l.out _ l.invariant.1 (same ∙ c.if-not-can_skip.true)

pub loop-preserved : goal.loop-preserved
unfolding passed_by
loop-preserved c = let l = c.loop in
    let N = c.args.rx.cells in
    let records = c.args.records.now in
    let test = can_skip N records in
    let left : N - (l.counter + 1) ≡ N - l.counter - 1 = omega arith in
    let same : test l.out ≡ c.can_skip.result = ap (λ n. can_skip n records l.out) (sym l.invariant.0) ∙ sym c.can_skip.ensures in (
      ap (λ (x : Receiving). x.cells) c.pass_by-out.ensures ∙ l.invariant.0,
      simp (left, c.pass_by-out.ensures) (turn_on test passed_by (N - l.counter) l.out _ l.invariant.1 (omega arith) (same ∙ c.if-not-can_skip.false)),
    )

pub returns : goal.returns
returns c = let l = c.loop in turn-out (can_skip c.args.rx.cells c.args.records.now) passed_by (c.args.rx.cells - l.counter) l.out _ l.invariant.1 (omega arith)
