-- As many turns as are left advance what is there to the same table.
use Rattle.std.proofs.Common.{◌≡◌, ℕ, ◌+◌, ◌-◌, true, false, List, length, sym, refl, ap, ◌∙◌, ap₂, arith, length-set}
use Rattle.engine.specs.declared.state.Receiving.{Receiving}
use Rattle.engine.specs.Received.{RxTable, table_of}
use Rattle.engine.specs.CellTally.{Lent}
use Rattle.engine.specs.Cells.{can_advance, passed_over, advanced}
use Rattle.engine.specs.Turns.{turn_on, turn-off, turn-out}
use Rattle.engine.proofs.cells.advance.Goals as goal

-- what was lent is still lent
lent : {rx out : Receiving} {n m : ℕ} → Lent rx n → out.cells ≡ rx.cells → m ≡ n → Lent out m
lent h e l = record { some = omega (arith, h.some); all = omega (arith, h.all) }

-- the table after a turn
stepped : (t : RxTable) {N M : ℕ} {rx : Receiving} {records : List ℕ} → N ≡ M → rx ≡ (passed_over N t).rx → records ≡ (passed_over N t).records
    → table_of rx records ≡ passed_over M t
stepped t e p q = ap₂ table_of p q ∙ ap (λ n. passed_over n t) e

pub loop-init : goal.loop-init
loop-init c = let all : c.args.rx.cells - 0 ≡ c.args.rx.cells = omega arith in (refl, refl, simp all)

pub can_advance-requires : goal.can_advance-requires
can_advance-requires c = let l = c.loop.invariant in lent c.requires l.0 l.1

pub shape_of-records-then-not-can_advance : goal.shape_of-records-then-not-can_advance
shape_of-records-then-not-can_advance c = c.loop.invariant.1

pub returns-then-not-can_advance : goal.returns-then-not-can_advance
returns-then-not-can_advance c = let l = c.loop in
    let N = c.args.rx.cells in
    let t = table_of l.out l.records in
    let off : can_advance N t ≡ false = ap (λ n. can_advance n t) (sym l.invariant.0) ∙ sym c.can_advance.ensures ∙ c.if-not-can_advance.true in
    let same = turn-off (can_advance N) (passed_over N) (N - l.counter) t _ l.invariant.2 off in
    record { value = ap (λ (x : RxTable). x.rx) same; records_after = ap (λ (x : RxTable). x.records) same }

pub pass-out-requires : goal.pass-out-requires
pass-out-requires c = let l = c.loop.invariant in lent c.requires l.0 l.1

pub loop-preserved : goal.loop-preserved
unfolding passed_over
loop-preserved c = let l = c.loop in
    let N = c.args.rx.cells in
    let t = table_of l.out l.records in
    let on : can_advance N t ≡ true = ap (λ n. can_advance n t) (sym l.invariant.0) ∙ sym c.can_advance.ensures ∙ c.if-not-can_advance.false in
    let left : N - (l.counter + 1) ≡ N - l.counter - 1 = omega arith in
    let p = c.pass-out.ensures in (
      ap (λ (x : Receiving). x.cells) p.value ∙ l.invariant.0,
      ap length p.records_after ∙ simp length-set l.invariant.1,
      (λ i. advanced N (left i) (stepped t l.invariant.0 p.value p.records_after i)) ∙ turn_on (can_advance N) (passed_over N) (N - l.counter) t _ l.invariant.2 (omega arith) on,
    )

pub shape_of-records : goal.shape_of-records
shape_of-records c = c.loop.invariant.1

pub returns : goal.returns
returns c = let l = c.loop in
    let N = c.args.rx.cells in
    let same = turn-out (can_advance N) (passed_over N) (N - l.counter) (table_of l.out l.records) _ l.invariant.2 (omega arith) in
    record { value = ap (λ (x : RxTable). x.rx) same; records_after = ap (λ (x : RxTable). x.records) same }
