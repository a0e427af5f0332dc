-- What is left of the records in use, weighed on top of the sum so far, gives the same tally at each turn; a record that is not well spoils it.
use Rattle.std.proofs.Common.{◌≡◌, ◌+◌, ◌-◌, ◌/◌, ◌%◌, true, false, ◌&&◌, eqb, get_or, sym, ap, ◌∙◌, mod-lt, arith}
use Rattle.seq.specs.Numbers.{plus}
use Rattle.engine.specs.Received.{table_of}
use Rattle.engine.specs.CellTally.{CellTally, word_ok, record_tally_from, record_tally_of, well-weighed, record-tally-step, record-tally-none, record-tally-spoilt}
use Rattle.engine.specs.Ring.{window, next_cell, next-cell-lt}
use Rattle.engine.proofs.received.records_ok.Goals as goal

pub cell_at-at-requires : goal.cell_at-at-requires
cell_at-at-requires c = c.requires.lent.some

pub loop-k-init : goal.loop-k-init
loop-k-init c =
    let all : c.past-used.result - 0 ≡ c.past-used.result = omega arith in
    (rw c.cell_at-at.ensures (mod-lt c.args.rx.rx_oldest.0 c.requires.lent.some), simp all)

pub offset_bounds-records-at : goal.offset_bounds-records-at
offset_bounds-records-at c = omega (arith, c.requires.lent.all)

pub bounds-records-at : goal.bounds-records-at
bounds-records-at c = omega (arith, c.requires.lent.all)

pub returns-then-not-record_ok : goal.returns-then-not-record_ok
unfolding record_tally_of
returns-then-not-record_ok c = let s = c.args in
    let N = s.rx.cells in
    let l = c.loop-k in
    let e = c.past-expected.result in
    let u = c.past-used.result in
    let all : record_tally_from (window N 0 s.records.now c.cell_at-at.result u) 0 e (record { ok = true; size = 0 }) ≡ record_tally_of N (table_of s.rx s.records.now) =
    simp (c.cell_at-at.ensures, c.past-used.ensures, c.past-expected.ensures) in
    let bad : (record_tally_of N (table_of s.rx s.records.now)).ok ≡ false =
    ap (λ (t : CellTally). t.ok) (sym (l.invariant.1 ∙ all))
    ∙ record-tally-spoilt N s.records.now l.at (u - l.k) l.k e (record { ok = true; size = l.size }) (omega arith) (sym c.record_ok.ensures ∙ c.if-not-record_ok.true) in
    sym (ap (λ b. b && eqb (record_tally_of N (table_of s.rx s.records.now)).size s.rx.rxed_reliable_size) bad)

pub loop-k-preserved : goal.loop-k-preserved
unfolding plus
loop-k-preserved c =
    let N = c.args.rx.cells in
    let l = c.loop-k in
    let e = c.past-expected.result in
    let u = c.past-used.result in
    let word = get_or c.args.records.now l.at 0 in
    let k : u - (l.k + 1) ≡ u - l.k - 1 = omega arith in
    let ok : word_ok word l.k e ≡ true = sym c.record_ok.ensures ∙ c.if-not-record_ok.false in
    let sum : (l.size + c.length_in-size.result) % 4294967296 ≡ plus l.size (word / 256 % 16777216) = ap (plus l.size) c.length_in-size.ensures in (
      rw c.next_cell-at.ensures (next-cell-lt N l.at c.requires.lent.some),
      (λ i. record_tally_from (window N 0 c.args.records.now (c.next_cell-at.ensures i) (k i)) (l.k + 1) e (record { ok = true; size = sum i }))
          ∙ ap (record_tally_from (window N 0 c.args.records.now (next_cell N l.at) (u - l.k - 1)) (l.k + 1) e) (sym (well-weighed l.size word l.k e ok))
          ∙ sym (record-tally-step N c.args.records.now l.at (u - l.k) l.k e (record { ok = true; size = l.size }) (omega arith))
          ∙ l.invariant.1,
    )

pub returns : goal.returns
unfolding record_tally_of
returns c = let s = c.args in
    let N = s.rx.cells in
    let l = c.loop-k in
    let e = c.past-expected.result in
    let u = c.past-used.result in
    let all : record { ok = true; size = l.size } ≡ record_tally_of N (table_of s.rx s.records.now) =
    sym (record-tally-none N s.records.now l.at (u - l.k) l.k e (record { ok = true; size = l.size }) (omega arith))
    ∙ l.invariant.1
    ∙ simp (c.cell_at-at.ensures, c.past-used.ensures, c.past-expected.ensures) in
    ap (λ (t : CellTally). t.ok && eqb t.size s.rx.rxed_reliable_size) all
