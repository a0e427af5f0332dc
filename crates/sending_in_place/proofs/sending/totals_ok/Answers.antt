-- The four tests, one after another.
use mathlib.Core.Path.{◌≡◌, sym, ap, ◌∙◌}
use mathlib.Core.Bool.{true, false}
use Rattle.link.specs.declared.row.LinkRow.{LinkRow}
use Rattle.engine.specs.Rows.{row_of}
use Rattle.engine.specs.Totals.{fits, MAX_TOTAL}
use Rattle.engine.specs.Sending.{totals_ok}
use Rattle.words.specs.declared.sending.SendingNumbers.{SendingNumbers}
use Rattle.words.specs.Meaning.{state_of}
use Rattle.sending_in_place.proofs.sending.totals_ok.Goals as goal

pub returns-then-not-sum_fits : goal.returns-then-not-sum_fits
unfolding totals_ok
returns-then-not-sum_fits c = let s = state_of c.args.words.now in
    let n = c.args.len in
    let first : fits s.tx.txed_unacked n MAX_TOTAL ≡ false = ap (λ (m : SendingNumbers). fits m.txed_unacked n MAX_TOTAL) (sym c.requires) ∙ sym c.sum_fits.ensures ∙ c.if-not-sum_fits.true in
    simp first

pub returns-then-not-sum_fits-2 : goal.returns-then-not-sum_fits-2
unfolding totals_ok
returns-then-not-sum_fits-2 c = let s = state_of c.args.words.now in
    let n = c.args.len in
    let first : fits s.tx.txed_unacked n MAX_TOTAL ≡ true = ap (λ (m : SendingNumbers). fits m.txed_unacked n MAX_TOTAL) (sym c.requires) ∙ sym c.sum_fits.ensures ∙ c.if-not-sum_fits.false in
    let second : fits s.tx.txed_unconsumed n MAX_TOTAL ≡ false = ap (λ (m : SendingNumbers). fits m.txed_unconsumed n MAX_TOTAL) (sym c.requires) ∙ sym c.sum_fits-2.ensures ∙ c.if-not-sum_fits-2.true in
    simp (first, second)

pub returns-then-not-sum_fits-3 : goal.returns-then-not-sum_fits-3
unfolding totals_ok
returns-then-not-sum_fits-3 c = let s = state_of c.args.words.now in
    let n = c.args.len in
    let first : fits s.tx.txed_unacked n MAX_TOTAL ≡ true = ap (λ (m : SendingNumbers). fits m.txed_unacked n MAX_TOTAL) (sym c.requires) ∙ sym c.sum_fits.ensures ∙ c.if-not-sum_fits.false in
    let second : fits s.tx.txed_unconsumed n MAX_TOTAL ≡ true = ap (λ (m : SendingNumbers). fits m.txed_unconsumed n MAX_TOTAL) (sym c.requires) ∙ sym c.sum_fits-2.ensures ∙ c.if-not-sum_fits-2.false in
    let third : fits (row_of s c.args.slot).txed_unacked_data n MAX_TOTAL ≡ false = ap (λ (r : LinkRow). fits r.txed_unacked_data n MAX_TOTAL) (sym c.row_of.ensures) ∙ sym c.sum_fits-3.ensures ∙ c.if-not-sum_fits-3.true in
    simp (first, second, third)

pub returns : goal.returns
unfolding totals_ok
returns c = let s = state_of c.args.words.now in
    let n = c.args.len in
    let first : fits s.tx.txed_unacked n MAX_TOTAL ≡ true = ap (λ (m : SendingNumbers). fits m.txed_unacked n MAX_TOTAL) (sym c.requires) ∙ sym c.sum_fits.ensures ∙ c.if-not-sum_fits.false in
    let second : fits s.tx.txed_unconsumed n MAX_TOTAL ≡ true = ap (λ (m : SendingNumbers). fits m.txed_unconsumed n MAX_TOTAL) (sym c.requires) ∙ sym c.sum_fits-2.ensures ∙ c.if-not-sum_fits-2.false in
    let third : fits (row_of s c.args.slot).txed_unacked_data n MAX_TOTAL ≡ true = ap (λ (r : LinkRow). fits r.txed_unacked_data n MAX_TOTAL) (sym c.row_of.ensures) ∙ sym c.sum_fits-3.ensures ∙ c.if-not-sum_fits-3.false in
    simp (c.told_ok.ensures, c.rx_of.ensures, first, second, third)
