-- The tests are those of `sumsOk`, one after another.
use Rattle.std.proofs.Common.{◌≡◌, true, false, eqb, leb, sym, ap, ◌∙◌, eq-eqb, ne_eqb, le-leb}
use borrow.Author.Tests.{lt-leb}
use Rattle.words.specs.declared.sending.SendingNumbers.{SendingNumbers}
use Rattle.words.specs.Meaning.{state_of}
use Rattle.judging.proofs.sound.sums_ok.Goals as goal

pub returns-then-t-tx : goal.returns-then-t-tx
returns-then-t-tx c = let a = c.args in
    let x = c.tx_of-tx.ensures in
    let e : eqb a.t.queued (state_of a.words.now).tx.resend_count ≡ false = ap (λ (n : SendingNumbers). eqb a.t.queued n.resend_count) (sym x) ∙ ne_eqb _ _ c.if-t-tx.true in
    simp e

pub returns-then-tx-gt-PACKETS : goal.returns-then-tx-gt-PACKETS
returns-then-tx-gt-PACKETS c = let a = c.args in
    let x = c.tx_of-tx.ensures in
    let e : eqb a.t.queued (state_of a.words.now).tx.resend_count ≡ true = ap (λ (n : SendingNumbers). eqb a.t.queued n.resend_count) (sym x) ∙ eq-eqb _ _ c.if-t-tx.false in
    let f : leb (state_of a.words.now).tx.resend_count 64 ≡ false = ap (λ (n : SendingNumbers). leb n.resend_count 64) (sym x) ∙ lt-leb _ _ c.if-tx-gt-PACKETS.true in
    simp (e, f)

pub returns-then-t-tx-2 : goal.returns-then-t-tx-2
returns-then-t-tx-2 c = let a = c.args in
    let x = c.tx_of-tx.ensures in
    let e : eqb a.t.queued (state_of a.words.now).tx.resend_count ≡ true = ap (λ (n : SendingNumbers). eqb a.t.queued n.resend_count) (sym x) ∙ eq-eqb _ _ c.if-t-tx.false in
    let f : leb (state_of a.words.now).tx.resend_count 64 ≡ true = ap (λ (n : SendingNumbers). leb n.resend_count 64) (sym x) ∙ le-leb _ _ c.if-tx-gt-PACKETS.false in
    let u : eqb a.t.unacked (state_of a.words.now).tx.txed_unacked ≡ true = ap (λ (n : SendingNumbers). eqb a.t.unacked n.txed_unacked) (sym x) ∙ eq-eqb _ _ c.if-t-tx-2.true in
    simp (e, f, u) (ap (λ (n : SendingNumbers). eqb a.t.unconsumable n.txed_unconsumable) x)

pub returns-else-t-tx-2 : goal.returns-else-t-tx-2
returns-else-t-tx-2 c = let a = c.args in
    let x = c.tx_of-tx.ensures in
    let e : eqb a.t.queued (state_of a.words.now).tx.resend_count ≡ true = ap (λ (n : SendingNumbers). eqb a.t.queued n.resend_count) (sym x) ∙ eq-eqb _ _ c.if-t-tx.false in
    let f : leb (state_of a.words.now).tx.resend_count 64 ≡ true = ap (λ (n : SendingNumbers). leb n.resend_count 64) (sym x) ∙ le-leb _ _ c.if-tx-gt-PACKETS.false in
    let u : eqb a.t.unacked (state_of a.words.now).tx.txed_unacked ≡ false = ap (λ (n : SendingNumbers). eqb a.t.unacked n.txed_unacked) (sym x) ∙ ne_eqb _ _ c.if-t-tx-2.false in
    simp (e, f, u, ne_eqb _ _ c.if-t-tx-2.false)
