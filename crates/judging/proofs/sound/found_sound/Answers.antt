-- Each test that fails says that the state is not sound; where none does, the links decide.
use Rattle.std.proofs.Common.{◌≡◌, ◌<◌, ◌≤◌, true, get_or, sym, ap, ◌∙◌, subst}
use borrow.Author.Tests.{lt-leb}
use Rattle.seq.specs.Numbers.{seq_of, minus}
use Rattle.engine.specs.Found.{first_ok, receivingb, found_sound}
use Rattle.engine.specs.Roster.{roster_of}
use Rattle.engine.specs.Tally.{tally_of}
use Rattle.words.specs.declared.sending.SendingNumbers.{SendingNumbers}
use Rattle.words.specs.Meaning.{state_of}
use Rattle.words.specs.Read.{time-read}
use Rattle.judging.specs.Weights.{clipped-some, clipped-none}
use Rattle.judging.specs.Words.{sums_ok, links_ok, unsound, sound-links}
use Rattle.judging.proofs.sound.found_sound.Goals as goal

pub returns-then-tx-gt-PACKETS : goal.returns-then-tx-gt-PACKETS
unfolding found_sound
returns-then-tx-gt-PACKETS c = let s = state_of c.args.words.now in
    let many : 64 < s.tx.txed_count = subst (λ (n : SendingNumbers). 64 < n.txed_count) c.tx_of-tx.ensures c.if-tx-gt-PACKETS.true in
    simp (lt-leb _ _ many)

pub returns-then-not-receiving_ok : goal.returns-then-not-receiving_ok
returns-then-not-receiving_ok c = let s = state_of c.args.words.now in
    sym (unsound s (receivingb s.rx) (λ p. p.receiving) (ap receivingb (sym c.rx_of-rx.ensures) ∙ sym c.receiving_ok.ensures ∙ c.if-not-receiving_ok.true))

pub first_ok-requires : goal.first_ok-requires
first_ok-requires c =
    let x = c.tx_of-tx.ensures in
    (ap (λ (n : SendingNumbers). n.txed_count) x, c.sub-n.ensures ∙ (λ i. seq_of (minus (x i).tx_seq.0 (x i).txed_count)))

pub returns-then-not-first_ok : goal.returns-then-not-first_ok
returns-then-not-first_ok c = let s = state_of c.args.words.now in
    sym (unsound s (first_ok s.tx) (λ p. p.first) (sym c.first_ok.ensures ∙ c.if-not-first_ok.true))

pub tallied-tally-requires : goal.tallied-tally-requires
tallied-tally-requires c =
    let x = c.tx_of-tx.ensures in
    let w = c.args.words.now in
    (ap (λ (n : SendingNumbers). n.txed_count) x, c.sub-n.ensures ∙ (λ i. seq_of (minus (x i).tx_seq.0 (x i).txed_count)), sym (time-read w c.told-words))

pub returns-in-None : goal.returns-in-None
returns-in-None c = let s = state_of c.args.words.now in
    let all = tally_of s.tx (roster_of s.links) s.time in
    sym (unsound s all.ok (λ p. p.tally) (clipped-none all (sym c.tallied-tally.ensures ∙ c.in-None.is)))

pub returns-then-not-sums_ok : goal.returns-then-not-sums_ok
returns-then-not-sums_ok c = let s = state_of c.args.words.now in
    let all = tally_of s.tx (roster_of s.links) s.time in
    let some = clipped-some all c.in-Some.t (sym c.tallied-tally.ensures ∙ c.in-Some.is) in
    let t : c.in-Some.t ≡ all = sym some.1 in
    sym (unsound s (sums_ok s.tx all) (λ p. p.sums) (ap (sums_ok s.tx) (sym t) ∙ sym c.sums_ok.ensures ∙ c.if-not-sums_ok.true))

pub returns-else-not-sums_ok : goal.returns-else-not-sums_ok
returns-else-not-sums_ok c = let s = state_of c.args.words.now in
    let all = tally_of s.tx (roster_of s.links) s.time in
    let some = clipped-some all c.in-Some.t (sym c.tallied-tally.ensures ∙ c.in-Some.is) in
    let well : all.ok ≡ true = some.0 in
    let t : c.in-Some.t ≡ all = sym some.1 in
    let few : s.tx.txed_count ≤ 64 = subst (λ (n : SendingNumbers). n.txed_count ≤ 64) c.tx_of-tx.ensures c.if-tx-gt-PACKETS.false in
    let now : get_or c.args.words.now 24 0 ≡ s.time = sym (time-read c.args.words.now c.told-words) in
    c.links_ok.ensures
    ∙ (λ i. links_ok s.links (t i).on (now i))
    ∙ sym (sound-links s few record {
      receiving = ap receivingb (sym c.rx_of-rx.ensures) ∙ sym c.receiving_ok.ensures ∙ c.if-not-receiving_ok.false;
      first = sym c.first_ok.ensures ∙ c.if-not-first_ok.false;
      tally = well;
      sums = ap (sums_ok s.tx) (sym t) ∙ sym c.sums_ok.ensures ∙ c.if-not-sums_ok.false;
    })
