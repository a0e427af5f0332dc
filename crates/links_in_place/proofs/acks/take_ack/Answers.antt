-- By the slot and by whether an ack waits.
use Rattle.std.specs.Prelude.{Ok, Err}
use Rattle.std.proofs.lemmas.Result.{err_from_is_err_and}
use borrow.Author.Tests.{ltb-true, ltb-false}
use Rattle.refusal.specs.declared.Refusal.TheVariants.{Slot, Nothing}
use Rattle.seq.specs.Numbers.{seq_of}
use Rattle.link.specs.Acks.{ack_taken}
use Rattle.engine.specs.Fields.{with_row}
use Rattle.engine.specs.Sound.{row_at}
use Rattle.words.specs.Encoded.{bare}
use Rattle.std.proofs.Common.{◌≡◌, ◌<◌, get_or, refl, sym, ap, ◌∙◌, arith}
use Rattle.refusal.specs.Verdicts.{gate-pass}
use Rattle.link.specs.declared.row.LinkRow.{LinkRow}
use Rattle.words.specs.Meaning.{state_of}
use Rattle.links_in_place.specs.Acks.{ack-no-slot, ack-none, ack-taken}
use Rattle.links_in_place.specs.Gated.{gate-stop, slot_small}
use Rattle.links_in_place.proofs.acks.take_ack.Goals as goal

pub returns-in_err-refuse_unless : goal.returns-in_err-refuse_unless
returns-in_err-refuse_unless c = let stop = gate-stop _ _ _ (sym c.in_err-refuse_unless.ensures) in
    let p = err_from_is_err_and c.from_residual.result c.from_residual.ensures.1 in
    let r : c.from_residual.result ≡ Err Slot = p.1 ∙ ap Err (p.2 ∙ stop.1) in
    let e = ack-no-slot (state_of c.args.words.now) c.requires.judged c.args.slot (sym c.slot_ok.ensures ∙ stop.0) in
    simp (r, e) record { value = refl; words_after = refl; left = λ ne. refl }

pub row_at-row-requires : goal.row_at-row-requires
row_at-row-requires c =
    let ok = (gate-pass _ _ _ (sym c.in_ok-refuse_unless.ensures)).0 in
    rw c.from-j.ensures (slot_small (state_of c.args.words.now) c.requires.judged c.args.slot (sym c.slot_ok.ensures ∙ ok))

pub returns-in_err-refuse_unless-2 : goal.returns-in_err-refuse_unless-2
returns-in_err-refuse_unless-2 c = let ok = (gate-pass _ _ _ (sym c.in_ok-refuse_unless.ensures)).0 in
    let small = slot_small (state_of c.args.words.now) c.requires.judged c.args.slot (sym c.slot_ok.ensures ∙ ok) in
    let stop = gate-stop _ _ _ (sym c.in_err-refuse_unless-2.ensures) in
    let p = err_from_is_err_and c.from_residual-in_err-refuse_unless-2.result c.from_residual-in_err-refuse_unless-2.ensures.1 in
    let r : c.from_residual-in_err-refuse_unless-2.result ≡ Err Nothing = p.1 ∙ ap Err (p.2 ∙ stop.1) in
    let row = c.row_at-row.ensures ∙ ap (λ j. bare (row_at (state_of c.args.words.now) j)) c.from-j.ensures in
    let none : c.row_at-row.result.ack_count ≡ 0 = omega (arith, ltb-false 0 c.row_at-row.result.ack_count stop.0) in
    let e = ack-none (state_of c.args.words.now) c.requires.judged c.args.slot (sym c.slot_ok.ensures ∙ ok) (sym (ap (λ (r : LinkRow). r.ack_count) row) ∙ none) in
    simp (r, e) record { value = refl; words_after = refl; left = λ ne. refl }

pub first_ack-seq-requires : goal.first_ack-seq-requires
first_ack-seq-requires c =
    let ok = (gate-pass _ _ _ (sym c.in_ok-refuse_unless.ensures)).0 in
    rw c.from-j.ensures (slot_small (state_of c.args.words.now) c.requires.judged c.args.slot (sym c.slot_ok.ensures ∙ ok))

pub drop_ack-requires : goal.drop_ack-requires
drop_ack-requires c =
    let ok = (gate-pass _ _ _ (sym c.in_ok-refuse_unless.ensures)).0 in
    let some = (gate-pass _ _ _ (sym c.in_ok-refuse_unless-2.ensures)).0 in
    (rw c.from-j.ensures (slot_small (state_of c.args.words.now) c.requires.judged c.args.slot (sym c.slot_ok.ensures ∙ ok)), c.row_at-row.ensures, ltb-true 0 c.row_at-row.result.ack_count some)

pub returns : goal.returns
returns c = let ok = (gate-pass _ _ _ (sym c.in_ok-refuse_unless.ensures)).0 in
    let some : 0 < c.row_at-row.result.ack_count = ltb-true 0 c.row_at-row.result.ack_count (gate-pass _ _ _ (sym c.in_ok-refuse_unless-2.ensures)).0 in
    let s = state_of c.args.words.now in
    let row = c.row_at-row.ensures ∙ ap (λ j. bare (row_at s j)) c.from-j.ensures in
    let e = ack-taken s c.requires.judged c.args.slot (sym c.slot_ok.ensures ∙ ok) (λ z. let none : c.row_at-row.result.ack_count ≡ 0 = ap (λ (r : LinkRow). r.ack_count) row ∙ z in omega arith) in
    simp e record {
      value = ap Ok (c.first_ack-seq.ensures ∙ ap (λ j. get_or (row_at s j).tx_ack_queue 0 (seq_of 0)) c.from-j.ensures);
      words_after = c.drop_ack.ensures ∙ ap (λ j. with_row s j (ack_taken (row_at s j))) c.from-j.ensures;
      left = λ ne. absurd (ne refl);
    }
