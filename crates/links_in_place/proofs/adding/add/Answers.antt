-- By the tests, in the order of their numbers.
use Rattle.std.specs.Prelude.{ℕ, Option, Result, Ok, Err, None}
use Rattle.std.proofs.Common.{◌≡◌, ◌&&◌, leb, refl, sym, ap, ◌∙◌, le-leb}
use borrow.Author.Tests.{lt-leb}
use Rattle.std.proofs.lemmas.Bool.{not-true, not-false}
use Rattle.std.proofs.lemmas.Result.{err_from_is_err_and}
use Rattle.std.specs.Option.{ok_or}
use Rattle.refusal.specs.declared.Refusal.{Refusal}
use Rattle.refusal.specs.declared.Refusal.TheVariants.{Time, NoSlot, Identity}
use Rattle.refusal.specs.Verdicts.{gate-pass}
use Rattle.link.specs.Fields.{with_acks}
use Rattle.link.specs.Sizes.{MAX_TIME, max_ping_within}
use Rattle.engine.specs.Fields.{with_row}
use Rattle.engine.specs.Links.{lowest_in}
use Rattle.words.specs.Encoded.{no_acks}
use Rattle.words.specs.Meaning.{state_of}
use Rattle.links_in_place.specs.Gated.{gate-stop}
use Rattle.links_in_place.specs.Adding.{slot_found, slot-none, fresh-acks, add-no-time, add-no-slot, add-taken, add_done}
use Rattle.links_in_place.proofs.adding.add.Goals as goal
use Rattle.links_in_place.proofs.adding.add.Goals.{then-roundtrip-le-MAX_TIME, else-roundtrip-le-MAX_TIME}

pub returns-in_err-refuse_unless : goal.returns-in_err-refuse_unless
returns-in_err-refuse_unless c = let a = c.args in
    let timed : (leb a.roundtrip MAX_TIME && max_ping_within a.max_ping) ≡ c.if-roundtrip-le-MAX_TIME.timed = elim c.if-roundtrip-le-MAX_TIME.branch [
      | then-roundtrip-le-MAX_TIME w ↦ simp (w.timed-is, w.max_ping_within-timed.ensures, le-leb _ _ w.if-roundtrip-le-MAX_TIME.true)
      | else-roundtrip-le-MAX_TIME w ↦ simp (w.timed-is, lt-leb _ _ w.if-roundtrip-le-MAX_TIME.false)
    ] in
    let stop = gate-stop _ _ _ (sym c.in_err-refuse_unless.ensures) in
    let p = err_from_is_err_and c.from_residual.result c.from_residual.ensures.1 in
    let r : c.from_residual.result ≡ Err Time = p.1 ∙ ap Err (p.2 ∙ stop.1) in
    let e = add-no-time (state_of a.words.now) c.requires.judged a.link_id a.roundtrip a.max_ping a.blocked a.unconfirmed (timed ∙ stop.0) in
    simp (r, e) record { value = refl; words_after = refl; left = λ ne. refl }

pub returns-in_err-slot : goal.returns-in_err-slot
returns-in_err-slot c = let a = c.args in
    let timed : (leb a.roundtrip MAX_TIME && max_ping_within a.max_ping) ≡ c.if-roundtrip-le-MAX_TIME.timed = elim c.if-roundtrip-le-MAX_TIME.branch [
      | then-roundtrip-le-MAX_TIME w ↦ simp (w.timed-is, w.max_ping_within-timed.ensures, le-leb _ _ w.if-roundtrip-le-MAX_TIME.true)
      | else-roundtrip-le-MAX_TIME w ↦ simp (w.timed-is, lt-leb _ _ w.if-roundtrip-le-MAX_TIME.false)
    ] in
    let ok = (gate-pass _ _ _ (sym c.in_ok-refuse_unless.ensures)).0 in
    let none : c.lowest_empty.result ≡ None = c.in_err-slot.ensures.ok_part in
    let v : ◌≡◌ {A = Result ℕ Refusal} (Err c.in_err-slot.field-0.0) (Err NoSlot) = c.in_err-slot.ensures.value ∙ ap (λ (o : Option ℕ). ok_or o NoSlot) none in
    let named : c.in_err-slot.field-0.0 ≡ NoSlot = cc in
    let p = err_from_is_err_and c.from_residual-in_err-slot.result c.from_residual-in_err-slot.ensures.1 in
    let r : c.from_residual-in_err-slot.result ≡ Err NoSlot = p.1 ∙ ap Err (p.2 ∙ named) in
    let e = add-no-slot (state_of a.words.now) c.requires.judged a.link_id a.roundtrip a.max_ping a.blocked a.unconfirmed (timed ∙ ok) (slot-none (state_of a.words.now) (sym c.lowest_empty.ensures ∙ none)) in
    simp (r, e) record { value = refl; words_after = refl; left = λ ne. refl }

pub returns-in_err-refuse_unless-2 : goal.returns-in_err-refuse_unless-2
returns-in_err-refuse_unless-2 c = let a = c.args in
    let timed : (leb a.roundtrip MAX_TIME && max_ping_within a.max_ping) ≡ c.if-roundtrip-le-MAX_TIME.timed = elim c.if-roundtrip-le-MAX_TIME.branch [
      | then-roundtrip-le-MAX_TIME w ↦ simp (w.timed-is, w.max_ping_within-timed.ensures, le-leb _ _ w.if-roundtrip-le-MAX_TIME.true)
      | else-roundtrip-le-MAX_TIME w ↦ simp (w.timed-is, lt-leb _ _ w.if-roundtrip-le-MAX_TIME.false)
    ] in
    let ok = (gate-pass _ _ _ (sym c.in_ok-refuse_unless.ensures)).0 in
    let low = slot_found (state_of a.words.now) c.in_ok-slot.slot (sym c.lowest_empty.ensures ∙ c.in_ok-slot.ensures.ok_part) in
    let stop = gate-stop _ _ _ (sym c.in_err-refuse_unless-2.ensures) in
    let p = err_from_is_err_and c.from_residual-in_err-refuse_unless-2.result c.from_residual-in_err-refuse_unless-2.ensures.1 in
    let r : c.from_residual-in_err-refuse_unless-2.result ≡ Err Identity = p.1 ∙ ap Err (p.2 ∙ stop.1) in
    let e = add-taken (state_of a.words.now) c.requires.judged a.link_id a.roundtrip a.max_ping a.blocked a.unconfirmed (timed ∙ ok) low.0 (sym c.is_taken.ensures ∙ not-false c.is_taken.result stop.0) in
    simp (r, e) record { value = refl; words_after = refl; left = λ ne. refl }

pub put_new-requires : goal.put_new-requires
put_new-requires c =
    let low = slot_found (state_of c.args.words.now) c.in_ok-slot.slot (sym c.lowest_empty.ensures ∙ c.in_ok-slot.ensures.ok_part) in
    rw (c.from.ensures, low.1) low.0

pub returns : goal.returns
returns c = let a = c.args in
    let s = state_of a.words.now in
    let timed : (leb a.roundtrip MAX_TIME && max_ping_within a.max_ping) ≡ c.if-roundtrip-le-MAX_TIME.timed = elim c.if-roundtrip-le-MAX_TIME.branch [
      | then-roundtrip-le-MAX_TIME w ↦ simp (w.timed-is, w.max_ping_within-timed.ensures, le-leb _ _ w.if-roundtrip-le-MAX_TIME.true)
      | else-roundtrip-le-MAX_TIME w ↦ simp (w.timed-is, lt-leb _ _ w.if-roundtrip-le-MAX_TIME.false)
    ] in
    let ok = (gate-pass _ _ _ (sym c.in_ok-refuse_unless.ensures)).0 in
    let free = (gate-pass _ _ _ (sym c.in_ok-refuse_unless-2.ensures)).0 in
    let low = slot_found s c.in_ok-slot.slot (sym c.lowest_empty.ensures ∙ c.in_ok-slot.ensures.ok_part) in
    let e = add_done s c.requires.judged a.link_id a.roundtrip a.max_ping a.blocked a.unconfirmed (timed ∙ ok) low.0 (sym c.is_taken.ensures ∙ not-true c.is_taken.result free) in
    simp e record {
      value = ap Ok low.1;
      words_after = c.put_new.ensures
          ∙ (λ i. let row = c.fresh-row.ensures i in with_row s ((c.from.ensures ∙ low.1) i) (with_acks row no_acks row.ack_count))
          ∙ ap (with_row s (lowest_in s)) (fresh-acks a.link_id a.roundtrip a.max_ping a.blocked a.unconfirmed);
      left = λ ne. absurd (ne refl);
    }
