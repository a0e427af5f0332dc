-- Document 01, "The replay program": "acks and ready messages are taken after each frame". That ACKS and CELLS turns take all: what is asked of
-- the state holds of every sound one. Assumes nothing.
use Rattle.std.specs.Prelude.{◌≡◌, refl, true, false, Bool, ℕ, ◌+◌, ◌-◌, ◌^◌, ◌≤◌, ◌<◌, eqb, List, length, None, Option, Ok, Err, Result}
use Rattle.refusal.specs.declared.Refusal.{Refusal}
use Rattle.seq.specs.declared.Seq.{Seq}
use Rattle.engine.specs.Held.{HandOut}
use Rattle.std.proofs.Common.{sym, ◌∙◌, ap, length-set, get_or-set_same}
use native.Mathlib.Omega.{arith}
use borrow.Author.Tests.{eq-eqb, ne_eqb, eqb-false, not-true}
use Rattle.refusal.specs.Tests.{false-true, split}
use Rattle.seq.specs.Numbers.{plus, minus}
use Rattle.seq.specs.Distance.{past, past_near, past-ahead}
use Rattle.link.specs.declared.row.LinkRow.{LinkRow}
use Rattle.link.specs.Acks.{oldest_ack, ack_taken}
use Rattle.link.specs.Row.{no_row}
use Rattle.engine.specs.declared.state.Receiving.{Receiving}
use Rattle.engine.specs.declared.state.State.{State}
use Rattle.engine.specs.Sizes.{SLOTS}
use Rattle.engine.specs.Records.{is_full}
use Rattle.engine.specs.Received.{RxTable, table_of, expected_at}
use Rattle.engine.specs.Decide.{soundb, sound_withb}
use Rattle.engine.specs.Totals.{fits, MAX_TOTAL}
use Rattle.refusal.specs.Verdicts.{gate}
use Rattle.engine.specs.Rows.{row_of, row-of, slot_ok}
use Rattle.engine.specs.HandingOut.{take_ack_of, ack_as, ack_answer, taken_ack_by, taken_ack_state, ready_of, ready_bytes, is_ready, take_ack_verdict, hand_out_by, data_length, take_of, take_records, take_verdict, taken_by, records_by, taken_state, taken_table, taken_in, skipped, can_skip, passed_by}
use Rattle.engine.specs.Fields.{with_row}
use Rattle.engine.specs.Turns.{turns-keep}
use Rattle.replaying.specs.Taking.{is_ack, is_message, has_ack, after_ack, without_acks, Recorded, has_message, after_message, without_ready}

-- ---- acks

-- where 19 shuts its gate, there is no ack
none-waiting : (sound slot : Bool) (ack : Option Seq) → is_ack (ack_as (gate sound 1 (gate slot 4 (gate false 19 (Ok tt)))) ack) ≡ false
none-waiting true true ack = refl
none-waiting true false ack = refl
none-waiting false slot ack = refl

pub no-ack : (s : State) → (row_of s 0).ack_count ≡ 0 → has_ack s ≡ false
unfolding take_ack_of ack_answer take_ack_verdict oldest_ack
no-ack s e = simp (eq-eqb (row_of s 0).ack_count 0 e) (none-waiting (soundb s) (slot_ok s 0) None)

taken-by : (a : Result Seq Refusal) (s : State) → is_ack a ≡ true → taken_ack_by a s 0 ≡ taken_ack_state s 0
taken-by (Ok seq) s e = refl
taken-by (Err r) s e = false-true e

one_less : (r : LinkRow) → (r.ack_count ≡ 0 → ⊥) → (ack_taken r).ack_count ≡ r.ack_count - 1
unfolding ack_taken
one_less r h = simp (ne_eqb r.ack_count 0 h)

module _ (s : State) (eight : length s.links ≡ SLOTS) (t : has_ack s ≡ true) where
  some-waiting : (row_of s 0).ack_count ≡ 0 → ⊥
  some-waiting e = false-true (sym (no-ack s e) ∙ t)

  ack-state : after_ack s ≡ with_row s 0 (ack_taken (row_of s 0))
  unfolding take_ack_of taken_ack_state
  ack-state = taken-by (ack_answer s 0) s t

  ack-links : length (after_ack s).links ≡ SLOTS
  ack-links = ap (λ x. length x.links) ack-state ∙ length-set s.links 0 (ack_taken (row_of s 0)) ∙ eight

  ack-count : (row_of (after_ack s) 0).ack_count ≡ (row_of s 0).ack_count - 1
  ack-count =
      ap (λ x. (row_of x 0).ack_count) ack-state
      ∙ ap (λ r. r.ack_count) (row-of (with_row s 0 (ack_taken (row_of s 0))) 0 (omega arith))
      ∙ ap (λ r. r.ack_count) (get_or-set_same s.links 0 (ack_taken (row_of s 0)) no_row (omega (arith, eight)))
      ∙ one_less (row_of s 0) some-waiting

-- as many turns as acks wait leave none to take
pub no-ack-left : (n : ℕ) (s : State) → length s.links ≡ SLOTS → (row_of s 0).ack_count ≤ n → has_ack (without_acks n s) ≡ false
no-ack-left n s eight h =
    turns-keep has_ack after_ack (λ k s. (length s.links ≡ SLOTS) × ((row_of s 0).ack_count ≤ k)) (λ s. has_ack s ≡ false)
    (λ k s h t. (ack-links s h.0 t, omega (arith, ack-count s h.0 t, some-waiting s h.0 t)))
    (λ k s h f. f) (λ s h. no-ack s (omega arith)) n s (eight, h)

-- ---- ready messages

none-ready : (long sound total : Bool) (t : RxTable) → is_message (hand_out_by (gate long 2 (gate sound 1 (gate total 9 (gate false 19 (Ok tt))))) t) ≡ false
unfolding hand_out_by
none-ready true true true t = refl
none-ready true true false t = refl
none-ready true false total t = refl
none-ready false sound total t = refl

-- a refused taking leaves the records as they came
kept-records : (a : HandOut) (s : State) (records : List ℕ) → is_message a ≡ false → records_by a s records ≡ records
kept-records (Ok (msg, seq, len)) s records e = false-true (sym e)
kept-records (Err r) s records e = refl

pub untaken-records : (h : Recorded) → has_message h ≡ false → take_records h.state h.records ≡ h.records
unfolding take_of take_records
untaken-records h e = kept-records (take_of h.state h.records).answer h.state h.records e

-- the two numbers are 32 bits wide, and the next expected is not far past the oldest
pub record Wide (rx : Receiving) : Type 0 where
  pub expected : rx.rx_seq.0 < 2 ^ 32
  pub oldest : rx.rx_oldest.0 < 2 ^ 32
  pub close : expected_at rx < 2 ^ 30

-- the two are the same where no number is between them, and one less is between them when the oldest is passed by
module _ (rx : Receiving) (w : Wide rx) where
  gap_is : expected_at rx ≡ minus rx.rx_seq.0 rx.rx_oldest.0
  gap_is = past_near rx.rx_seq.0 rx.rx_oldest.0 w.close

  gap-none : expected_at rx ≤ 0 → rx.rx_oldest.0 ≡ rx.rx_seq.0
  unfolding minus
  gap-none e = omega (arith, gap_is)

  minus-less : (rx.rx_oldest.0 ≡ rx.rx_seq.0 → ⊥) → minus rx.rx_seq.0 (plus rx.rx_oldest.0 1) + 1 ≡ minus rx.rx_seq.0 rx.rx_oldest.0
  unfolding minus plus
  minus-less e = omega arith

  gap-less : (rx.rx_oldest.0 ≡ rx.rx_seq.0 → ⊥) → past rx.rx_seq.0 (plus rx.rx_oldest.0 1) + 1 ≡ expected_at rx
  gap-less e =
      let m = minus-less e in
      omega (arith, past-ahead rx.rx_seq.0 (plus rx.rx_oldest.0 1) (omega (arith, m, gap_is, w.close)), m, gap_is)

plus-wide : (b : ℕ) → plus b 1 < 2 ^ 32
unfolding plus
plus-wide b = omega arith

nothing-ready : (t : RxTable) → t.rx.rx_oldest.0 ≡ t.rx.rx_seq.0 → ready_of t ≡ None
unfolding ready_of
nothing-ready t e = simp (eq-eqb t.rx.rx_oldest.0 t.rx.rx_seq.0 e)

pub no-message : (h : Recorded) → h.state.rx.rx_oldest.0 ≡ h.state.rx.rx_seq.0 → has_message h ≡ false
unfolding take_of take_verdict
no-message h e =
    let t = table_of h.state.rx h.records in
    let ready : is_ready t ≡ false = ap is_full (nothing-ready t e) in
    simp ready
    (none-ready (eqb (length h.records) h.state.rx.cells) (sound_withb h.state h.records)
    (fits h.state.rx.rxed_reliable_consumed (ready_bytes (ready_of t)) MAX_TOTAL) t)

module _ (N : ℕ) (records : List ℕ) where
  passing : (rx : Receiving) → can_skip N records rx ≡ true → rx.rx_oldest.0 ≡ rx.rx_seq.0 → ⊥
  unfolding can_skip
  passing rx t = eqb-false rx.rx_oldest.0 rx.rx_seq.0 (not-true (eqb rx.rx_oldest.0 rx.rx_seq.0) (split _ _ t).0)

  -- skipping goes on towards the next expected number, and not past it
  skip-near : (k : ℕ) (rx : Receiving) → Wide rx → Wide (skipped N k records rx) × (expected_at (skipped N k records rx) ≤ expected_at rx)
  unfolding passed_by
  skip-near k rx w =
      let Near : Receiving → Type 0 = λ r. Wide r × (expected_at r ≤ expected_at rx) in
      turns-keep (can_skip N records) passed_by (λ k r. Near r) Near
      (λ k r h t.
      let less = gap-less r h.0 (passing r t) in
      (record { expected = h.0.expected; oldest = plus-wide r.rx_oldest.0; close = omega (arith, less, h.0.close) }, omega (arith, less)))
      (λ k r h f. h) (λ r h. h) k rx (w, omega arith)

taken_as : (a : HandOut) (s : State) (records : List ℕ) → is_message a ≡ true → (bytes : ℕ) × (taken_by a s records ≡ taken_state s records bytes)
taken_as (Ok (msg, seq, len)) s records e = (data_length msg len, refl)
taken_as (Err r) s records e = false-true e

module _ (h : Recorded) (w : Wide h.state.rx) (t : has_message h ≡ true) where
  abbrev rx : Receiving
  rx = h.state.rx

  some-ready : rx.rx_oldest.0 ≡ rx.rx_seq.0 → ⊥
  some-ready e = false-true (sym (no-message h e) ∙ t)

  take-near : (bytes : ℕ) → let left = (taken_table h.state h.records bytes).rx in Wide left × (expected_at left + 1 ≤ expected_at rx)
  unfolding taken_in passed_by
  take-near bytes =
      let less = gap-less rx w some-ready in
      let still : past rx.rx_seq.0 (plus rx.rx_oldest.0 1) < 2 ^ 30 = omega (arith, less, w.close) in
      let rest = skip-near rx.cells _ rx.cells _ (record { expected = w.expected; oldest = plus-wide rx.rx_oldest.0; close = still }) in
      (rest.0, omega (arith, rest.1, less))

  taken-near : Wide (after_message h).state.rx × (expected_at (after_message h).state.rx + 1 ≤ expected_at rx)
  unfolding take_of taken_state
  taken-near =
      let a = taken_as (hand_out_by (take_verdict h.state h.records) (table_of rx h.records)) h.state h.records t in
      rw a.1 (take-near a.0)

-- as many turns as numbers are ready leave nothing to take
pub no-message-left : (n : ℕ) (h : Recorded) → Wide h.state.rx → expected_at h.state.rx ≤ n → has_message (without_ready n h) ≡ false
no-message-left n h w few =
    turns-keep has_message after_message (λ k h. Wide h.state.rx × (expected_at h.state.rx ≤ k)) (λ h. has_message h ≡ false)
    (λ k h p t. let near = taken-near h p.0 t in (near.0, omega (arith, near.1)))
    (λ k h p f. f) (λ h p. no-message h (gap-none h.state.rx p.0 p.1)) n h (w, few)
