-- Document 01, "Links. Adding uses the lowest empty slot. .. Confirming, blocking, noting a ping and setting the limit mark to any
-- number are plain changes of a row (P)", and "Pong". Assumes nothing.
use Rattle.std.specs.Prelude.{◌≡◌, ℕ, zero, suc, ◌+◌, ◌-◌, ◌<◌, ◌≤◌, Bool, true, false, cond, not, ◌&&◌, ◌||◌, List, [], ◌∷◌, length, drop, ◌==◌, ◌≢◌, nat_le, nat_lt, slice_index_or, Some, Option, Ok, Err, Result}
use Rattle.refusal.specs.declared.Refusal.{Refusal}
use Rattle.std.proofs.Common.{sym, ◌∙◌, add-one, arith, drop_of_length-le, eq-eqb, leb-true, ltb-true}
use Rattle.std.proofs.Math.Path.{ap, ap₂}
use Rattle.std.proofs.Math.Seq.{drop-cons}
use Rattle.std.proofs.lemmas.Bool.{not-true}
use borrow.Table.Steps.{cases}
use Rattle.refusal.specs.Answers.{Told, success, refused}
use Rattle.refusal.specs.Tests.{false-true, split}
use Rattle.refusal.specs.Verdicts.{Verdict, gate, gate-pass}
use Rattle.link.specs.Row.{no_row, fresh_row, confirmed, blocked_row}
use Rattle.link.specs.Sizes.{max_ping_within, MAX_TIME}
use Rattle.engine.specs.declared.state.State.{State}
use Rattle.link.specs.declared.row.LinkRow.{LinkRow}
use Rattle.engine.specs.Decide.{soundb, sound}
use Rattle.engine.specs.Sound.{Sound}
use Rattle.engine.specs.Rows.{row_of}
use Rattle.engine.specs.declared.links.Added.{Added}
use Rattle.seq.specs.declared.Seq.{Seq}
use Rattle.link.specs.Limit.{marked_row}
use Rattle.link.specs.Roundtrip.{pinged, ponged}
use Rattle.engine.specs.declared.answer.Changed.{Changed}
use Rattle.engine.specs.Gates.{slot_verdict, timed_verdict}
use Rattle.engine.specs.Answer.{changed_by}
use Rattle.engine.specs.Sizes.{SLOTS}
use Rattle.engine.specs.Fields.{with_row, with_time}

-- ---- adding

-- "the lowest empty slot", where the first of the rows has this one; past them all, where every slot has a link
unfoldable pub lowest_empty : List LinkRow → ℕ → ℕ
lowest_empty [] slot = slot
lowest_empty (row ∷ rows) slot = cond row.live (lowest_empty rows (suc slot)) slot

abbrev pub lowest_in : State → ℕ
lowest_in s = lowest_empty s.links 0

-- "the identity belongs to a live link"
unfoldable pub is_taken : List LinkRow → ℕ → Bool
is_taken [] id = false
is_taken (row ∷ rows) id = (row.live && row.link_id == id) || is_taken rows id

-- "1", "3, .. adding among them" (a round trip or `max_ping` above 2^56; a link is added at no time of its own), "no empty link
-- slot" (5), "the identity belongs to a live link" (6)
unfoldable pub add_verdict : State → ℕ → ℕ → Option ℕ → Verdict
add_verdict s id roundtrip max =
    gate (soundb s) 1
    (gate (nat_le roundtrip MAX_TIME && max_ping_within max) 3
    (gate (nat_lt (lowest_in s) SLOTS) 5
    (gate (not (is_taken s.links id)) 6
    (Ok tt))))

-- the answer is the slot
abbrev pub add_told : Result ℕ Refusal → Told
add_told (Ok slot) = success (slot ∷ [])
add_told (Err e) = refused e

-- .. where the verdict lets the call pass
abbrev pub slot_by : Verdict → ℕ → Result ℕ Refusal
slot_by (Ok tt) slot = Ok slot
slot_by (Err e) slot = Err e

abbrev pub added_by : Verdict → ℕ → State → State → Added
added_by (Ok tt) slot s next = record { answer = Ok slot; state = next }
added_by (Err e) slot s next = record { answer = Err e; state = s }

unfoldable pub add_of : State → ℕ → ℕ → Option ℕ → Bool → Bool → Added
unfolding add_verdict
add_of s id roundtrip max blocked unconfirmed =
    added_by (add_verdict s id roundtrip max) (lowest_in s) s
    (with_row s (lowest_in s) (fresh_row id roundtrip max blocked unconfirmed))

-- ---- plain changes of a row

unfoldable pub confirm_of : State → ℕ → Changed
confirm_of s slot = changed_by (slot_verdict s slot) s (with_row s slot (confirmed (row_of s slot)))

unfoldable pub block_of : State → ℕ → Bool → Changed
block_of s slot blocked = changed_by (slot_verdict s slot) s (with_row s slot (blocked_row (row_of s slot) blocked))

unfoldable pub mark_of : State → ℕ → Seq → Changed
mark_of s slot seq = changed_by (slot_verdict s slot) s (with_row s slot (marked_row (row_of s slot) (Some seq)))

-- the last accepted time moves in every accepted call that is given one
unfoldable pub ping_of : State → ℕ → ℕ → Changed
ping_of s slot time = changed_by (timed_verdict s slot time (Ok tt)) s (with_time (with_row s slot (pinged (row_of s slot) time)) time)

-- "With none, it is accepted and only the last accepted time moves."
unfoldable pub pong_of : State → ℕ → ℕ → Changed
pong_of s slot time = changed_by (timed_verdict s slot time (Ok tt)) s (with_time (with_row s slot (ponged (row_of s slot) time)) time)

-- ---- laws

-- what an accepted link says
pub record AddPassed (s : State) (id roundtrip : ℕ) (max : Option ℕ) : Type 0 where
  pub fine : Sound s
  pub trip : roundtrip ≤ MAX_TIME
  pub limit : max_ping_within max ≡ true
  pub small : lowest_in s < SLOTS
  pub nowhere : is_taken s.links id ≡ false

pub add-passed : (s : State) (id roundtrip : ℕ) (max : Option ℕ) → add_verdict s id roundtrip max ≡ Ok tt → AddPassed s id roundtrip max
unfolding add_verdict
add-passed s id roundtrip max e =
    let e1 = gate-pass (soundb s) _ _ e in
    let e3 = gate-pass (nat_le roundtrip MAX_TIME && max_ping_within max) _ _ e1.1 in
    let e5 = gate-pass (nat_lt (lowest_in s) SLOTS) _ _ e3.1 in
    let e6 = gate-pass (not (is_taken s.links id)) _ _ e5.1 in
    let sizes = split (nat_le roundtrip MAX_TIME) (max_ping_within max) e3.0 in
    record {
      fine = sound s e1.0;
      trip = leb-true roundtrip MAX_TIME sizes.0;
      limit = sizes.1;
      small = ltb-true (lowest_in s) SLOTS e5.0;
      nowhere = not-true (is_taken s.links id) e6.0;
    }

-- the rows from j on are row j and those after it
module _ (rows : List LinkRow) (j : ℕ) where
  pub lowest_step : (slot : ℕ) → j < length rows → lowest_empty (drop j rows) slot ≡ cond (slice_index_or rows j no_row).live (lowest_empty (drop (j + 1) rows) (slot + 1)) slot
  unfolding lowest_empty
  lowest_step slot h =
      ap (λ l. lowest_empty l slot) (drop-cons rows j no_row h)
      ∙ ap₂ (λ i k. cond (slice_index_or rows j no_row).live (lowest_empty (drop i rows) k) slot) (sym (add-one j)) (sym (add-one slot))

  pub lowest-none : (slot : ℕ) → length rows ≤ j → lowest_empty (drop j rows) slot ≡ slot
  unfolding lowest_empty
  lowest-none slot h = rw (drop_of_length-le rows h)

  pub taken_step : (id : ℕ) → j < length rows
      → is_taken (drop j rows) id ≡ (((slice_index_or rows j no_row).live && (slice_index_or rows j no_row).link_id == id) || is_taken (drop (j + 1) rows) id)
  unfolding is_taken
  taken_step id h = rw (add-one, drop-cons rows j no_row)

  pub taken_none : (id : ℕ) → length rows ≤ j → is_taken (drop j rows) id ≡ false
  unfolding is_taken
  taken_none id h = rw (drop_of_length-le rows h)

-- the slot that is found is that of an empty row
pub lowest-empty : (rows : List LinkRow) (slot : ℕ) → lowest_empty rows slot < slot + length rows → (slice_index_or rows (lowest_empty rows slot - slot) no_row).live ≡ false
unfolding lowest_empty
lowest-empty [] slot h = absurd (omega arith)
lowest-empty (row ∷ rows) slot h =
    cases row.live
    (λ t.
    let rest = lowest-empty rows (suc slot) (omega (arith, simp t at h)) in
    let low : suc slot ≤ lowest_empty rows (suc slot) = lowest-from rows (suc slot) in
    let k : lowest_empty rows (suc slot) - slot ≡ suc (lowest_empty rows (suc slot) - suc slot) = omega arith in
    simp (t, k) rest)
    (λ t. let z : slot - slot ≡ 0 = omega arith in simp (t, z))
  where
    lowest-from : (rows : List LinkRow) (slot : ℕ) → slot ≤ lowest_empty rows slot
    lowest-from [] slot = omega arith
    lowest-from (row ∷ rows) slot = cases row.live (λ t. simp t (omega (arith, lowest-from rows (suc slot)))) (λ t. simp t (omega arith))

-- an identity that is not taken is no live row's
pub taken-nowhere : (rows : List LinkRow) (id j : ℕ) → is_taken rows id ≡ false → j < length rows → (slice_index_or rows j no_row).live ≡ true → (slice_index_or rows j no_row).link_id ≢ id
unfolding is_taken
taken-nowhere [] id j e h l q = omega arith
taken-nowhere (row ∷ rows) id zero e h l q = false-true (sym e ∙ simp (l, eq-eqb row.link_id id q))
taken-nowhere (row ∷ rows) id (suc j) e h l q =
    cases (row.live && row.link_id == id)
    (λ t. false-true (sym e ∙ simp t))
    (λ t. taken-nowhere rows id j (simp t at e) (omega arith) l q)
