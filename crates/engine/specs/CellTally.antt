-- What one pass over the records in use finds: the code's own way of deciding what Sound asks of them. That it decides just that is proved in
-- DecidedRecords. N is the cell count. Assumes nothing.
use Rattle.std.specs.Prelude.{◌≡◌, ℕ, ◌+◌, ◌-◌, ◌*◌, ◌/◌, ◌%◌, ◌<◌, ◌≤◌, Bool, true, false, cond, not, ◌&&◌, ◌||◌, List, [], ◌∷◌, ◌==◌, ◌≢◌, nat_eq, nat_le, nat_lt, slice_index, Some, None}
use Rattle.engine.specs.Held.{Held}
use Rattle.std.proofs.Common.{sym, ap, ◌∙◌, mod-lt, arith}
use Rattle.refusal.specs.Tests.{split, join, same_test}
use Rattle.msg.specs.declared.reliable.ReliableMsg.TheVariants.{Data}
use borrow.Table.Steps.{cases}
use Rattle.msg.specs.Reliable.{MSG_DATA}
use borrow.Author.Tests.{eqb-true, eq-eqb, ne_eqb, leb-true, le-leb}
use Rattle.seq.specs.Numbers.{plus, minus}
use Rattle.engine.specs.declared.state.Receiving.{Receiving}
use Rattle.engine.specs.Records.{is_full, is_ready_kind, held_bytes, held_as, held_of, record_of, DataRecord, is_record, record-long}
use Rattle.engine.specs.Received.{RxTable, record_view, expected_at, in_use, held_at}
use Rattle.engine.specs.Tally.{length_ok}
use Rattle.engine.specs.Sizes.{DATA_BYTES}
use Rattle.engine.specs.Ring.{window-step, window-none, window, next_cell}

-- so many records are lent as there are cells, and there are some
pub record Lent (rx : Receiving) (records : ℕ) : Type 0 where
  pub some : 0 < rx.cells
  pub all : records ≡ rx.cells

-- .. and no more of them are in use
pub record Judged (rx : Receiving) (records : ℕ) : Type 0 where
  pub lent : Lent rx records
  pub used : in_use rx ≤ rx.cells

-- what a pass has found: whether all was well, and the data bytes
pub record CellTally : Type 0 where
  pub ok : Bool
  pub size : ℕ

-- a cell k numbers past the oldest, where the next expected is e past it: the oldest is there if it is ready, nothing stands at
-- the next expected, and what stands before it is ready
unfoldable pub cell_ok : Held → ℕ → ℕ → Bool
cell_ok None k e = cond (k == 0) (e == 0) true
cell_ok (Some (msg, len)) k e = cond (k == e) false (cond (nat_lt k e) (is_ready_kind msg && length_ok msg len) (length_ok msg len))

-- .. and its word
abbrev pub word_ok : ℕ → ℕ → ℕ → Bool
word_ok word k e = is_record word && cell_ok (held_of word) k e

unfoldable pub record_weighed : CellTally → ℕ → ℕ → ℕ → CellTally
unfolding cell_ok
record_weighed t word k e = record { ok = t.ok && (is_record word && cell_ok (held_of word) k e); size = plus t.size (held_bytes (held_of word)) }

unfoldable pub record_tally_from : List ℕ → ℕ → ℕ → CellTally → CellTally
unfolding record_weighed
record_tally_from [] k e t = t
record_tally_from (w ∷ ws) k e t = record_tally_from ws (k + 1) e (record_weighed t w k e)

unfoldable pub record_tally_of : ℕ → RxTable → CellTally
unfolding record_tally_from
record_tally_of N t = record_tally_from (record_view N t) 0 (expected_at t.rx) (record { ok = true; size = 0 })

-- the last cell in use holds a message, where any is in use from the next expected number on
unfoldable pub newest_ok : ℕ → RxTable → Bool
newest_ok N t = t.rx.rx_end.0 == t.rx.rx_seq.0 || is_full (held_at N t.records (minus t.rx.rx_end.0 1))

unfoldable pub found_records : RxTable → Bool
unfolding record_tally_of newest_ok
found_records t =
    let found = record_tally_of t.rx.cells t in
    found.ok && (found.size == t.rx.rxed_reliable_size && newest_ok t.rx.cells t)

-- every record in use is well, and they hold as many bytes as is said
abbrev pub records_fine : RxTable → Bool
records_fine t =
    let found = record_tally_of t.rx.cells t in
    found.ok && found.size == t.rx.rxed_reliable_size

-- ---- laws

-- a Data's length
pub data-long : (len : ℕ) → length_ok Data len ≡ nat_le len DATA_BYTES
unfolding length_ok
data-long len =
    cases (len == 0)
    (λ z. simp z (sym (le-leb len DATA_BYTES (omega (arith, eqb-true len 0 z)))))
    (λ z. simp z (cases (nat_le len DATA_BYTES) (λ t. simp t) (λ t. simp t)))

-- a Data by its word alone: it is a record and not too long just where the word is no more than that of a Data of 1,024 bytes
module _ (word : ℕ) (kind : word % 256 ≡ MSG_DATA) where
  abbrev bytes : ℕ
  bytes = word / 256 % 16777216

  pub data-held : held_of word ≡ Some (Data, bytes)
  unfolding held_of held_as
  data-held = simp kind

  data-within : (record_of (Some (Data, bytes)) == word && length_ok Data bytes) ≡ nat_le word 262151
  data-within =
      same_test _ _
      (λ t.
      let b = split (record_of (Some (Data, bytes)) == word) (length_ok Data bytes) t in
      let whole : 7 + 256 * (word / 256 % 16777216) + 0 ≡ word = eqb-true _ word b.0 in
      let short : word / 256 % 16777216 ≤ 1024 = leb-true _ DATA_BYTES (sym (data-long bytes) ∙ b.1) in
      le-leb word 262151 (omega (arith, whole, short)))
      (λ t.
      let small : word ≤ 262151 = leb-true word 262151 t in
      let all : word / 256 % 16777216 ≡ word / 256 = omega (arith, small) in
      let whole : 7 + 256 * (word / 256 % 16777216) + 0 ≡ word = omega (arith, kind, all) in
      let short : bytes ≤ DATA_BYTES = omega (arith, small, all) in
      join (eq-eqb (record_of (Some (Data, bytes))) word whole) (data-long bytes ∙ le-leb bytes DATA_BYTES short))

  pub data-weighed : (t : CellTally) (k e : ℕ) → record_weighed t word k e ≡ record { ok = t.ok && (not (k == e) && nat_le word 262151); size = plus t.size (word / 256 % 16777216) }
  unfolding record_weighed cell_ok is_record
  data-weighed t k e =
      simp data-held
      (cases (k == e)
      (λ x. simp x (ap (λ b. record { ok = t.ok && b; size = plus t.size bytes }) (cases (record_of (Some (Data, bytes)) == word) (λ y. simp y) (λ y. simp y))))
      (λ x.
      simp x (ap (λ b. record { ok = t.ok && b; size = plus t.size bytes })
      (ap (λ b. (record_of (Some (Data, bytes)) == word) && b) (cases (nat_lt k e) (λ y. simp y) (λ y. simp y)) ∙ data-within))))

-- .. and one that is no longer than 1,024 bytes is well wherever it may stand
module _ (word : ℕ) (is : DataRecord word) where
  pub data-fits : length_ok Data (word / 256 % 16777216) ≡ true
  data-fits = data-long (word / 256 % 16777216) ∙ le-leb (word / 256 % 16777216) DATA_BYTES (omega (arith, is.long))

  pub data-well : (k e : ℕ) → (k ≢ e) → word_ok word k e ≡ true
  unfolding cell_ok is_record
  data-well k e ne =
      let whole : 7 + 256 * (word / 256 % 16777216) + 0 ≡ word = omega (arith, is.kind, is.long) in
      join (ap (λ h. nat_eq (record_of h) word) (data-held word is.kind) ∙ eq-eqb (record_of (Some (Data, (word / 256 % 16777216)))) word whole)
      (ap (λ h. cell_ok h k e) (data-held word is.kind) ∙ simp (ne_eqb k e ne) (cases (nat_lt k e) (λ t. simp t data-fits) (λ t. simp t data-fits)))

-- a record that is well adds its length
pub well-weighed : (size word k e : ℕ) → word_ok word k e ≡ true
    → record_weighed (record { ok = true; size = size }) word k e ≡ record { ok = true; size = plus size (word / 256 % 16777216) }
unfolding record_weighed
well-weighed size word k e h =
    let long = record-long word (split (is_record word) (cell_ok (held_of word) k e) h).0 in
    λ i. record { ok = h i; size = plus size (long i) }

-- one that is not well spoils the tally, whatever follows
spoilt-from : (ws : List ℕ) (k e : ℕ) (t : CellTally) → t.ok ≡ false → (record_tally_from ws k e t).ok ≡ false
unfolding record_tally_from record_weighed
spoilt-from [] k e t h = h
spoilt-from (w ∷ ws) k e t h = spoilt-from ws (k + 1) e (record_weighed t w k e) (ap (λ b. b && word_ok w k e) h)

-- a number's cell is one of the records
pub lent-cell : {rx : Receiving} {records : ℕ} (n : ℕ) → Lent rx records → n % rx.cells < records
lent-cell n lent = omega (arith, mod-lt n lent.some, lent.all)

pub record-tally-step : (N : ℕ) (records : List ℕ) (at left k e : ℕ) (t : CellTally) → 0 < left
    → record_tally_from (window N 0 records at left) k e t ≡ record_tally_from (window N 0 records (next_cell N at) (left - 1)) (k + 1) e (record_weighed t (slice_index records at) k e)
unfolding record_tally_from
record-tally-step N records at left k e t h = ap (λ ws. record_tally_from ws k e t) (window-step N 0 records at left h)

pub record-tally-none : (N : ℕ) (records : List ℕ) (at left k e : ℕ) (t : CellTally) → left ≤ 0 → record_tally_from (window N 0 records at left) k e t ≡ t
unfolding record_tally_from
record-tally-none N records at left k e t h = ap (λ ws. record_tally_from ws k e t) (window-none N 0 records at left h)

pub record-tally-spoilt : (N : ℕ) (records : List ℕ) (at left k e : ℕ) (t : CellTally) → 0 < left → word_ok (slice_index records at) k e ≡ false
    → (record_tally_from (window N 0 records at left) k e t).ok ≡ false
unfolding record_weighed
record-tally-spoilt N records at left k e t h bad =
    ap (λ (r : CellTally). r.ok) (record-tally-step N records at left k e t h)
    ∙ spoilt-from (window N 0 records (next_cell N at) (left - 1)) (k + 1) e (record_weighed t (slice_index records at) k e)
    (ap (λ b. t.ok && b) bad ∙ cases t.ok (λ x. simp x) (λ x. simp x))
