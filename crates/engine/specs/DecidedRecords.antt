-- The pass over the records in use finds just what SoundRecords says: `found-records-same`. Assumes nothing.
use Rattle.std.specs.Prelude.{◌≡◌, ℕ, zero, suc, ◌+◌, ◌-◌, ◌*◌, ◌%◌, ◌^◌, ◌<◌, ◌≤◌, Bool, true, false, ◌&&◌, List, [], ◌∷◌, map, length, ◌==◌, ◌≢◌, nat_eq, nat_lt, slice_index, slice_index_or, refl, Some, None}
use Rattle.engine.specs.Held.{Held}
use Rattle.std.proofs.Math.Path.{sym, ap}
use Rattle.std.proofs.Common.{◌∙◌}
use Rattle.std.proofs.Math.Bool.{and-true, and_assoc}
use Rattle.std.proofs.Math.Decide.{ℕ_discrete}
use native.Mathlib.Omega.{arith}
use borrow.Author.Tests.{ltb-true, ltb-false, eqb-true, eqb-false, lt-ltb, eq-eqb, ne_eqb}
use borrow.Table.Steps.{cases}
use Rattle.std.proofs.Math.ListN.{length-map}
use Rattle.seq.specs.Numbers.{plus, minus}
use Rattle.seq.specs.Laws.{plus-lt, plus-plus, plus-difference}
use Rattle.seq.specs.Distance.{past, past_near}
use Rattle.msg.specs.declared.reliable.ReliableMsg.{ReliableMsg}
use Rattle.engine.specs.Records.{is_full, is_ready_kind, held_bytes, held_of, is_record}
use Rattle.engine.specs.Received.{RxTable, record_view, cell_view, expected_at, in_use, held_at, bytes_in, held-map, view-held, view-none}
use Rattle.engine.specs.CellCount.{CellCount}
use Rattle.engine.specs.CellTally.{CellTally, cell_ok, word_ok, record_weighed, record_tally_from, record_tally_of, newest_ok, found_records}
use Rattle.engine.specs.Ring.{window-length}
use Rattle.engine.specs.Tally.{length_ok}
use Rattle.engine.specs.Sound.{cell_at, ReadyKind, LengthWithin, SoundRecords}
use Rattle.engine.specs.Decide.{recordsb, records-sound, records-true}
use Rattle.engine.specs.DecidedTables.{length-le, plus-zero, zero-plus}
use Rattle.engine.specs.Sizes.{DATA_BYTES}
use Rattle.refusal.specs.Tests.{false-true, split, join, same_test}

-- ---- each record

-- every record from the place k on is as the pass asks, where the next expected is at e
unfoldable records_ok : List ℕ → ℕ → ℕ → Bool
records_ok [] k e = true
records_ok (w ∷ ws) k e = word_ok w k e && records_ok ws (k + 1) e

-- the pass finds just that ..
records-tally : (ws : List ℕ) (k e : ℕ) (t : CellTally) → (record_tally_from ws k e t).ok ≡ (t.ok && records_ok ws k e)
unfolding record_tally_from records_ok record_weighed
records-tally [] k e t = sym (and-true t.ok)
records-tally (w ∷ ws) k e t = records-tally ws (k + 1) e (record_weighed t w k e) ∙ and_assoc t.ok (word_ok w k e) (records_ok ws (k + 1) e)

-- .. and the sum of the bytes
bytes-tally : (ws : List ℕ) (k e : ℕ) (t : CellTally) → t.size < 2 ^ 32 → (record_tally_from ws k e t).size ≡ plus t.size (bytes_in (map held_of ws))
unfolding record_tally_from record_weighed bytes_in
bytes-tally [] k e t h = sym (plus-zero t.size h)
bytes-tally (w ∷ ws) k e t h =
    bytes-tally ws (k + 1) e (record_weighed t w k e) (plus-lt t.size (held_bytes (held_of w))) ∙ plus-plus t.size (held_bytes (held_of w)) (bytes_in (map held_of ws))

-- each record is as the pass asks where all are ..
records-each : (ws : List ℕ) (k e : ℕ) → records_ok ws k e ≡ true → (i : ℕ) → i < length ws → word_ok (slice_index ws i) (k + i) e ≡ true
unfolding records_ok
records-each [] k e ok i h = absurd (omega arith)
records-each (w ∷ ws) k e ok zero h = let n : k + 0 ≡ k = omega arith in rw n (split (word_ok w k e) (records_ok ws (k + 1) e) ok).0
records-each (w ∷ ws) k e ok (suc i) h =
    let n : k + suc i ≡ k + 1 + i = omega arith in
    rw n (records-each ws (k + 1) e (split (word_ok w k e) (records_ok ws (k + 1) e) ok).1 i (omega arith))

-- .. and back
records-all : (ws : List ℕ) (k e : ℕ) → ((i : ℕ) → i < length ws → word_ok (slice_index ws i) (k + i) e ≡ true) → records_ok ws k e ≡ true
unfolding records_ok
records-all [] k e f = refl
records-all (w ∷ ws) k e f =
    let n : k + 0 ≡ k = omega arith in
    join (rw n at (f 0 (omega arith)))
    (records-all ws (k + 1) e (λ i h. let m : k + 1 + i ≡ k + suc i = omega arith in rw m (f (suc i) (omega arith))))

-- a cell with a fitting length holds few bytes
held-le : (h : Held) → LengthWithin h → held_bytes h ≤ DATA_BYTES
held-le None w = omega arith
held-le (Some (msg, len)) w = length-le msg len w

-- .. and so do many
pub bytes_le : (hs : List Held) → ((i : ℕ) → i < length hs → LengthWithin (slice_index_or hs i None)) → bytes_in hs ≤ DATA_BYTES * length hs
unfolding bytes_in
bytes_le [] f = omega arith
bytes_le (h ∷ hs) f = omega (arith, held-le h (f 0 (omega arith)), bytes_le hs (λ i l. f (suc i) (omega arith)))

-- what the test of a cell says, where k is its place and e the next expected: its length fits ..
cell-length : (h : Held) (k e : ℕ) → cell_ok h k e ≡ true → LengthWithin h
unfolding cell_ok
cell-length None k e ok = tt
cell-length (Some (msg, len)) k e ok =
    cases (k == e) (λ t. false-true (simp t at ok))
    (λ t. cases (nat_lt k e) (λ u. (split (is_ready_kind msg) (length_ok msg len) (simp (t, u) at ok)).1) (λ u. simp (t, u) at ok))

-- .. what stands before the next expected is ready ..
cell-ready : (h : Held) (k e : ℕ) → k < e → cell_ok h k e ≡ true → ReadyKind h
unfolding cell_ok
cell-ready None k e l ok = tt
cell-ready (Some (msg, len)) k e l ok =
    (split (is_ready_kind msg) (length_ok msg len) (simp (ne_eqb k e (λ q. omega arith), lt-ltb k e l) at ok)).0

-- .. the oldest is there, if it is before the next expected ..
cell-oldest : (h : Held) (e : ℕ) → 0 < e → cell_ok h 0 e ≡ true → is_full h ≡ true
unfolding cell_ok
cell-oldest None e l ok = absurd (omega (arith, eqb-true e 0 ok))
cell-oldest (Some (msg, len)) e l ok = refl

-- .. and nothing stands at the next expected
cell-expected : (h : Held) (e : ℕ) → cell_ok h e e ≡ true → h ≡ None
unfolding cell_ok
cell-expected None e ok = refl
cell-expected (Some (msg, len)) e ok = false-true (simp (eq-eqb e e refl) at ok)

-- a message is not nothing
full-nothing : (msg : ReliableMsg) (len : ℕ) → ◌≢◌ {A = Held} (Some (msg, len)) None
full-nothing msg len e = false-true (sym (ap is_full e))

-- the test of a cell holds by these four
cell-decided : (h : Held) (k e : ℕ) → LengthWithin h → (k < e → ReadyKind h) → (k ≡ 0 → 0 < e → is_full h ≡ true) → (k ≡ e → h ≡ None)
    → cell_ok h k e ≡ true
unfolding cell_ok
cell-decided None k e w r o x =
    cases (k == 0)
    (λ t. elim (ℕ_discrete e 0) [
      | yes q ↦ simp (t, eq-eqb e 0 q)
      | no ne ↦ false-true (o (eqb-true k 0 t) (omega arith))
    ])
    (λ t. simp t)
cell-decided (Some (msg, len)) k e w r o x =
    cases (k == e) (λ t. absurd (full-nothing msg len (x (eqb-true k e t))))
    (λ t. cases (nat_lt k e) (λ u. simp (t, u) (join (r (ltb-true k e u)) w)) (λ u. simp (t, u) w))

-- ---- the pass

-- the number before the last of u numbers
one_less : (o e u : ℕ) → o < 2 ^ 32 → e < 2 ^ 32 → 0 < u → u ≡ minus e o → plus o (u - 1) ≡ minus e 1
unfolding plus minus
one_less o e u ho he some is = omega arith

-- of a table whose numbers are in order and whose cells in use are no more than there are
module _ (t : RxTable) (count : CellCount t.rx.cells) (near : expected_at t.rx ≤ in_use t.rx) (used : in_use t.rx ≤ t.rx.cells)
    (seq-u32 : t.rx.rx_seq.0 < 2 ^ 32) (oldest-u32 : t.rx.rx_oldest.0 < 2 ^ 32) (end-u32 : t.rx.rx_end.0 < 2 ^ 32) where
  abbrev N : ℕ
  N = t.rx.cells

  abbrev E : ℕ
  E = expected_at t.rx

  abbrev U : ℕ
  U = in_use t.rx

  abbrev ws : List ℕ
  ws = record_view N t

  long : length ws ≡ U
  long = window-length N 0 t.records (t.rx.rx_oldest.0 % N) U

  abbrev o : ℕ
  o = t.rx.rx_oldest.0

  abbrev end : ℕ
  end = t.rx.rx_end.0

  abbrev seq : ℕ
  seq = t.rx.rx_seq.0

  -- the end and the next expected number are as far past the oldest as is said
  used-is : U ≡ minus end o
  used-is = past_near end o (omega (arith, count.few))

  expected-is : E ≡ minus seq o
  expected-is = past_near seq o (omega (arith, count.few))

  -- the last cell in use is the one before the end
  newest-held : U - 1 < U → held_at N t.records (minus end 1) ≡ cell_at t (U - 1)
  newest-held l = ap (held_at N t.records) (sym (one_less o end U oldest-u32 end-u32 (omega arith) used-is)) ∙ sym (view-held N count t (U - 1) l)

  -- none is in use from the next expected number on where the end is that number
  end_is : nat_eq end seq ≡ (U == E)
  end_is =
      same_test (end == seq) (U == E)
      (λ b. eq-eqb U E (ap (λ n. past n o) (eqb-true end seq b)))
      (λ b.
      eq-eqb end seq
      (sym (plus-difference end o end-u32 oldest-u32) ∙ ap (plus o) (sym used-is ∙ eqb-true U E b ∙ expected-is) ∙ plus-difference seq o seq-u32 oldest-u32))

  -- the test of the last cell in use says what the clause says ..
  newest-clause : newest_ok N t ≡ true → (k : ℕ) → E ≤ k → suc k ≡ U → is_full (cell_at t k) ≡ true
  unfolding newest_ok
  newest-clause ok k l e =
      let apart : nat_eq end seq ≡ false = end_is ∙ ne_eqb U E (λ q. omega arith) in
      let last : U - 1 ≡ k = omega arith in
      ap (λ m. is_full (cell_at t m)) (sym last) ∙ ap is_full (sym (newest-held (omega arith))) ∙ (simp apart at ok)

  -- .. and back
  clause-newest : ((k : ℕ) → E ≤ k → suc k ≡ U → is_full (cell_at t k) ≡ true) → newest_ok N t ≡ true
  unfolding newest_ok
  clause-newest f =
      cases (U == E) (λ b. simp (end_is ∙ b))
      (λ b.
      let some : E < U = omega (arith, eqb-false U E b) in
      simp (end_is ∙ b) (ap is_full (newest-held (omega arith)) ∙ f (U - 1) (omega arith) (omega arith)))

  -- the sum does not wrap
  found-size : ((k : ℕ) → k < U → LengthWithin (cell_at t k)) → (record_tally_of N t).size ≡ bytes_in (cell_view N t)
  unfolding record_tally_of
  found-size f =
      let full : length (cell_view N t) ≡ U = length-map ws held_of ∙ long in
      let small : bytes_in (cell_view N t) ≤ DATA_BYTES * length (cell_view N t) = bytes_le (cell_view N t) (λ i h. f i (omega arith)) in
      bytes-tally ws 0 E (record { ok = true; size = 0 }) (omega arith) ∙ zero-plus (bytes_in (cell_view N t)) (omega (arith, count.few))

  -- what the pass finds of all records
  found_ok : (record_tally_of N t).ok ≡ records_ok ws 0 E
  unfolding record_tally_of
  found_ok = records-tally ws 0 E (record { ok = true; size = 0 })

  -- records that pass the test are sound
  found-sound : length t.records ≡ N → found_records t ≡ true → SoundRecords t
  unfolding found_records
  found-sound lent e =
      let a = split (record_tally_of N t).ok ((record_tally_of N t).size == t.rx.rxed_reliable_size && newest_ok N t) e in
      let b = split ((record_tally_of N t).size == t.rx.rxed_reliable_size) (newest_ok N t) a.1 in
      let word : (k : ℕ) → k < U → word_ok (slice_index ws k) k E ≡ true =
      λ k h. let z : 0 + k ≡ k = omega arith in rw z at (records-each ws 0 E (sym found_ok ∙ a.0) k (omega (arith, long))) in
      let cell : (k : ℕ) → k < U → cell_ok (cell_at t k) k E ≡ true =
      λ k h. ap (λ x. cell_ok x k E) (held-map ws k) ∙ (split (is_record (slice_index ws k)) (cell_ok (held_of (slice_index ws k)) k E) (word k h)).1 in
      let lengths : (k : ℕ) → k < U → LengthWithin (cell_at t k) = λ k h. cell-length (cell_at t k) k E (cell k h) in
      record {
        long = lent;
        untaken = sym (eqb-true (record_tally_of N t).size t.rx.rxed_reliable_size b.0) ∙ found-size lengths;
        ready = λ k h. cell-ready (cell_at t k) k E h (cell k (omega arith));
        oldest = λ h. cell-oldest (cell_at t 0) E h (cell 0 (omega arith));
        held = cases (nat_lt E U)
            (λ u. cell-expected (cell_at t E) E (cell E (ltb-true E U u)))
            (λ u. view-none N count t E (omega (arith, ltb-false E U u)));
        newest = newest-clause b.1;
        cell-length = lengths;
        recorded = λ k h. (split (is_record (slice_index ws k)) (cell_ok (held_of (slice_index ws k)) k E) (word k h)).0;
      }

  -- sound records pass the test
  sound-found : SoundRecords t → found_records t ≡ true
  unfolding found_records
  sound-found h =
      let all : records_ok ws 0 E ≡ true =
      records-all ws 0 E
      (λ k l.
      let z : 0 + k ≡ k = omega arith in
      let w : k < U = omega (arith, long) in
      rw z (join (h.recorded k w)
      (ap (λ x. cell_ok x k E) (sym (held-map ws k))
      ∙ cell-decided (cell_at t k) k E (h.cell-length k w) (h.ready k)
      (λ q p. ap (λ m. is_full (cell_at t m)) q ∙ h.oldest p)
      (λ q. ap (cell_at t) q ∙ h.held)))) in
      join (found_ok ∙ all) (join (eq-eqb _ _ (found-size h.cell-length ∙ sym h.untaken)) (clause-newest h.newest))

  -- the test and the decision are one
  pub found-records-same : length t.records ≡ N → found_records t ≡ recordsb t
  found-records-same lent = same_test (found_records t) (recordsb t) (λ e. records-true t (found-sound lent e)) (λ e. sound-found (records-sound t e))
