-- What Receive and taking a message do to the receive table, cell by cell, over the cell count N. A cell is named by how many numbers it is past the number
-- that was the oldest before the call, 0 to N − 1: so none is named twice while the oldest moves on. And such a call leaves a good state good, with sound
-- records. Assumes nothing.
use Rattle.std.specs.Prelude.{◌≡◌, Bool, cond, ◌||◌, List, [], ◌∷◌, eqb, ltb, length, get_or, replicate, Some, None}
use Rattle.engine.specs.Held.{Held}
use Rattle.std.proofs.Math.Path.{refl, sym, ap, ap₂}
use Rattle.std.proofs.Common.{◌∙◌, mod-lt, add-zero, zero-add, suc-add, get_or-set_same, get_or-set_other}
use Rattle.std.proofs.Math.Bool.{true, false, ◌&&◌, not}
use Prim.Native.Nat.{ℕ, zero, suc, ◌+◌, ◌-◌, ◌^◌, ◌≤◌, ◌<◌, ◌%◌}
use native.Mathlib.Omega.{arith}
use Rattle.std.proofs.Math.Nat.{mod-mod_of_dvd, mod-add-mod, add-mod_right}
use Rattle.std.proofs.Math.ListN.{set, length-set}
use Rattle.std.proofs.lemmas.List.{length-map, length-replicate, get_or-replicate}
use borrow.Table.Steps.{cases}
use borrow.Author.Tests.{ltb-true, ltb-false, lt-ltb, le-ltb, eq-eqb, ne_eqb, eqb-true, eqb-false, not-true, not-false}
use Rattle.seq.specs.Numbers.{seq_of, plus, minus}
use Rattle.seq.specs.Laws.{cell-counted, plus-plus, plus-lt, minus-ahead}
use Rattle.seq.specs.Distance.{past, past_near, past-ahead, past-counted, past-plus}
use Rattle.refusal.specs.Tests.{false-true, split, same_test}
use Rattle.msg.specs.declared.reliable.ReliableMsg.{ReliableMsg}
use Rattle.msg.specs.Reliable.{is_kind, MSG_DATA, MSG_SEND_FINISH}
use Rattle.engine.specs.declared.state.Receiving.{Receiving}
use Rattle.engine.specs.declared.state.State.{State}
use Rattle.engine.specs.CellCount.{CellCount, cell-count}
use Rattle.engine.specs.Ring.{cells-apart, window-at, window-length, refilled, refill-length, refill-out, refill-window}
use Rattle.engine.specs.Turns.{turns-keep}
use Rattle.engine.specs.Records.{is_full, is_ready_kind, held_bytes, kept_of, record_of, held_of, is_record, kept_record, held_none, held-record, record_is, held_kept}
use Rattle.engine.specs.Received.{RxTable, table_of, expected_at, in_use, held_at, is_used, cell_of, record_view, cell_view, bytes_in, view-record, view-none, view-cell}
use Rattle.engine.specs.Cells.{near_oldest, can_advance, passed_over, advanced, end_after, opened_records, put_in, stored_in}
use Rattle.engine.specs.DecidedTables.{plus-zero, length_none}
use Rattle.engine.specs.Fields.{with_bytes, with_numbers, with_parts, with_ends, with_totals}
use Rattle.engine.specs.HandingOut.{taken_in, can_skip, passed_by, skipped}
use Rattle.engine.specs.Sound.{packet_at, SentHere, ReadyKind, LengthWithin, SoundRecords, cell_at}
use Rattle.laws.specs.RowsKept.{rows_of, here-kept}
use Rattle.laws.specs.Parts.{SendingSound, ReceivingSound, whole}
use Rattle.laws.specs.Good.{Good}

-- what the cell of the number k past o holds
abbrev pub held_past : ℕ → RxTable → ℕ → ℕ → Held
held_past N t o k = cell_of N t (plus o k)

-- a call changes one cell, so that the cells hold c; then the next expected number moves on over `passed` messages, and the oldest over
-- `gone` numbers that stand for nothing that is ready. From the old oldest number on, `end` cells are in use then
pub record Passes (N : ℕ) (old new : RxTable) (c : ℕ → Held) : Type 0 where
  pub passed : ℕ
  pub gone : ℕ
  pub end : ℕ
  pub expected-is : new.rx.rx_seq ≡ seq_of (plus old.rx.rx_seq.0 passed)
  pub oldest-is : new.rx.rx_oldest ≡ seq_of (plus old.rx.rx_oldest.0 gone)
  pub end_is : new.rx.rx_end ≡ seq_of (plus old.rx.rx_oldest.0 end)
  pub within : expected_at old.rx + passed ≤ end
  pub used : end ≤ N
  pub grows : in_use old.rx ≤ end
  pub behind : gone ≤ expected_at old.rx + passed
  -- of what is passed, "Data and SendFinish among them become ready"; every other cell is as it was
  pub ready-were : (k : ℕ) → k < expected_at old.rx → held_past N new old.rx.rx_oldest.0 k ≡ c k
  pub kept : (k : ℕ) → expected_at old.rx ≤ k → k < expected_at old.rx + passed → held_past N new old.rx.rx_oldest.0 k ≡ kept_of (c k)
  pub ahead : (k : ℕ) → expected_at old.rx + passed ≤ k → k < N → held_past N new old.rx.rx_oldest.0 k ≡ c k
  -- "consecutive messages": each passed is there, and the next isn't
  pub full : (k : ℕ) → expected_at old.rx ≤ k → k < expected_at old.rx + passed → is_full (c k) ≡ true
  pub stops : expected_at old.rx + passed < N → is_full (c (expected_at old.rx + passed)) ≡ false
  -- the oldest is the first that is ready
  pub emptied : (k : ℕ) → k < gone → held_past N new old.rx.rx_oldest.0 k ≡ None
  pub stands : gone < expected_at old.rx + passed → is_full (held_past N new old.rx.rx_oldest.0 gone) ≡ true
  -- nothing is held from the end on, also where the cells come round, and the last before it holds something
  pub beyond : (k : ℕ) → end ≤ k → k < gone + 2 ^ 30 → held_past N new old.rx.rx_oldest.0 k ≡ None
  pub newest : (k : ℕ) → expected_at old.rx + passed ≤ k → suc k ≡ end → is_full (c k) ≡ true
  -- each word in use is a record
  pub recorded : (k : ℕ) → gone ≤ k → k < end → is_record (get_or new.records (plus old.rx.rx_oldest.0 k % N) 0) ≡ true
  pub cells-long : length new.records ≡ N

-- what both calls ask of the table: clauses of Sound, SoundRecords and Shaped, in the words of the numbers past the oldest
pub record Table (N : ℕ) (t : RxTable) : Type 0 where
  pub cells-N : length t.records ≡ N
  pub expected-u32 : t.rx.rx_seq.0 < 2 ^ 32
  pub oldest-u32 : t.rx.rx_oldest.0 < 2 ^ 32
  pub end-u32 : t.rx.rx_end.0 < 2 ^ 32
  pub near : expected_at t.rx ≤ in_use t.rx
  pub used : in_use t.rx ≤ N
  pub oldest : 0 < expected_at t.rx → is_full (held_past N t t.rx.rx_oldest.0 0) ≡ true
  pub held : held_past N t t.rx.rx_oldest.0 (expected_at t.rx) ≡ None
  pub newest : (k : ℕ) → expected_at t.rx ≤ k → suc k ≡ in_use t.rx → is_full (held_past N t t.rx.rx_oldest.0 k) ≡ true
  pub recorded : (k : ℕ) → k < in_use t.rx → is_record (get_or t.records (plus t.rx.rx_oldest.0 k % N) 0) ≡ true

-- the cells with one of them changed
abbrev pub held_but : ℕ → RxTable → ℕ → Held → ℕ → Held
held_but N t at h k = cond (eqb k at) h (held_past N t t.rx.rx_oldest.0 k)

-- ---- numbers

-- the number p past e, the number n and the number after another, by how far they are past o
counted : (e o p : ℕ) → e < 2 ^ 32 → o < 2 ^ 32 → past e o < 2 ^ 30 → plus e p ≡ plus o (past e o + p)
unfolding plus minus
counted e o p he ho close = let z : past e o ≡ (e + (2 ^ 32 - o)) % 2 ^ 32 = past_near e o close in omega arith

-- a number, which may not be reduced yet
number_is : (n o : ℕ) → o < 2 ^ 32 → past n o < 2 ^ 30 → n % 2 ^ 32 ≡ plus o (past n o)
unfolding plus minus
number_is n o h close = let z : past n o ≡ (n + (2 ^ 32 - o)) % 2 ^ 32 = past_near n o close in omega arith

pub number-cell : (N : ℕ) → CellCount N → (n o : ℕ) → o < 2 ^ 32 → past n o < 2 ^ 30 → n % N ≡ plus o (past n o) % N
number-cell N count n o h close = sym (mod-mod_of_dvd N n count.round) ∙ ap (λ m. m % N) (number_is n o h close)

-- the number after n, and how far n is past a number that isn't past it
number-next : (n o : ℕ) → o < 2 ^ 32 → past n o < 2 ^ 30 → plus n 1 ≡ plus o (suc (past n o))
unfolding plus
number-next n o h close = let z = number_is n o h close in omega arith

same-minus : (n p b : ℕ) → n % 2 ^ 32 ≡ p → minus n b ≡ minus p b
unfolding minus
same-minus n p b e = omega arith

number_past : (n o u : ℕ) → o < 2 ^ 32 → past n o < 2 ^ 30 → u ≤ past n o → past n (plus o u) ≡ past n o - u
number_past n o u h close l =
    let e = same-minus n (plus o (past n o)) (plus o u) (number_is n o h close) ∙ minus-ahead o (past n o) u l (omega arith) in
    past-ahead n (plus o u) (omega (arith, e)) ∙ e

plus_one : (a n : ℕ) → plus (plus a n) 1 ≡ plus a (suc n)
unfolding plus
plus_one a n = omega arith

-- two numbers past o are one or not
apart-is : (o a b : ℕ) → a ≤ b → b < 2 ^ 32 → not (eqb (plus o a) (plus o b)) ≡ ltb a b
unfolding plus
apart-is o a b l few =
    cases (ltb a b) (λ t. simp (t, ne_eqb (plus o a) (plus o b) (λ e. omega (arith, ltb-true a b t))))
    (λ t. simp (t, eq-eqb (plus o a) (plus o b) (ap (plus o) (omega (arith, ltb-false a b t)))))

-- what holds below n, and of n
one_more : (P : ℕ → Type 0) (n : ℕ) → ((k : ℕ) → k < n → P k) → P n → (k : ℕ) → k < suc n → P k
one_more P n old new k l = cases (eqb k n) (λ t. rw (eqb-true k n t) new) (λ t. old k (omega (arith, eqb-false k n t)))

-- ---- a message

-- what is not full holds nothing
pub not_full : (h : Held) → is_full h ≡ false → h ≡ None
not_full None e = refl
not_full (Some (msg, len)) e = false-true (sym e)

-- of two tests, neither holds
pub neither : (a b : Bool) → (a || b) ≡ false → (a ≡ false) × (b ≡ false)
neither true b e = false-true (sym e)
neither false b e = (refl, e)

-- what stays in a passed cell is ready, fits, and has the bytes that were there
stays : (h : Held) → LengthWithin h → ReadyKind (kept_of h) × LengthWithin (kept_of h) × (held_bytes (kept_of h) ≡ held_bytes h)
stays None w = (tt, tt, refl)
stays (Some (msg, len)) w =
    cases (is_ready_kind msg) (λ t. simp t (refl, w, refl))
    (λ f. simp f (tt, tt, sym (length_none msg len (neither (is_kind MSG_DATA msg) (is_kind MSG_SEND_FINISH msg) f).0 w)))

-- .. and its word is a record
none-recorded : is_record 0 ≡ true
unfolding is_record
none-recorded = eq-eqb _ _ (ap record_of held_none)

kept-recorded : (word : ℕ) → is_record word ≡ true → is_record (kept_record word) ≡ true
unfolding kept_record
kept-recorded word e = cases (is_full (kept_of (held_of word))) (λ t. simp t e) (λ t. simp t none-recorded)

-- ---- sums

unfoldable sum_over : (ℕ → ℕ) → ℕ → ℕ
sum_over f zero = 0
sum_over f (suc n) = f 0 + sum_over (λ k. f (suc k)) n

sum_same : (f g : ℕ → ℕ) (n : ℕ) → ((k : ℕ) → k < n → f k ≡ g k) → sum_over f n ≡ sum_over g n
unfolding sum_over
sum_same f g zero e = refl
sum_same f g (suc n) e = omega (arith, e 0 (omega arith), sum_same (λ k. f (suc k)) (λ k. g (suc k)) n (λ k l. e (suc k) (omega arith)))

sum-none : (f : ℕ → ℕ) (n : ℕ) → ((k : ℕ) → k < n → f k ≡ 0) → sum_over f n ≡ 0
unfolding sum_over
sum-none f zero e = refl
sum-none f (suc n) e = omega (arith, e 0 (omega arith), sum-none (λ k. f (suc k)) n (λ k l. e (suc k) (omega arith)))

sum-split : (f : ℕ → ℕ) (m n : ℕ) → sum_over f (m + n) ≡ sum_over f m + sum_over (λ k. f (m + k)) n
unfolding sum_over
sum-split f zero n = let z : 0 + n ≡ n = omega arith in simp zero-add
sum-split f (suc m) n = simp suc-add (omega (arith, sum-split (λ k. f (suc k)) m n))

-- all but one are the same
sum-but : (f g : ℕ → ℕ) (n at : ℕ) → at < n → ((k : ℕ) → (k ≡ at → ⊥) → f k ≡ g k) → sum_over f n + g at ≡ sum_over g n + f at
unfolding sum_over
sum-but f g zero at l e = absurd (omega arith)
sum-but f g (suc n) zero l e = omega (arith, sum_same (λ k. f (suc k)) (λ k. g (suc k)) n (λ k u. e (suc k) (λ q. omega arith)))
sum-but f g (suc n) (suc at) l e = omega (arith, e 0 (λ q. omega arith), sum-but (λ k. f (suc k)) (λ k. g (suc k)) n at (omega arith) (λ k ne. e (suc k) (λ q. ne (omega arith))))

bytes-sum : (hs : List Held) → bytes_in hs ≡ sum_over (λ k. held_bytes (get_or hs k None)) (length hs)
unfolding bytes_in sum_over
bytes-sum [] = refl
bytes-sum (h ∷ hs) = omega (arith, bytes-sum hs)

-- ---- words

-- a number's word, of some records
abbrev word_in : ℕ → List ℕ → ℕ → ℕ
word_in N records n = get_or records (n % N) 0

-- a changed word, and any other
set_at : (words : List ℕ) (i w k : ℕ) → i < length words → get_or (set words i w) k 0 ≡ cond (eqb k i) w (get_or words k 0)
set_at words i w k l =
    cases (eqb k i) (λ t. simp t (rw (eqb-true k i t) (get_or-set_same words i w 0 l)))
    (λ t. simp (t, get_or-set_other words i k w 0 (eqb-false k i t)))

-- ---- what has come of the table after some turns: Passes, but for where it ends. The words are w, and U of them are in use

-- the next expected number is p on
record Over (N : ℕ) (old : RxTable) (w : ℕ → ℕ) (U p expected : ℕ) (records : List ℕ) : Type 0 where
  expected-is : expected ≡ plus old.rx.rx_seq.0 p
  within : expected_at old.rx + p ≤ U
  other : (k : ℕ) → k < U → (expected_at old.rx ≤ k → expected_at old.rx + p ≤ k) → word_in N records (plus old.rx.rx_oldest.0 k) ≡ w k
  kept : (k : ℕ) → k < expected_at old.rx + p → expected_at old.rx ≤ k
      → (word_in N records (plus old.rx.rx_oldest.0 k) ≡ kept_record (w k)) × (is_full (held_of (w k)) ≡ true)
  cells-N : length records ≡ N

-- .. and the oldest g on
record Moved (N : ℕ) (old : RxTable) (w : ℕ → ℕ) (U p g : ℕ) (new : RxTable) : Type 0 where
  over : Over N old w U p new.rx.rx_seq.0 new.records
  oldest-is : new.rx.rx_oldest.0 ≡ plus old.rx.rx_oldest.0 g
  end_is : new.rx.rx_end.0 ≡ plus old.rx.rx_oldest.0 U
  behind : g ≤ expected_at old.rx + p
  emptied : (k : ℕ) → k < g → is_full (held_at N new.records (plus old.rx.rx_oldest.0 k)) ≡ false

-- .. where at most `left` messages are to pass, and the oldest is the first that is ready
abbrev Going : ℕ → RxTable → (ℕ → ℕ) → ℕ → ℕ → RxTable → Type 0
Going N old w U left new =
    (p : ℕ) × (g : ℕ) × Moved N old w U p g new × (U ≤ expected_at old.rx + p + left)
    × (g < expected_at old.rx + p → is_full (held_at N new.records (plus old.rx.rx_oldest.0 g)) ≡ true)

-- what the words are after the change: all in use are records, and from the end on there are none
record Words (old : RxTable) (w : ℕ → ℕ) (U : ℕ) : Type 0 where
  grows : in_use old.rx ≤ U
  recorded : (k : ℕ) → k < U → is_record (w k) ≡ true
  beyond : (k : ℕ) → U ≤ k → w k ≡ 0
  newest : (k : ℕ) → expected_at old.rx ≤ k → suc k ≡ U → is_full (held_of (w k)) ≡ true

-- a number's cell, by how far it is past the oldest
pub same-cell : (N : ℕ) → CellCount N → (t : RxTable) (n : ℕ) → t.rx.rx_oldest.0 < 2 ^ 32 → past n t.rx.rx_oldest.0 < 2 ^ 30
    → held_past N t t.rx.rx_oldest.0 (past n t.rx.rx_oldest.0) ≡ cell_of N t n
unfolding cell_of is_used held_at
same-cell N count t n h close =
    let o = t.rx.rx_oldest.0 in
    simp (past-plus o (past n o) h close, ← (number-cell N count n o h close))

-- of a table: o is its oldest number, and E how far the next expected is past it
module _ (N : ℕ) (count : CellCount N) (old : RxTable) (table : Table N old) where
  abbrev o : ℕ
  o = old.rx.rx_oldest.0

  abbrev E : ℕ
  E = expected_at old.rx

  near-expected : E < 2 ^ 30
  near-expected = omega (arith, table.near, table.used, count.few)

  -- the word of the number j past o is changed, and that of any other k isn't
  put : (words : List ℕ) (n j x : ℕ) → length words ≡ N → n % N ≡ plus o j % N → j < N → (k : ℕ) → k < N
      → word_in N (set words (n % N) x) (plus o k) ≡ cond (eqb k j) x (word_in N words (plus o k))
  put words n j x long e hj k hk =
      let cell : (i : ℕ) → plus o i % N ≡ (o + i) % N = λ i. cell-counted N o i count.round in
      set_at words (n % N) x (plus o k % N) (rw long (mod-lt n count.some))
      ∙ ap (λ b. cond b x (word_in N words (plus o k))) (same_test (eqb (plus o k % N) (n % N)) (eqb k j)
      (λ t. eq-eqb k j (cells-apart N o k j hk hj (sym (cell k) ∙ eqb-true (plus o k % N) (n % N) t ∙ e ∙ cell j)))
      (λ t. eq-eqb (plus o k % N) (n % N) (ap (λ i. plus o i % N) (eqb-true k j t) ∙ sym e)))

  module _ (w : ℕ → ℕ) (U : ℕ) (few : U ≤ N) (words : Words old w U) (p g : ℕ) (t : RxTable) (was : Moved N old w U p g t) where
    -- the next expected number, and what the tests of the two loops are
    expected-at : t.rx.rx_seq.0 ≡ plus o (E + p)
    expected-at = was.over.expected-is ∙ counted old.rx.rx_seq.0 o p table.expected-u32 table.oldest-u32 near-expected

    can-advance : can_advance N t ≡ (ltb (E + p) U && is_full (held_at N t.records (plus o (E + p))))
    unfolding can_advance
    can-advance = simp (expected-at, was.end_is, apart-is o (E + p) U was.over.within (omega (arith, count.few)))

    apart : not (eqb t.rx.rx_oldest.0 t.rx.rx_seq.0) ≡ ltb g (E + p)
    apart = simp (expected-at, was.oldest-is) (apart-is o g (E + p) was.behind (omega (arith, was.over.within, count.few)))

    can-skip : can_skip N t.records t.rx ≡ (ltb g (E + p) && not (is_full (held_at N t.records (plus o g))))
    unfolding can_skip
    can-skip = ap₂ ◌&&◌ apart (ap (λ n. not (is_full (held_at N t.records n))) was.oldest-is)

    -- one turn: the oldest stays, or goes along where it was the next expected and nothing is ready there
    turn : (left : ℕ) → U ≤ E + p + suc left → (g < E + p → is_full (held_at N t.records (plus o g)) ≡ true) → can_advance N t ≡ true → Going N old w U left (passed_over N t)
    unfolding passed_over held_at
    turn left many stands b =
        let both = split (ltb (E + p) U) (is_full (held_at N t.records (plus o (E + p)))) (sym can-advance ∙ b) in
        let l : E + p < U = ltb-true (E + p) U both.0 in
        let lN : E + p < N = omega arith in
        let seq = t.rx.rx_seq.0 in
        let stays = kept_record (word_in N t.records seq) in
        let after = set t.records (seq % N) stays in
        let seen = put t.records seq (E + p) stays was.over.cells-N (ap (λ m. m % N) expected-at) lN in
        let here : word_in N after (plus o (E + p)) ≡ stays = seen (E + p) lN ∙ simp (eq-eqb (E + p) (E + p) refl) in
        let there : (k : ℕ) → k < N → (k ≡ E + p → ⊥) → word_in N after (plus o k) ≡ word_in N t.records (plus o k) = λ k lk ne. seen k lk ∙ simp (ne_eqb k (E + p) ne) in
        let now : word_in N t.records (plus o (E + p)) ≡ w (E + p) = was.over.other (E + p) l (λ a. omega arith) in
        let end : suc (E + p) ≡ E + suc p = omega arith in
        let over : Over N old w U (suc p) (plus seq 1) after =
        record {
          expected-is = ap (λ n. plus n 1) was.over.expected-is ∙ plus_one old.rx.rx_seq.0 p;
          within = omega arith;
          other = λ k lk f. there k (omega arith) (λ q. omega (arith, f (omega arith))) ∙ was.over.other k lk (λ a. omega (arith, f a));
          kept = rw (← end) (one_more _ (E + p)
              (λ k lk a. let k-was = was.over.kept k lk a in (there k (omega arith) (λ q. omega arith) ∙ k-was.0, k-was.1))
              (λ a. (here ∙ ap kept_record (ap (word_in N t.records) expected-at ∙ now), ap (λ x. is_full (held_of x)) (sym now) ∙ both.1)));
          cells-N = length-set t.records _ _ ∙ was.over.cells-N;
        } in
        let empty : (k : ℕ) → k < g → is_full (held_of (word_in N after (plus o k))) ≡ false =
        λ k lk. ap (λ x. is_full (held_of x)) (there k (omega (arith, was.behind)) (λ q. omega (arith, was.behind))) ∙ was.emptied k lk in
        let next = plus seq 1 in
        let made : (g' oldest : ℕ) → oldest ≡ plus o g' → g' ≤ E + suc p → ((k : ℕ) → k < g' → is_full (held_of (word_in N after (plus o k))) ≡ false)
        → (g' < E + suc p → is_full (held_of (word_in N after (plus o g'))) ≡ true) → Going N old w U left (table_of (with_numbers t.rx (seq_of next) (seq_of oldest)) after) =
        λ g' oldest is b none first. (suc p, g', record { over = over; oldest-is = is; end_is = was.end_is; behind = b; emptied = none }, omega arith, first) in
        let stay : (g ≡ E + p → is_full (held_of stays) ≡ true) → Going N old w U left (table_of (with_numbers t.rx (seq_of next) t.rx.rx_oldest) after) =
        λ first. made g t.rx.rx_oldest.0 was.oldest-is (omega (arith, was.behind)) empty (λ lg. cases (eqb g (E + p))
        (λ q. let e = eqb-true g (E + p) q in rw e (ap (λ x. is_full (held_of x)) here ∙ first e))
        (λ q. let ne = eqb-false g (E + p) q in ap (λ x. is_full (held_of x)) (there g (omega (arith, was.behind)) ne) ∙ stands (omega (arith, was.behind)))) in
        cases (is_full (held_of stays))
        (λ f. simp f (stay (λ q. f)))
        (λ f. cases (ltb g (E + p))
        (λ q. simp (f, not-true (eqb t.rx.rx_oldest.0 seq) (apart ∙ q)) (stay (λ e. absurd (omega (arith, ltb-true g (E + p) q)))))
        (λ q.
        let e : g ≡ E + p = omega (arith, ltb-false g (E + p) q, was.behind) in
        simp (f, not-false (eqb t.rx.rx_oldest.0 seq) (apart ∙ q))
        (made (suc g) next (ap (λ m. plus m 1) (expected-at ∙ ap (plus o) (sym e)) ∙ plus_one o g) (omega arith)
        (one_more _ g empty (rw e (ap (λ x. is_full (held_of x)) here ∙ f))) (λ lg. absurd (omega arith)))))

    -- the oldest moves on over an empty cell
    by_one : g < E + p → is_full (held_at N t.records (plus o g)) ≡ false → Moved N old w U p (suc g) (table_of (passed_by t.rx) t.records)
    unfolding passed_by
    by_one l none =
        record { over = was.over; oldest-is = ap (λ m. plus m 1) was.oldest-is ∙ plus_one o g; end_is = was.end_is; behind = l; emptied = one_more _ g was.emptied none }

    -- ---- where it ends

    in-use : in_use t.rx ≡ U - g
    in-use = simp (was.end_is, was.oldest-is) (past-counted o U g (omega (arith, was.behind, was.over.within)) (omega (arith, count.few)))

    -- before the oldest, and from the end on, nothing is held; between them what the records say
    held-in : (k : ℕ) → k < U → held_past N t o k ≡ held_at N t.records (plus o k)
    unfolding cell_of is_used
    held-in k l =
        cases (ltb g (suc k))
        (λ b.
        let at : past (plus o k) t.rx.rx_oldest.0 ≡ k - g = ap (past (plus o k)) was.oldest-is ∙ past-counted o k g (omega (arith, ltb-true g (suc k) b)) (omega (arith, count.few)) in
        simp (at, in-use, lt-ltb (k - g) (U - g) (omega (arith, ltb-true g (suc k) b))))
        (λ b.
        let none = not_full _ (was.emptied k (omega (arith, ltb-false g (suc k) b))) in
        cases (ltb (past (plus o k) t.rx.rx_oldest.0) (in_use t.rx)) (λ d. simp d) (λ d. simp d (sym none)))

    held_out : (k : ℕ) → U ≤ k → k < g + 2 ^ 30 → held_past N t o k ≡ None
    unfolding cell_of is_used
    held_out k l u =
        let low : g ≤ U = omega (arith, was.behind, was.over.within) in
        let at : past (plus o k) t.rx.rx_oldest.0 ≡ k - g = ap (past (plus o k)) was.oldest-is ∙ past-counted o k g (omega arith) u in
        simp (at, in-use, le-ltb (k - g) (U - g) (omega arith))

    -- nothing stands at the next expected number, and the oldest is ready
    passes : (E + p < U → is_full (held_of (w (E + p))) ≡ false) → (g < E + p → is_full (held_at N t.records (plus o g)) ≡ true) → Passes N old t (λ k. held_of (w k))
    unfolding held_at
    passes stops stands = record {
      passed = p;
      gone = g;
      end = U;
      expected-is = ap seq_of was.over.expected-is;
      oldest-is = ap seq_of was.oldest-is;
      end_is = ap seq_of was.end_is;
      within = was.over.within;
      used = few;
      grows = words.grows;
      behind = was.behind;
      ready-were = λ k l. held-in k (omega (arith, was.over.within)) ∙ ap held_of (was.over.other k (omega (arith, was.over.within)) (λ a. absurd (omega arith)));
      kept = λ k a b. held-in k (omega (arith, was.over.within)) ∙ ap held_of (was.over.kept k b a).0 ∙ held_kept (w k);
      ahead = λ k a l. cases (ltb k U)
          (λ b. held-in k (ltb-true k U b) ∙ ap held_of (was.over.other k (ltb-true k U b) (λ x. a)))
          (λ b. let ge : U ≤ k = omega (arith, ltb-false k U b) in held_out k ge (omega (arith, count.few)) ∙ sym (ap held_of (words.beyond k ge) ∙ held_none));
      full = λ k a b. (was.over.kept k b a).1;
      stops = λ l. cases (ltb (E + p) U) (λ b. stops (ltb-true (E + p) U b)) (λ b. ap is_full (ap held_of (words.beyond (E + p) (omega (arith, ltb-false (E + p) U b))) ∙ held_none));
      emptied = λ k l. held-in k (omega (arith, was.behind, was.over.within)) ∙ not_full _ (was.emptied k l);
      stands = λ l. ap is_full (held-in g (omega (arith, was.over.within))) ∙ stands l;
      beyond = held_out;
      newest = λ k l e. words.newest k (omega arith) e;
      recorded = λ k l u. cases (ltb k E)
          (λ b. rw (was.over.other k u (λ a. absurd (omega (arith, ltb-true k E b)))) (words.recorded k u))
          (λ b. cases (ltb k (E + p))
          (λ d. rw (was.over.kept k (ltb-true k (E + p) d) (omega (arith, ltb-false k E b))).0 (kept-recorded (w k) (words.recorded k u)))
          (λ d. rw (was.over.other k u (λ a. omega (arith, ltb-false k (E + p) d))) (words.recorded k u)));
      cells-long = was.over.cells-N;
    }

  -- the two loops up to their ends
  advances : (w : ℕ → ℕ) (U : ℕ) → U ≤ N → Words old w U → (t : RxTable) → Going N old w U N t → Passes N old (advanced N N t) (λ k. held_of (w k))
  unfolding held_at
  advances w U few words t start =
      turns-keep (can_advance N) (passed_over N) (Going N old w U) (λ new. Passes N old new (λ k. held_of (w k))) (λ left t (p, g, was, many, stands). turn w U few words p g t was left many stands)
      (λ left t (p, g, was, many, stands) b. passes w U few words p g t was
      (λ l. ap (λ x. is_full (held_of x)) (sym (was.over.other (E + p) l (λ a. omega arith))) ∙ (simp (lt-ltb (E + p) U l) at (sym (can-advance w U few words p g t was) ∙ b))) stands)
      (λ t (p, g, was, many, stands). passes w U few words p g t was (λ l. absurd (omega arith)) stands) N t start

  skips : (w : ℕ → ℕ) (U : ℕ) (few : U ≤ N) (words : Words old w U) (records : List ℕ) (rx : Receiving) (g : ℕ) → Moved N old w U 0 g (table_of rx records) → (E + 0 < U → is_full (held_of (w (E + 0))) ≡ false)
      → Passes N old (table_of (skipped N N records rx) records) (λ k. held_of (w k))
  skips w U few words records rx g start stops =
      turns-keep (can_skip N records) passed_by (λ left new. (g : ℕ) × Moved N old w U 0 g (table_of new records) × (N ≤ g + left)) (λ new. Passes N old (table_of new records) (λ k. held_of (w k)))
      (λ left rx (g, was, many) b.
      let both = split (ltb g (E + 0)) (not (is_full (held_at N records (plus o g)))) (sym (can-skip w U few words 0 g (table_of rx records) was) ∙ b) in
      (suc g, by_one w U few words 0 g (table_of rx records) was (ltb-true g (E + 0) both.0) (not-true (is_full (held_at N records (plus o g))) both.1), omega arith))
      (λ left rx (g, was, many) b. passes w U few words 0 g (table_of rx records) was stops
      (λ l. not-false (is_full (held_at N records (plus o g))) (simp (lt-ltb g (E + 0) l) at (sym (can-skip w U few words 0 g (table_of rx records) was) ∙ b))))
      (λ rx (g, was, many). passes w U few words 0 g (table_of rx records) was stops (λ l. absurd (omega (arith, was.over.within)))) N rx (g, start, omega arith)

  -- ---- the start: one cell is changed

  -- the words of a table, by how far they are past the oldest
  abbrev word_past : ℕ → ℕ
  word_past k = cond (ltb k (in_use old.rx)) (word_in N old.records (plus o k)) 0

  -- .. with one of them changed
  abbrev word_but : ℕ → ℕ → ℕ → ℕ
  word_but at x k = cond (eqb k at) x (word_past k)

  -- what they say
  held-past : (k : ℕ) → k < 2 ^ 30 → held_of (word_past k) ≡ held_past N old o k
  unfolding cell_of is_used held_at
  held-past k l =
      let at : past (plus o k) o ≡ k = past-plus o k table.oldest-u32 l in
      cases (ltb k (in_use old.rx)) (λ b. simp (at, b)) (λ b. simp (at, b) held_none)

  -- .. with what the changed one says
  held-but : (at x : ℕ) (h : Held) → held_of x ≡ h → (k : ℕ) → k < 2 ^ 30 → held_of (word_but at x k) ≡ held_but N old at h k
  held-but at x h e k l = cases (eqb k at) (λ b. simp b e) (λ b. simp b (held-past k l))

  -- each is a record
  word-recorded : (k : ℕ) → is_record (word_past k) ≡ true
  word-recorded k = cases (ltb k (in_use old.rx)) (λ b. simp b (table.recorded k (ltb-true k (in_use old.rx) b))) (λ b. simp b none-recorded)

  -- Passes goes by what the cells hold below 2^30
  passes_same : (new : RxTable) (c d : ℕ → Held) → ((k : ℕ) → k < 2 ^ 30 → c k ≡ d k) → Passes N old new c → Passes N old new d
  passes_same new c d same p = record {
    passed = p.passed;
    gone = p.gone;
    end = p.end;
    expected-is = p.expected-is;
    oldest-is = p.oldest-is;
    end_is = p.end_is;
    within = p.within;
    used = p.used;
    grows = p.grows;
    behind = p.behind;
    ready-were = λ k l. p.ready-were k l ∙ same k (omega (arith, near-expected));
    kept = λ k a b. p.kept k a b ∙ ap kept_of (same k (omega (arith, p.within, p.used, count.few)));
    ahead = λ k a l. p.ahead k a l ∙ same k (omega (arith, count.few));
    full = λ k a b. ap is_full (sym (same k (omega (arith, p.within, p.used, count.few)))) ∙ p.full k a b;
    stops = λ l. ap is_full (sym (same (E + p.passed) (omega (arith, count.few)))) ∙ p.stops l;
    emptied = p.emptied;
    stands = p.stands;
    beyond = p.beyond;
    newest = λ k l e. ap is_full (sym (same k (omega (arith, p.used, count.few)))) ∙ p.newest k l e;
    recorded = p.recorded;
    cells-long = p.cells-long;
  }

  -- of words that are those of the table, but for one: nothing has moved yet
  moved-not : (w : ℕ → ℕ) (U : ℕ) (t : RxTable) → E ≤ U → t.rx.rx_seq ≡ old.rx.rx_seq → t.rx.rx_oldest ≡ old.rx.rx_oldest → t.rx.rx_end.0 ≡ plus o U
      → length t.records ≡ N → ((k : ℕ) → k < U → word_in N t.records (plus o k) ≡ w k) → Moved N old w U 0 0 t
  moved-not w U t l seq oldest end long is = record {
    over = record {
      expected-is = ap (λ q. q.0) seq ∙ sym (plus-zero _ table.expected-u32);
      within = omega arith;
      other = λ k lk f. is k lk;
      kept = λ k lk a. absurd (omega arith);
      cells-N = long;
    };
    oldest-is = ap (λ q. q.0) oldest ∙ sym (plus-zero o table.oldest-u32);
    end_is = end;
    behind = omega arith;
    emptied = λ k lk. absurd (omega arith);
  }

  -- the end, by how far it is past the oldest
  end-at : old.rx.rx_end.0 ≡ plus o (in_use old.rx)
  end-at = sym (plus-zero _ table.end-u32) ∙ counted old.rx.rx_end.0 o 0 table.end-u32 table.oldest-u32 (omega (arith, table.used, count.few)) ∙ ap (plus o) (add-zero (in_use old.rx))

  -- ---- the cells that come into use before a number that is past the end

  module _ (at : ℕ) (l : in_use old.rx ≤ at) (few : at < N) where
    abbrev filled : List ℕ
    filled = refilled N old.records (old.rx.rx_end.0 % N) (replicate (at - in_use old.rx) 0)

    gap : length (replicate {A = ℕ} (at - in_use old.rx) 0) ≡ at - in_use old.rx
    gap = length-replicate (at - in_use old.rx) 0

    -- the cell of the number m past the end, and of one that is k past the oldest
    end-cell : (m : ℕ) → (old.rx.rx_end.0 % N + m) % N ≡ plus o (in_use old.rx + m) % N
    end-cell m =
        mod-add-mod old.rx.rx_end.0 N m ∙ sym (cell-counted N old.rx.rx_end.0 m count.round)
        ∙ ap (λ n. n % N) (ap (λ n. plus n m) end-at ∙ plus-plus o (in_use old.rx) m)

    filled-long : length filled ≡ N
    filled-long = refill-length N 0 old.records (old.rx.rx_end.0 % N) _ ∙ table.cells-N

    -- those in use stay ..
    filled-old : (k : ℕ) → k < in_use old.rx → word_in N filled (plus o k) ≡ word_in N old.records (plus o k)
    filled-old k lk =
        let m = N - in_use old.rx + k in
        let low = table.used in
        let on : in_use old.rx + m ≡ k + N = omega arith in
        let far : o + (k + N) ≡ o + k + N = omega arith in
        let round : plus o (in_use old.rx + m) % N ≡ plus o k % N =
        ap (λ n. plus o n % N) on ∙ cell-counted N o (k + N) count.round ∙ ap (λ n. n % N) far ∙ add-mod_right (o + k) N ∙ sym (cell-counted N o k count.round) in
        let cell = end-cell m ∙ round in
        ap (λ i. get_or filled i 0) (sym cell) ∙ refill-out N 0 old.records (old.rx.rx_end.0 % N) m (replicate (at - in_use old.rx) 0) (mod-lt old.rx.rx_end.0 count.some) (omega (arith, gap)) (omega arith)
        ∙ ap (λ i. get_or old.records i 0) cell

    -- .. and those that come into use are empty
    filled-new : (k : ℕ) → in_use old.rx ≤ k → k < at → word_in N filled (plus o k) ≡ 0
    filled-new k lk hk =
        let m = k - in_use old.rx in
        let back : in_use old.rx + m ≡ k = omega arith in
        let cell = end-cell m ∙ ap (λ n. plus o n % N) back in
        ap (λ i. get_or filled i 0) (sym cell) ∙ sym (window-at N 0 filled (old.rx.rx_end.0 % N) (length (replicate {A = ℕ} (at - in_use old.rx) 0)) m (mod-lt old.rx.rx_end.0 count.some) (omega (arith, gap)))
        ∙ ap (λ (xs : List ℕ). get_or xs m 0) (refill-window N 0 old.records (old.rx.rx_end.0 % N) (replicate (at - in_use old.rx) 0) (mod-lt old.rx.rx_end.0 count.some) table.cells-N (omega (arith, gap)))
        ∙ get_or-replicate (at - in_use old.rx) m 0 0 (omega arith)

  -- ---- the calls

  -- "is stored .. Then consecutive messages advance the next expected number"
  module _ (msg : ReliableMsg) (n len : ℕ) (close : near_oldest N old.rx n ≡ true) (short : len < 2 ^ 24) where
    abbrev at : ℕ
    at = past n o

    abbrev x : ℕ
    x = record_of (Some (msg, len))

    at-few : at < N
    unfolding near_oldest
    at-few = ltb-true at N close

    at-cell : n % N ≡ plus o at % N
    at-cell = number-cell N count n o table.oldest-u32 (omega (arith, at-few, count.few))

    -- how many cells are in use then
    abbrev U : ℕ
    U = cond (is_used old.rx n) (in_use old.rx) (suc at)

    -- all but its own, and its own
    stored-words : (E ≤ U) × (U ≤ N) × ((end_after old.rx n).0 ≡ plus o U) × (length (opened_records N old n) ≡ N) × (at < U)
        × ((k : ℕ) → k < U → (k ≡ at → ⊥) → word_in N (opened_records N old n) (plus o k) ≡ word_past k) × ((k : ℕ) → U ≤ k → (k ≡ at → ⊥) × (in_use old.rx ≤ k))
        × ((k : ℕ) → suc k ≡ U → (k ≡ at → ⊥) → suc k ≡ in_use old.rx) × (in_use old.rx ≤ U)
    unfolding end_after opened_records is_used
    stored-words = cases (ltb at (in_use old.rx))
        (λ b.
        let l = ltb-true at (in_use old.rx) b in
        simp b (table.near, table.used, end-at, table.cells-N, l, λ k lk ne. simp (lt-ltb k (in_use old.rx) lk), λ k lk. (λ q. omega arith, lk), λ k e ne. e, omega arith))
        (λ b.
        let l : in_use old.rx ≤ at = omega (arith, ltb-false at (in_use old.rx) b) in
        let far : past n old.rx.rx_end.0 ≡ at - in_use old.rx = ap (past n) end-at ∙ number_past n o (in_use old.rx) table.oldest-u32 (omega (arith, at-few, count.few)) l in
        simp (b, far) (
          omega (arith, table.near),
          omega (arith, at-few),
          number-next n o table.oldest-u32 (omega (arith, at-few, count.few)),
          filled-long at l at-few,
          omega arith,
          λ k lk ne. cases (ltb k (in_use old.rx))
              (λ d. simp d (filled-old at l at-few k (ltb-true k (in_use old.rx) d)))
              (λ d. simp d (filled-new at l at-few k (omega (arith, ltb-false k (in_use old.rx) d)) (omega arith))),
          λ k lk. (λ q. omega arith, omega arith),
          λ k e ne. absurd (ne (omega arith)),
          omega arith,
        ))

    abbrev w : ℕ → ℕ
    w k = word_but at x k

    start : Moved N old w U 0 0 (put_in N old msg n len)
    unfolding put_in
    start =
        let s = stored-words in
        let seen = put (opened_records N old n) n at x s.3 at-cell at-few in
        moved-not w U (put_in N old msg n len) s.0 refl refl s.2 (length-set (opened_records N old n) _ _ ∙ s.3)
        (λ k l. seen k (omega (arith, s.1)) ∙ cases (eqb k at) (λ b. simp b) (λ b. simp b (s.5 k l (eqb-false k at b))))

    words : Words old w U
    words = record {
      grows = stored-words.8;
      recorded = λ k l. cases (eqb k at) (λ b. simp b (record_is msg len short)) (λ b. simp b (word-recorded k));
      beyond = λ k l. let f = stored-words.6 k l in simp (ne_eqb k at f.0, le-ltb k (in_use old.rx) f.1);
      newest = λ k l e. cases (eqb k at) (λ b. simp b (ap is_full (held-record msg len short)))
          (λ b.
          let last = stored-words.7 k e (eqb-false k at b) in
          simp b (ap is_full (held-past k (omega (arith, last, table.used, count.few))) ∙ table.newest k l last));
    }

    pub stored-passes : Passes N old (stored_in N old msg n len) (held_but N old at (Some (msg, len)))
    unfolding held_at
    stored-passes =
        let said = held-but at x (Some (msg, len)) (held-record msg len short) in
        let oldest : 0 < E → is_full (held_but N old at (Some (msg, len)) 0) ≡ true = λ l. cases (eqb 0 at) (λ b. simp b) (λ b. simp b (table.oldest l)) in
        passes_same _ (λ k. held_of (w k)) (held_but N old at (Some (msg, len))) said
        (advances w U stored-words.1 words (put_in N old msg n len)
        (0, 0, start, omega (arith, stored-words.1), λ l. ap (λ v. is_full (held_of v)) (start.over.other 0 (omega (arith, stored-words.4)) (λ a. omega arith)) ∙ ap is_full (said 0 (omega arith)) ∙ oldest (omega arith)))

  -- an empty record says nothing
  empty-first : (records : List ℕ) → word_in N records (plus o 0) ≡ 0 → is_full (held_at N records (plus o 0)) ≡ false
  unfolding held_at
  empty-first records e = ap (λ v. is_full (held_of v)) e ∙ ap is_full held_none

  -- the oldest ready message is taken
  pub taken-passes : (bytes : ℕ) → 0 < expected_at old.rx → Passes N old (taken_in N old bytes) (held_but N old 0 None)
  unfolding taken_in passed_by
  taken-passes bytes some =
      let U = in_use old.rx in
      let w = word_but 0 0 in
      let emptied = set old.records (o % N) 0 in
      let few = table.used in
      let low = table.near in
      let first : o % N ≡ plus o 0 % N = ap (λ m. m % N) (sym (plus-zero o table.oldest-u32)) in
      let seen = put old.records o 0 0 table.cells-N first count.some in
      let words : Words old w U =
      record {
        grows = omega arith;
        recorded = λ k l. cases (eqb k 0) (λ b. simp b none-recorded) (λ b. simp b (word-recorded k));
        beyond = λ k l. simp (ne_eqb k 0 (λ q. omega arith), le-ltb k U l);
        newest = λ k l e. simp (ne_eqb k 0 (λ q. omega arith)) (ap is_full (held-past k (omega (arith, count.few))) ∙ table.newest k l e);
      } in
      let start : Moved N old w U 0 0 (table_of old.rx emptied) =
      moved-not w U (table_of old.rx emptied) low refl refl end-at (length-set old.records _ _ ∙ table.cells-N)
      (λ k l. seen k (omega arith) ∙ cases (eqb k 0) (λ b. simp b) (λ b. simp (b, lt-ltb k U l))) in
      let on = by_one w U few words 0 0 (table_of old.rx emptied) start (omega arith) (empty-first emptied (start.over.other 0 (omega arith) (λ a. omega arith))) in
      let said = held-but 0 0 None held_none in
      let z : E + 0 ≡ E = omega arith in
      passes_same _ (λ k. held_of (w k)) (held_but N old 0 None) said
      (skips w U few words emptied (with_bytes (passed_by old.rx) (old.rx.rxed_reliable_size - bytes) (old.rx.rxed_reliable_consumed + bytes)) 1
      (record { over = on.over; oldest-is = on.oldest-is; end_is = on.end_is; behind = on.behind; emptied = on.emptied })
      (λ l. ap is_full (said (E + 0) (omega (arith, near-expected))) ∙ simp (z, ne_eqb E 0 (λ q. omega arith)) (ap is_full table.held)))

  -- ---- what Sound asks of the table then

  module _ (new : RxTable) (at : ℕ) (h : Held) (pass : Passes N old new (held_but N old at h)) (l : at < pass.end)
      (fine : (k : ℕ) → k < N → LengthWithin (held_but N old at h k) × (k < E → ReadyKind (held_but N old at h k))) where
    abbrev on : ℕ
    on = E + pass.passed

    -- what is in the cells, which are named from the number that was the oldest
    cell-then : (k : ℕ) → k < N → (k < on → ReadyKind (held_past N new o k)) × LengthWithin (held_past N new o k) × (held_bytes (held_past N new o k) ≡ held_bytes (held_but N old at h k))
    cell-then k l =
        let was = fine k l in
        let stay = stays (held_but N old at h k) was.0 in
        cases (ltb k E)
        (λ t. let lt = ltb-true k E t in rw (pass.ready-were k lt) (λ z. was.1 lt, was.0, refl))
        (λ f. cases (ltb k on)
        (λ t. rw (pass.kept k (ltb-false k E f) (ltb-true k on t)) (λ z. stay.0, stay.1, stay.2))
        (λ t. let ge = ltb-false k on t in rw (pass.ahead k ge l) (λ z. absurd (omega arith), was.0, refl)))

    -- the next expected number, the cells in use and the same cells, from the number that is the oldest now
    expected-then : expected_at new.rx ≡ on - pass.gone
    expected-then =
        simp (ap (λ q. q.0) pass.expected-is, ap (λ q. q.0) pass.oldest-is, counted old.rx.rx_seq.0 o pass.passed table.expected-u32 table.oldest-u32 near-expected)
        (past-counted o on pass.gone pass.behind (omega (arith, pass.within, pass.used, count.few)))

    used-then : in_use new.rx ≡ pass.end - pass.gone
    used-then =
        simp (ap (λ q. q.0) pass.end_is, ap (λ q. q.0) pass.oldest-is)
        (past-counted o pass.end pass.gone (omega (arith, pass.behind, pass.within)) (omega (arith, pass.used, count.few)))

    oldest-then : new.rx.rx_oldest.0 < 2 ^ 32
    oldest-then = rw (ap (λ q. q.0) pass.oldest-is) (plus-lt o pass.gone)

    view_then : (k : ℕ) → k < 2 ^ 30 → get_or (cell_view N new) k None ≡ held_past N new o (pass.gone + k)
    view_then k l = view-cell N count new oldest-then k l ∙ ap (cell_of N new) (ap (λ q. plus q.0 k) pass.oldest-is ∙ plus-plus o pass.gone k)

    -- the changed cell's bytes go, and others come
    bytes-then : bytes_in (cell_view N new) + held_bytes (held_past N old o at) ≡ bytes_in (cell_view N old) + held_bytes h
    bytes-then =
        let hb : RxTable → ℕ → ℕ = λ t k. held_bytes (held_past N t o k) in
        let gone-le : pass.gone + (pass.end - pass.gone) ≡ pass.end = omega (arith, pass.behind, pass.within) in
        let long-new : length (cell_view N new) ≡ pass.end - pass.gone = length-map (record_view N new) held_of ∙ window-length N 0 new.records _ (in_use new.rx) ∙ used-then in
        let a : bytes_in (cell_view N new) ≡ sum_over (λ k. hb new (pass.gone + k)) (pass.end - pass.gone) =
        bytes-sum (cell_view N new) ∙ ap (sum_over (λ k. held_bytes (get_or (cell_view N new) k None))) long-new
        ∙ sum_same _ (λ k. hb new (pass.gone + k)) (pass.end - pass.gone) (λ k lk. ap held_bytes (view_then k (omega (arith, pass.used, count.few)))) in
        let b : sum_over (hb new) pass.end ≡ sum_over (hb new) pass.gone + sum_over (λ k. hb new (pass.gone + k)) (pass.end - pass.gone) =
        ap (sum_over (hb new)) (sym gone-le) ∙ sum-split (hb new) pass.gone (pass.end - pass.gone) in
        let c : sum_over (hb new) pass.gone ≡ 0 = sum-none (hb new) pass.gone (λ k lk. ap held_bytes (pass.emptied k lk)) in
        let d : sum_over (hb new) pass.end ≡ sum_over (λ k. held_bytes (held_but N old at h k)) pass.end =
        sum_same (hb new) (λ k. held_bytes (held_but N old at h k)) pass.end (λ k lk. (cell-then k (omega (arith, pass.used))).2) in
        let e : bytes_in (cell_view N old) ≡ sum_over (hb old) pass.end = old-bytes pass.end pass.grows (omega (arith, pass.used, count.few)) in
        let f = sum-but (λ k. held_bytes (held_but N old at h k)) (hb old) pass.end at l (λ k ne. simp (ne_eqb k at ne)) in
        let g : held_bytes (held_but N old at h at) ≡ held_bytes h = simp (eq-eqb at at refl) in
        omega (arith, a, b, c, d, e, f, g)
      where
        -- those that were in use, or more
        old-bytes : (m : ℕ) → in_use old.rx ≤ m → m < 2 ^ 30 → bytes_in (cell_view N old) ≡ sum_over (λ k. held_bytes (held_past N old o k)) m
        old-bytes m more few =
            let long : length (cell_view N old) ≡ in_use old.rx = length-map (record_view N old) held_of ∙ window-length N 0 old.records _ (in_use old.rx) in
            let f : ℕ → ℕ = λ k. held_bytes (held_past N old o k) in
            let whole : in_use old.rx + (m - in_use old.rx) ≡ m = omega arith in
            let a : bytes_in (cell_view N old) ≡ sum_over f (in_use old.rx) =
            bytes-sum (cell_view N old) ∙ ap (sum_over (λ k. held_bytes (get_or (cell_view N old) k None))) long
            ∙ sum_same _ f (in_use old.rx) (λ k lk. ap held_bytes (view-cell N count old table.oldest-u32 k (omega arith))) in
            let none : sum_over (λ k. f (in_use old.rx + k)) (m - in_use old.rx) ≡ 0 =
            sum-none _ (m - in_use old.rx) (λ k lk. ap held_bytes (sym (view-cell N count old table.oldest-u32 (in_use old.rx + k) (omega arith)) ∙ view-none N count old (in_use old.rx + k) (omega arith))) in
            omega (arith, a, none, ap (sum_over f) (sym whole) ∙ sum-split f (in_use old.rx) (m - in_use old.rx))

    -- the records are sound
    pub records-then : new.rx.cells ≡ N → new.rx.rxed_reliable_size ≡ bytes_in (cell_view N new) → SoundRecords new
    records-then same sum = record {
      long = pass.cells-long ∙ sym same;
      untaken = rw same sum;
      ready = λ k lk. rw (same, view_then k (omega (arith, expected-then, pass.within, pass.used, count.few))) ((cell-then (pass.gone + k) (omega (arith, expected-then, pass.within, pass.used))).0 (omega (arith, expected-then)));
      oldest = λ lt. rw (same, view_then 0 (omega arith)) (simp add-zero (pass.stands (omega (arith, expected-then))));
      held = rw same none_then;
      newest = λ k lk e. rw (same, view_then k (omega (arith, used-then, pass.used, count.few))) (newest-then k lk e);
      cell-length = λ k lk. rw (same, view_then k (omega (arith, used-then, pass.used, count.few))) (cell-then (pass.gone + k) (omega (arith, used-then, pass.used))).1;
      recorded = λ k lk. rw (same, view-record N count new k lk, ap (λ q. plus q.0 k) pass.oldest-is ∙ plus-plus o pass.gone k) (pass.recorded (pass.gone + k) (omega arith) (omega (arith, used-then)));
    }
      where
        none_then : get_or (cell_view N new) (expected_at new.rx) None ≡ None
        none_then =
            let at : pass.gone + expected_at new.rx ≡ on = omega (arith, expected-then, pass.behind) in
            view_then (expected_at new.rx) (omega (arith, expected-then, pass.within, pass.used, count.few)) ∙ ap (held_past N new o) at
            ∙ cases (ltb on N)
            (λ b. let lt = ltb-true on N b in pass.ahead on (omega arith) lt ∙ not_full _ (pass.stops lt))
            (λ b. pass.beyond on (omega (arith, ltb-false on N b, pass.used)) (omega (arith, pass.within, pass.used, count.few)))

        newest-then : (k : ℕ) → expected_at new.rx ≤ k → suc k ≡ in_use new.rx → is_full (held_past N new o (pass.gone + k)) ≡ true
        newest-then k lk e =
            let ge : on ≤ pass.gone + k = omega (arith, expected-then) in
            ap is_full (pass.ahead (pass.gone + k) ge (omega (arith, used-then, pass.used))) ∙ pass.newest (pass.gone + k) ge (omega (arith, used-then))

-- ---- of a state with its records

-- its clauses in the words of Table
pub table-of : (s : State) → Good s → (records : List ℕ) → SoundRecords (table_of s.rx records) → Table s.rx.cells (table_of s.rx records)
table-of s good records recorded =
    let t = table_of s.rx records in
    let count = cell-count s.rx.cells good.sound.cell-count in
    let few = count.few in
    let at = view-cell s.rx.cells count t good.shaped.oldest-u32 in
    record {
      cells-N = recorded.long;
      expected-u32 = good.shaped.expected-u32;
      oldest-u32 = good.shaped.oldest-u32;
      end-u32 = good.shaped.end-u32;
      near = good.sound.near;
      used = good.sound.used;
      oldest = λ h. ap is_full (sym (at 0 (omega arith))) ∙ recorded.oldest h;
      held = sym (at (expected_at s.rx) (omega (arith, good.sound.near, good.sound.used))) ∙ recorded.held;
      newest = λ k l e. ap is_full (sym (at k (omega (arith, good.sound.used)))) ∙ recorded.newest k l e;
      recorded = λ k l. rw (← view-record s.rx.cells count t k l) (recorded.recorded k l);
    }

-- the untaken bytes, those taken and untold, the receive buffer and the cell count
abbrev pub sizes : Receiving → ℕ × ℕ × ℕ × ℕ
sizes rx = (rx.rxed_reliable_size, rx.rxed_reliable_consumed, rx.recv_buffer, rx.cells)

-- the state with another receiving half, and with what a message may do to the sending half
abbrev pub effect_on : State → Receiving → (unconsumed : ℕ) (finished closed : Bool) → State
effect_on s new n finished closed =
    with_parts s s.links (with_ends (with_totals s.tx s.tx.txed_unacked n s.tx.txed_unconsumable) s.tx.txed_last_consumed finished closed) new s.time

-- a good state, and records that are sound with it
pub record GoodWith (s : State) (records : List ℕ) : Type 0 where
  pub state : Good s
  pub records-sound : SoundRecords (table_of s.rx records)

-- a call that changes a cell, passes messages, and has an effect on the sending half: its cells are as Sound asks, and the state is good
module _ (s : State) (good : Good s) (records : List ℕ) (recorded : SoundRecords (table_of s.rx records)) (new : RxTable) (at : ℕ) (h : Held)
    (pass : Passes s.rx.cells (table_of s.rx records) new (held_but s.rx.cells (table_of s.rx records) at h)) (l : at < pass.end)
    (fits : LengthWithin h) (ready : at < expected_at s.rx → ReadyKind h) where
  abbrev t : RxTable
  t = table_of s.rx records

  abbrev N : ℕ
  N = s.rx.cells

  count : CellCount N
  count = cell-count N good.sound.cell-count

  table : Table N t
  table = table-of s good records recorded

  cells-fine : (k : ℕ) → k < N → LengthWithin (held_but N t at h k) × (k < expected_at s.rx → ReadyKind (held_but N t at h k))
  cells-fine k lk =
      cases (eqb k at) (λ b. simp b (fits, λ lt. ready (omega (arith, eqb-true k at b))))
      (λ b. simp (b, ← (view-cell N count t good.shaped.oldest-u32 k (omega (arith, count.few)))) (length_at k, recorded.ready k))
    where
      length_at : (k : ℕ) → LengthWithin (cell_at t k)
      length_at k = cases (ltb k (in_use s.rx)) (λ b. recorded.cell-length k (ltb-true k (in_use s.rx) b)) (λ b. rw (view-none N count t k (ltb-false k (in_use s.rx) b)) tt)

  pub passed-good : new.rx.rxed_reliable_size ≡ s.rx.rxed_reliable_size + held_bytes h - held_bytes (held_past N t s.rx.rx_oldest.0 at)
      → new.rx.rxed_reliable_size ≤ s.rx.recv_buffer → new.rx.rxed_reliable_consumed < 2 ^ 32 → new.rx.recv_buffer ≡ s.rx.recv_buffer → new.rx.cells ≡ N
      → (unconsumed : ℕ) (finished closed : Bool) → unconsumed ≤ s.tx.txed_unconsumed → GoodWith (effect_on s new.rx unconsumed finished closed) new.records
  passed-good sum within low buffer same unconsumed finished closed less =
      let r = effect_on s new.rx unconsumed finished closed in
      let on = expected-then N count t table new at h pass l cells-fine in
      let used = used-then N count t table new at h pass l cells-fine in
      let bytes = bytes-then N count t table new at h pass l cells-fine in
      let there : (i : ℕ) → i < s.tx.txed_count → SentHere r (packet_at s i).status =
      λ i l. here-kept s r (packet_at s i).status (λ j l lives. (lives, refl)) (good.sound.sent i l) in
      let sending : SendingSound r =
      record {
        each = λ i l. record { number = good.sound.consecutive i l; fits = good.sound.packet-length i l; here = there i l; timed = good.sound.sent-by i l };
        first = good.sound.first;
        queued = good.sound.queued;
        unacked = good.sound.unacked;
        unconsumable = good.sound.unconsumable;
        packet-count = good.sound.packet-count;
        queue-count = good.sound.queue-count;
      } in
      let receiving : ReceivingSound new.rx =
      record {
        untaken-within = omega (arith, buffer);
        near = omega (arith, on, used, pass.within);
        used = omega (arith, used, pass.used, same);
        cell-count = rw same good.sound.cell-count;
        buffer-set = omega (arith, buffer, good.sound.buffer-set);
        buffer-within = rw (buffer, same) good.sound.buffer-within;
      } in
      record {
        state = record {
          sound = whole r sending (rows_of s good.sound) good.sound.identities receiving good.sound.time-within;
          shaped = record {
            links-full = good.shaped.links-full;
            queues = good.shaped.queues;
            packets-full = good.shaped.packets-full;
            queue-full = good.shaped.queue-full;
            next-u32 = good.shaped.next-u32;
            expected-u32 = rw (ap (λ q. q.0) pass.expected-is) (plus-lt s.rx.rx_seq.0 pass.passed);
            oldest-u32 = rw (ap (λ q. q.0) pass.oldest-is) (plus-lt s.rx.rx_oldest.0 pass.gone);
            count-usize = good.shaped.count-usize;
            queue-usize = good.shaped.queue-usize;
            unacked-u32 = good.shaped.unacked-u32;
            unconsumed-u32 = omega (arith, good.shaped.unconsumed-u32);
            unconsumable-u32 = good.shaped.unconsumable-u32;
            last-u32 = good.shaped.last-u32;
            size-u32 = omega (arith, good.shaped.buffer-u32);
            untold-u32 = low;
            buffer-u32 = rw buffer good.shaped.buffer-u32;
            cells-u32 = rw same good.shaped.cells-u32;
            end-u32 = rw (ap (λ q. q.0) pass.end_is) (plus-lt s.rx.rx_oldest.0 pass.end);
            time-u64 = good.shaped.time-u64;
          };
        };
        records-sound = records-then N count t table new at h pass l cells-fine same (omega (arith, sum, bytes, recorded.untaken));
      }
