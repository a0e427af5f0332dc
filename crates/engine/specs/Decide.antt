-- Whether a state is sound: `soundb` is true just of the states that Sound describes, since it decides that very record, clause by
-- clause; and `recordsb` of what SoundRecords describes. Refusal 1 asks the first, and where records are used both. Assumes nothing.
use Rattle.std.specs.Prelude.{◌≡◌, ℕ, zero, suc, ◌*◌, ◌<◌, ◌≤◌, Bool, true, false, not, ◌&&◌, List, [], ◌∷◌, length, ◌==◌, ◌≢◌, nat_le, nat_lt, slice_index, refl, Some, None, Option}
use Rattle.engine.specs.Held.{Held}
use Rattle.std.proofs.Common.{ap, ap₂, not-suc-le-zero, arith, ltb-true, leb-true, eqb-true, lt-ltb, le-leb, eq-eqb}
use Rattle.std.proofs.lemmas.Bool.{not-true}
use borrow.Table.Steps.{cases}
use Rattle.seq.specs.declared.Seq.{Seq}
use Rattle.seq.specs.Numbers.{seq_of, plus}
use Rattle.link.specs.Sizes.{max_ping_within, ping_within, MAX_TIME, ACKS}
use Rattle.engine.specs.declared.state.SentReliableStatus.{SentReliableStatus}
use Rattle.engine.specs.declared.state.SentReliableStatus.TheVariants.{Sent, Received, ResendQueued}
use Rattle.engine.specs.declared.state.State.{State}
use Rattle.engine.specs.Packets.{first_of, packets, queue, is_received, queued_of, SentOn, Outstanding, Settled, sum_of}
use Rattle.engine.specs.Records.{is_full, is_ready_kind, is_record}
use Rattle.engine.specs.Received.{RxTable, table_of, record_view, cell_view, expected_at, in_use, bytes_in}
use Rattle.engine.specs.Tally.{length_ok}
use Rattle.engine.specs.Sound.{row_at, packet_at, cell_at, SentHere, FlushedBy, SentBy, ReadyKind, LengthWithin, Sound, SoundRecords}
use Rattle.engine.specs.CellCount.{is_cell_count}
use Rattle.engine.specs.Sizes.{SLOTS, PACKETS, DATA_BYTES}
use Rattle.refusal.specs.Tests.{false-true}

-- ---- decisions of any fact

-- a test that says the fact
unfoldable by-test : {A : Type 0} (b : Bool) → (b ≡ true → A) → (A → b ≡ true) → Dec A
by-test true f g = yes (f refl)
by-test false f g = no (λ a. false-true (g a))

unfoldable same : {A B : Type 0} → Dec A → (A → B) → (B → A) → Dec B
same (yes a) f g = yes (f a)
same (no n) f g = no (λ b. n (g b))

unfoldable both : {A B : Type 0} → Dec A → Dec B → Dec (A × B)
both (yes a) (yes b) = yes (a, b)
both (yes a) (no n) = no (λ p. n p.1)
both (no n) d = no (λ p. n p.0)

unfoldable given : {A B : Type 0} → Dec A → Dec B → Dec (A → B)
given (yes a) (yes b) = yes (λ x. b)
given (yes a) (no n) = no (λ f. n (f a))
given (no n) d = yes (λ a. absurd (n a))

-- a fact of every number below n
pub below_suc : {P : ℕ → Type 0} (n : ℕ) → ((i : ℕ) → i < n → P i) → P n → (i : ℕ) → i < suc n → P i
below_suc n f p i h = elim (at_most n i) [
  | yes e ↦ rw e p
  | no ne ↦ f i (omega arith)
]
  where
    at_most : (n i : ℕ) → Dec (i ≡ n)
    at_most n i = by-test (i == n) (eqb-true i n) (eq-eqb i n)

unfoldable below : (n : ℕ) {P : ℕ → Type 0} → ((i : ℕ) → Dec (P i)) → Dec ((i : ℕ) → i < n → P i)
unfolding same both
below zero d = yes (λ i h. absurd (not-suc-le-zero h))
below (suc n) d = same (both (below n d) (d n)) (λ p. below_suc n p.0 p.1) (λ f. (λ i h. f i (omega arith), f n (omega arith)))

-- ---- decisions of the facts that Sound is made of

unfoldable eq? : (m n : ℕ) → Dec (m ≡ n)
unfolding by-test
eq? m n = by-test (m == n) (eqb-true m n) (eq-eqb m n)

unfoldable le? : (m n : ℕ) → Dec (m ≤ n)
unfolding by-test
le? m n = by-test (nat_le m n) (leb-true m n) (le-leb m n)

unfoldable lt? : (m n : ℕ) → Dec (m < n)
unfolding by-test
lt? m n = by-test (nat_lt m n) (ltb-true m n) (lt-ltb m n)

unfoldable true? : (b : Bool) → Dec (b ≡ true)
unfolding by-test
true? b = by-test b (λ e. e) (λ e. e)

unfoldable false? : (b : Bool) → Dec (b ≡ false)
unfolding by-test
false? b = by-test (not b) (not-true b) (λ e. ap not e)

unfoldable seq? : (a b : Seq) → Dec (a ≡ b)
unfolding same eq?
seq? a b = same (eq? a.0 b.0) (ap seq_of) (ap (λ (n : Seq). n.0))

unfoldable seqs? : (xs ys : List Seq) → Dec (xs ≡ ys)
unfolding same both seq?
seqs? [] [] = yes refl
seqs? [] (y ∷ ys) = no (λ e. let z : 0 ≡ suc (length ys) = ap length e in omega arith)
seqs? (x ∷ xs) [] = no (λ e. let z : suc (length xs) ≡ 0 = ap length e in omega arith)
seqs? (x ∷ xs) (y ∷ ys) = same (both (seq? x y) (seqs? xs ys)) (λ p. ap₂ (λ (a : Seq) (l : List Seq). a ∷ l) p.0 p.1) (λ e. (cc, cc))

unfoldable nothing? : (h : Held) → Dec (h ≡ None)
nothing? None = yes refl
nothing? (Some (msg, len)) = no (λ e. false-true (ap (λ h. not (is_full h)) e))

unfoldable here? : (s : State) (st : SentReliableStatus) → Dec (SentHere s st)
unfolding same both lt? true? eq?
here? s (Sent flight) =
    same (both (lt? flight.slot SLOTS) (both (true? (row_at s flight.slot).live) (eq? (row_at s flight.slot).link_id flight.link)))
    (λ p. (p.0, p.1.0, p.1.1)) (λ h. (h.0, (h.1, h.2)))
here? s Received = yes tt
here? s (ResendQueued link) = yes tt

unfoldable flushed? : (time : ℕ) (f : Option ℕ) → Dec (FlushedBy time f)
unfolding le?
flushed? time None = yes tt
flushed? time (Some at) = le? at time

unfoldable by? : (time : ℕ) (st : SentReliableStatus) → Dec (SentBy time st)
unfolding both le? flushed?
by? time (Sent flight) = both (le? flight.sent time) (flushed? time flight.flushed)
by? time Received = yes tt
by? time (ResendQueued link) = yes tt

unfoldable ready? : (h : Held) → Dec (ReadyKind h)
unfolding true?
ready? None = yes tt
ready? (Some (msg, len)) = true? (is_ready_kind msg)

unfoldable within? : (h : Held) → Dec (LengthWithin h)
unfolding true?
within? None = yes tt
within? (Some (msg, len)) = true? (length_ok msg len)

-- ---- Sound

-- a fact of every packet, of every live link, and of every two live links
unfoldable packets? : (s : State) {P : ℕ → Type 0} → ((i : ℕ) → Dec (P i)) → Dec ((i : ℕ) → i < s.tx.txed_count → P i)
unfolding below
packets? s d = below s.tx.txed_count d

unfoldable links? : (s : State) {P : ℕ → Type 0} → ((j : ℕ) → Dec (P j)) → Dec ((j : ℕ) → j < SLOTS → (row_at s j).live ≡ true → P j)
unfolding below given true?
links? s d = below SLOTS (λ j. given (true? (row_at s j).live) (d j))

-- the same record in the order of a decision
unfoldable pub sound? : (s : State) → Dec (Sound s)
unfolding same both given eq? le? lt? true? false? seq? seqs? here? by? below packets? links?
sound? s =
    same
    (both (packets? s (λ i. seq? (packet_at s i).seq (seq_of (plus (first_of s.tx) i))))
    (both (given (lt? 0 s.tx.txed_count) (false? (is_received (packet_at s 0).status)))
    (both (packets? s (λ i. here? s (packet_at s i).status))
    (both (seqs? (queue s.tx) (queued_of (packets s.tx)))
    (both (links? s (λ j. eq? (row_at s j).txed_unacked_data (sum_of (SentOn j) (packets s.tx))))
    (both (eq? s.tx.txed_unacked (sum_of Outstanding (packets s.tx)))
    (both (eq? s.tx.txed_unconsumable (sum_of Settled (packets s.tx)))
    (both (le? s.rx.rxed_reliable_size s.rx.recv_buffer)
    (both (links? s (λ i. links? s (λ j. given (eq? (row_at s i).link_id (row_at s j).link_id) (eq? i j))))
    (both (le? (expected_at s.rx) (in_use s.rx))
    (both (le? (in_use s.rx) s.rx.cells)
    (both (packets? s (λ i. by? s.time (packet_at s i).status))
    (both (links? s (λ j. true? (ping_within (row_at s j).current_ping_sent s.time)))
    (both (le? s.tx.txed_count PACKETS)
    (both (le? s.tx.resend_count PACKETS)
    (both (links? s (λ j. le? (row_at s j).ack_count ACKS))
    (both (packets? s (λ i. true? (length_ok (packet_at s i).msg (packet_at s i).len)))
    (both (true? (is_cell_count s.rx.cells))
    (both (le? 1 s.rx.recv_buffer)
    (both (le? s.rx.recv_buffer (s.rx.cells * DATA_BYTES))
    (both (le? s.time MAX_TIME)
    (both (links? s (λ j. le? (row_at s j).roundtrip MAX_TIME))
    (links? s (λ j. true? (max_ping_within (row_at s j).max_ping)))))))))))))))))))))))))
    (λ t. record {
      consecutive = t.0;
      first = t.1.0;
      sent = t.1.1.0;
      queued = t.1.1.1.0;
      link-unacked = t.1.1.1.1.0;
      unacked = t.1.1.1.1.1.0;
      unconsumable = t.1.1.1.1.1.1.0;
      untaken-within = t.1.1.1.1.1.1.1.0;
      identities = λ i j hi hj li lj. t.1.1.1.1.1.1.1.1.0 i hi li j hj lj;
      near = t.1.1.1.1.1.1.1.1.1.0;
      used = t.1.1.1.1.1.1.1.1.1.1.0;
      sent-by = t.1.1.1.1.1.1.1.1.1.1.1.0;
      pinged-by = t.1.1.1.1.1.1.1.1.1.1.1.1.0;
      packet-count = t.1.1.1.1.1.1.1.1.1.1.1.1.1.0;
      queue-count = t.1.1.1.1.1.1.1.1.1.1.1.1.1.1.0;
      ack-count = t.1.1.1.1.1.1.1.1.1.1.1.1.1.1.1.0;
      packet-length = t.1.1.1.1.1.1.1.1.1.1.1.1.1.1.1.1.0;
      cell-count = t.1.1.1.1.1.1.1.1.1.1.1.1.1.1.1.1.1.0;
      buffer-set = t.1.1.1.1.1.1.1.1.1.1.1.1.1.1.1.1.1.1.0;
      buffer-within = t.1.1.1.1.1.1.1.1.1.1.1.1.1.1.1.1.1.1.1.0;
      time-within = t.1.1.1.1.1.1.1.1.1.1.1.1.1.1.1.1.1.1.1.1.0;
      trip-within = t.1.1.1.1.1.1.1.1.1.1.1.1.1.1.1.1.1.1.1.1.1.0;
      max-ping-within = t.1.1.1.1.1.1.1.1.1.1.1.1.1.1.1.1.1.1.1.1.1.1;
    })
    (λ h. (h.consecutive, (h.first, (h.sent, (h.queued, (h.link-unacked, (h.unacked, (h.unconsumable, (h.untaken-within, (λ i hi li j hj lj. h.identities i j hi hj li lj, (h.near, (h.used, (h.sent-by, (h.pinged-by, (h.packet-count, (h.queue-count, (h.ack-count, (h.packet-length, (h.cell-count, (h.buffer-set, (h.buffer-within, (h.time-within, (h.trip-within, h.max-ping-within)))))))))))))))))))))))

-- of the last place below n, if it is not below m
unfoldable last? : (m n : ℕ) {P : ℕ → Type 0} → ((k : ℕ) → Dec (P k)) → Dec ((k : ℕ) → m ≤ k → suc k ≡ n → P k)
unfolding same given le?
last? m zero d = yes (λ k l e. absurd (omega arith))
last? m (suc n) d = same (given (le? m n) (d n)) (λ f k l e. let q : n ≡ k = omega arith in rw (← q) (f (omega arith))) (λ f l. f n l refl)

-- .. and that of the records
unfoldable pub records? : (t : RxTable) → Dec (SoundRecords t)
unfolding same both given eq? lt? true? nothing? ready? within? below last?
records? t =
    same
    (both (eq? (length t.records) t.rx.cells)
    (both (eq? t.rx.rxed_reliable_size (bytes_in (cell_view t.rx.cells t)))
    (both (below (expected_at t.rx) (λ k. ready? (cell_at t k)))
    (both (given (lt? 0 (expected_at t.rx)) (true? (is_full (cell_at t 0))))
    (both (nothing? (cell_at t (expected_at t.rx)))
    (both (last? (expected_at t.rx) (in_use t.rx) (λ k. true? (is_full (cell_at t k))))
    (both (below (in_use t.rx) (λ k. within? (cell_at t k)))
    (below (in_use t.rx) (λ k. true? (is_record (slice_index (record_view t.rx.cells t) k)))))))))))
    (λ f. record {
      long = f.0;
      untaken = f.1.0;
      ready = f.1.1.0;
      oldest = f.1.1.1.0;
      held = f.1.1.1.1.0;
      newest = f.1.1.1.1.1.0;
      cell-length = f.1.1.1.1.1.1.0;
      recorded = f.1.1.1.1.1.1.1;
    })
    (λ h. (h.long, (h.untaken, (h.ready, (h.oldest, (h.held, (h.newest, (h.cell-length, h.recorded))))))))

abbrev yes? : {A : Type 0} → Dec A → Bool
yes? (yes a) = true
yes? (no n) = false

-- not "the state handed in is not sound" (1)
unfoldable pub soundb : State → Bool
unfolding sound?
soundb s = yes? (sound? s)

unfoldable pub recordsb : RxTable → Bool
unfolding records?
recordsb t = yes? (records? t)

-- .. with the records that a call uses
unfoldable pub sound_withb : State → List ℕ → Bool
sound_withb s records = soundb s && recordsb (table_of s.rx records)

-- ---- laws

yes_true : {A : Type 0} (d : Dec A) → yes? d ≡ true → A
yes_true (yes a) e = a
yes_true (no n) e = false-true e

true-yes : {A : Type 0} (d : Dec A) → A → yes? d ≡ true
true-yes (yes a) h = refl
true-yes (no n) h = absurd (n h)

pub sound : (s : State) → soundb s ≡ true → Sound s
unfolding soundb
sound s e = yes_true (sound? s) e

pub sound-true : (s : State) → Sound s → soundb s ≡ true
unfolding soundb
sound-true s h = true-yes (sound? s) h

pub records-sound : (t : RxTable) → recordsb t ≡ true → SoundRecords t
unfolding recordsb
records-sound t e = yes_true (records? t) e

pub records-true : (t : RxTable) → SoundRecords t → recordsb t ≡ true
unfolding recordsb
records-true t h = true-yes (records? t) h

-- .. which asks for a record for each cell
pub records-unlike : (t : RxTable) → (length t.records ≢ t.rx.cells) → recordsb t ≡ false
records-unlike t n = cases (recordsb t) (λ e. absurd (n (records-sound t e).long)) (λ e. e)
