-- What the passes over the links find, in the words of Sound. Assumes nothing.
use Rattle.std.specs.Prelude.{◌≡◌, ℕ, zero, suc, ◌+◌, ◌^◌, ◌<◌, ◌≤◌, Bool, true, false, cond, ◌&&◌, List, get_or, ◌==◌, ◌≢◌, nat_le, nat_lt, slice_index, slice_index_or}
use Rattle.std.proofs.Math.Path.{refl, sym, ap}
use Rattle.std.proofs.Common.{◌∙◌, arith}
use Rattle.std.proofs.Math.Decide.{ℕ_discrete}
use borrow.Author.Tests.{ltb-true, leb-true, eqb-true, lt-ltb, le-leb, eq-eqb}
use borrow.Table.Steps.{cases}
use Rattle.seq.specs.Numbers.{plus}
use Rattle.msg.specs.declared.reliable.ReliableMsg.{ReliableMsg}
use Rattle.link.specs.declared.row.LinkRow.{LinkRow}
use Rattle.link.specs.Sizes.{max_ping_within, ping_within, row_within, MAX_TIME, ACKS}
use Rattle.link.specs.Row.{no_row}
use Rattle.engine.specs.declared.state.State.{State}
use Rattle.engine.specs.declared.roster.Roster.{Roster}
use Rattle.engine.specs.Packets.{is_data}
use Rattle.engine.specs.Roster.{roster_of, lives_in, lives_before}
use Rattle.engine.specs.Tally.{length_ok}
use Rattle.engine.specs.Found.{row_ok, rows_from, distinct_below}
use Rattle.engine.specs.Sound.{row_at}
use Rattle.engine.specs.Sizes.{SLOTS, DATA_BYTES}
use Rattle.refusal.specs.Tests.{false-true, split, join}

-- ---- the roster

-- the roster holds each row's flag and identity
pub roster-at : (links : List LinkRow) (j : ℕ) → j < SLOTS
    → (slice_index_or (roster_of links).live j false ≡ (get_or links j no_row).live) × (slice_index (roster_of links).ids j ≡ (get_or links j no_row).link_id)
unfolding roster_of
roster-at links zero h = (refl, refl)
roster-at links (suc zero) h = (refl, refl)
roster-at links (suc (suc zero)) h = (refl, refl)
roster-at links (suc (suc (suc zero))) h = (refl, refl)
roster-at links (suc (suc (suc (suc zero)))) h = (refl, refl)
roster-at links (suc (suc (suc (suc (suc zero))))) h = (refl, refl)
roster-at links (suc (suc (suc (suc (suc (suc zero)))))) h = (refl, refl)
roster-at links (suc (suc (suc (suc (suc (suc (suc zero))))))) h = (refl, refl)
roster-at links (suc (suc (suc (suc (suc (suc (suc (suc j)))))))) h = absurd (omega arith)

-- a slot holds a live link with the identity: the test and the fact
pub lives-here : (s : State) (slot id : ℕ) → lives_in (roster_of s.links) slot id ≡ true
    → (slot < SLOTS) × ((row_at s slot).live ≡ true) × ((row_at s slot).link_id ≡ id)
unfolding lives_in
lives-here s slot id e =
    let r = roster_of s.links in
    let e1 = split (nat_lt slot SLOTS) (slice_index_or r.live slot false && slice_index r.ids slot == id) e in
    let e2 = split (slice_index_or r.live slot false) (slice_index r.ids slot == id) e1.1 in
    let small : slot < SLOTS = ltb-true slot SLOTS e1.0 in
    let at = roster-at s.links slot small in
    (small, sym at.0 ∙ e2.0, sym at.1 ∙ eqb-true (slice_index r.ids slot) id e2.1)

-- .. and back
pub here-lives : (s : State) (slot id : ℕ) → slot < SLOTS → (row_at s slot).live ≡ true → (row_at s slot).link_id ≡ id
    → lives_in (roster_of s.links) slot id ≡ true
unfolding lives_in
here-lives s slot id h l i =
    let at = roster-at s.links slot h in
    join (lt-ltb slot SLOTS h) (join (at.0 ∙ l) (eq-eqb (slice_index (roster_of s.links).ids slot) id (at.1 ∙ i)))

-- one of the first n slots holds the identity: the test and the slot
lives-before : (r : Roster) (id n i : ℕ) → i < n → lives_in r i id ≡ true → lives_before r n id ≡ true
unfolding lives_before
lives-before r id zero i h e = absurd (omega arith)
lives-before r id (suc n) i h e =
    cases (lives_in r n id) (λ t. simp t)
    (λ t. elim (ℕ_discrete i n) [
      | yes q ↦ false-true (sym t ∙ ap (λ k. lives_in r k id) (sym q) ∙ e)
      | no ne ↦ simp t (lives-before r id n i (omega arith) e)
    ])

-- .. and back
lives-found : (r : Roster) (id n : ℕ) → lives_before r n id ≡ true → (i : ℕ) × (i < n) × (lives_in r i id ≡ true)
unfolding lives_before
lives-found r id zero e = false-true e
lives-found r id (suc n) e =
    cases (lives_in r n id) (λ t. (n, omega arith, t))
    (λ t. let f = lives-found r id n (simp t at e) in (f.0, omega (arith, f.1), f.2))

-- a branch that is not taken
cond-false : (b c : Bool) → cond b false c ≡ true → (b ≡ false) × (c ≡ true)
cond-false true c e = false-true e
cond-false false c e = (refl, e)

-- no two of the first n slots hold live links of one identity: the test and the fact
module _ (s : State) where
  pub distinct_apart : (n : ℕ) → n ≤ SLOTS → distinct_below (roster_of s.links) n ≡ true → (i j : ℕ) → i < j → j < n
      → (row_at s i).live ≡ true → (row_at s j).live ≡ true → (row_at s i).link_id ≢ (row_at s j).link_id
  unfolding distinct_below
  distinct_apart zero w e i j h g li lj same = absurd (omega arith)
  distinct_apart (suc n) w e i j h g li lj same =
      let r = roster_of s.links in
      let c = cond-false (slice_index_or r.live n false && lives_before r n (slice_index r.ids n)) (distinct_below r n) e in
      elim (ℕ_discrete j n) [
        | yes q ↦
            let at = roster-at s.links n (omega arith) in
            let ln : get_or r.live n false ≡ true = at.0 ∙ rw (← q) lj in
            let id : (row_at s i).link_id ≡ get_or r.ids n 0 = same ∙ ap (λ k. (row_at s k).link_id) q ∙ sym at.1 in
            let b : lives_before r n (slice_index r.ids n) ≡ true =
            lives-before r (slice_index r.ids n) n i (omega arith) (here-lives s i (slice_index r.ids n) (omega arith) li id) in
            false-true (sym c.0 ∙ join ln b)
        | no ne ↦ distinct_apart n (omega arith) c.1 i j h (omega arith) li lj same
      ]

  -- .. and back
  pub apart_distinct : (n : ℕ) → n ≤ SLOTS
      → ((i j : ℕ) → i < j → j < n → (row_at s i).live ≡ true → (row_at s j).live ≡ true → (row_at s i).link_id ≢ (row_at s j).link_id)
      → distinct_below (roster_of s.links) n ≡ true
  unfolding distinct_below
  apart_distinct zero w f = refl
  apart_distinct (suc n) w f =
      let r = roster_of s.links in
      cases (slice_index_or r.live n false && lives_before r n (slice_index r.ids n))
      (λ t.
      let at = roster-at s.links n (omega arith) in
      let both = split (slice_index_or r.live n false) (lives_before r n (slice_index r.ids n)) t in
      let found = lives-found r (slice_index r.ids n) n both.1 in
      let it = lives-here s found.0 (slice_index r.ids n) found.2 in
      absurd (f found.0 n found.1 (omega arith) it.1 (sym at.0 ∙ both.0) (it.2 ∙ at.1)))
      (λ t. simp t (apart_distinct n (omega arith) (λ i j h g. f i j h (omega arith))))

-- ---- the rows

-- n rows from the slot j on are as the test asks: the test and the fact
module _ (links : List LinkRow) (on : List ℕ) (time : ℕ) where
  pub rows-each : (j n : ℕ) → rows_from links on time j n ≡ true → (i : ℕ) → j ≤ i → i < j + n → row_ok (slice_index_or links i no_row) (slice_index on i) time ≡ true
  unfolding rows_from
  rows-each j zero e i h g = absurd (omega arith)
  rows-each j (suc n) e i h g =
      let both = split (row_ok (slice_index_or links j no_row) (slice_index on j) time) (rows_from links on time (j + 1) n) e in
      elim (ℕ_discrete j i) [
        | yes q ↦ rw (← q) both.0
        | no ne ↦ rows-each (j + 1) n both.1 i (omega arith) (omega arith)
      ]

  -- .. and back
  pub rows_all : (j n : ℕ) → ((i : ℕ) → j ≤ i → i < j + n → row_ok (slice_index_or links i no_row) (slice_index on i) time ≡ true) → rows_from links on time j n ≡ true
  unfolding rows_from
  rows_all j zero f = refl
  rows_all j (suc n) f = join (f j (omega arith) (omega arith)) (rows_all (j + 1) n (λ i h g. f i (omega arith) (omega arith)))

-- a row is as Sound asks, where `sum` is its Sent data
pub record RowFine (row : LinkRow) (sum time : ℕ) : Type 0 where
  pub sums : row.txed_unacked_data ≡ sum
  pub trip : row.roundtrip ≤ MAX_TIME
  pub limit : max_ping_within row.max_ping ≡ true
  pub pinged : ping_within row.current_ping_sent time ≡ true
  pub acks : row.ack_count ≤ ACKS

-- the test of a live row says that
module _ (row : LinkRow) (sum time : ℕ) where
  pub row_fine : row_ok row sum time ≡ true → row.live ≡ true → RowFine row sum time
  unfolding row_ok row_within
  row_fine e l =
      let p = ping_within row.current_ping_sent time in
      let e1 = split (row.txed_unacked_data == sum) (row_within row time) (simp l at e) in
      let e2 = split (nat_le row.roundtrip MAX_TIME) (max_ping_within row.max_ping && (p && nat_le row.ack_count ACKS)) e1.1 in
      let e3 = split (max_ping_within row.max_ping) (p && nat_le row.ack_count ACKS) e2.1 in
      let e4 = split p (nat_le row.ack_count ACKS) e3.1 in
      record {
        sums = eqb-true row.txed_unacked_data sum e1.0;
        trip = leb-true row.roundtrip MAX_TIME e2.0;
        limit = e3.0;
        pinged = e4.0;
        acks = leb-true row.ack_count ACKS e4.1;
      }

  -- .. and back
  pub fine-row : (row.live ≡ true → RowFine row sum time) → row_ok row sum time ≡ true
  unfolding row_ok row_within
  fine-row g =
      cases row.live
      (λ l.
      let f = g l in
      simp l (join (eq-eqb row.txed_unacked_data sum f.sums)
      (join (le-leb row.roundtrip MAX_TIME f.trip) (join f.limit (join f.pinged (le-leb row.ack_count ACKS f.acks))))))
      (λ l. simp l)

-- ---- lengths

-- what the test of a length says: at most 1,024 bytes
pub length-le : (msg : ReliableMsg) (len : ℕ) → length_ok msg len ≡ true → len ≤ DATA_BYTES
unfolding length_ok
length-le msg len e =
    cases (len == 0) (λ t. omega (arith, eqb-true len 0 t))
    (λ t. leb-true len DATA_BYTES (split (nat_le len DATA_BYTES) (is_data msg) (simp t at e)).0)

-- a message without data has no bytes
pub length_none : (msg : ReliableMsg) (len : ℕ) → is_data msg ≡ false → length_ok msg len ≡ true → len ≡ 0
unfolding length_ok
length_none msg len n e =
    cases (len == 0) (λ t. eqb-true len 0 t) (λ t. false-true (sym n ∙ (split (nat_le len DATA_BYTES) (is_data msg) (simp t at e)).1))

-- ---- sums that go round

-- nothing is added, and something is added to nothing
pub plus-zero : (a : ℕ) → a < 2 ^ 32 → plus a 0 ≡ a
unfolding plus
plus-zero a h = omega arith

pub zero-plus : (a : ℕ) → a < 2 ^ 32 → plus 0 a ≡ a
unfolding plus
zero-plus a h = omega arith
