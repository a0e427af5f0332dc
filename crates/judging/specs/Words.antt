-- What the tests read of a state's words. Assumes nothing.
use Rattle.std.specs.Prelude.{◌≡◌, ℕ, ◌+◌, ◌<◌, ◌≤◌, Bool, true, false, ◌&&◌, List, length, ◌==◌, ◌≢◌, nat_eq, nat_le, slice_index, slice_index_or, refl, Some, None}
use Rattle.engine.specs.Held.{Held}
use Rattle.std.proofs.Common.{sym, ◌∙◌, arith}
use Rattle.std.proofs.Math.Path.{ap}
use borrow.Table.Steps.{cases}
use borrow.Author.Tests.{eqb-true, eqb-false, lt-ltb, le-leb, ne_eqb}
use Rattle.refusal.specs.Tests.{false-true, split, join, and-true-first}
use Rattle.seq.specs.declared.Seq.{Seq}
use Rattle.link.specs.declared.row.LinkRow.{LinkRow}
use Rattle.link.specs.Sizes.{row_within, MAX_TIME}
use Rattle.engine.specs.declared.packets.Tally.{Tally}
use Rattle.engine.specs.declared.state.Sending.{Sending}
use Rattle.engine.specs.declared.state.SentReliable.{SentReliable}
use Rattle.engine.specs.declared.state.SentReliableStatus.{SentReliableStatus}
use Rattle.engine.specs.declared.state.State.{State}
use Rattle.engine.specs.CellCount.{is_cell_count}
use Rattle.engine.specs.Decide.{soundb, sound}
use Rattle.engine.specs.DecidedTables.{roster-at}
use Rattle.engine.specs.Found.{first_ok, row_ok, rows_from, distinct_below, sendingb, receivingb, linksb, found_sound}
use Rattle.engine.specs.Packets.{no_packet, is_received}
use Rattle.engine.specs.Records.{held_of}
use Rattle.engine.specs.Roster.{roster_of, lives_in}
use Rattle.engine.specs.Sizes.{SLOTS, PACKETS}
use Rattle.engine.specs.Sound.{row_at}
use Rattle.engine.specs.Tally.{tally_of}
use Rattle.words.specs.Layout.{WORDS, row_start, packet_start}
use Rattle.words.specs.Meaning.{row_of, seq_word, status_of, packet_held, packet_of, rx_of, decoded, state_of}
use Rattle.words.specs.Parts.{part, part_at}
use Rattle.words.specs.Encoded.{bare}
use Rattle.words.specs.Read.{row_read, packet-read}

pub id-read : (w : List ℕ) → length w ≡ WORDS → (j : ℕ) → j < 8 → (row_at (state_of w) j).link_id ≡ slice_index w (row_start j + 1)
unfolding row_of
id-read w long j h = ap (λ (r : LinkRow). r.link_id) (row_read w long j h) ∙ part_at (row_start j) 14 1 w (omega arith)

-- a packet's status, by its tag
module _ (w : List ℕ) (long : length w ≡ WORDS) where
  received-tag : (xs : List ℕ) → is_received (status_of xs) ≡ (slice_index xs 2 == 3)
  unfolding status_of
  received-tag xs =
      let tag = slice_index_or xs 2 0 in
      cases (tag == 1) (λ t. simp (t, ne_eqb tag 3 (λ h. omega (arith, eqb-true tag 1 t))))
      (λ f1. cases (tag == 2) (λ t. simp (f1, t, ne_eqb tag 3 (λ h. omega (arith, eqb-true tag 2 t))))
      (λ f2. cases (tag == 3) (λ t. simp (f1, f2, t))
      (λ f3. cases (tag == 4) (λ t. simp (f1, f2, f3, t)) (λ f4. simp (f1, f2, f3, f4)))))

  held-status : (h : Held) (seq : Seq) (st : SentReliableStatus) → (packet_held h seq st).status ≡ st
  held-status None seq st = refl
  held-status (Some (msg, len)) seq st = refl

  pub tag_read : (k : ℕ) → k < 64 → is_received (slice_index_or (state_of w).tx.txed_packets k no_packet).status ≡ (slice_index w (packet_start k + 2) == 3)
  unfolding packet_of
  tag_read k h =
      let xs = part (packet_start k) 8 w in
      ap (λ (p : SentReliable). is_received p.status) (packet-read w long k h)
      ∙ ap is_received (held-status (held_of (slice_index xs 1)) (seq_word (slice_index xs 0)) (status_of xs))
      ∙ received-tag xs
      ∙ ap (λ n. nat_eq n 3) (part_at (packet_start k) 8 2 w (omega arith))

-- a slot's link, by its row
module _ (s : State) (slot id : ℕ) (h : slot < SLOTS) where
  lives-row : lives_in (roster_of s.links) slot id ≡ ((row_at s slot).live && (row_at s slot).link_id == id)
  unfolding lives_in
  lives-row =
      let r = roster-at s.links slot h in
      simp (lt-ltb slot SLOTS h) (λ i. r.0 i && r.1 i == id)

  pub lives-none : (row_at s slot).live ≡ false → lives_in (roster_of s.links) slot id ≡ false
  lives-none e = lives-row ∙ ap (λ b. b && (row_at s slot).link_id == id) e

  pub lives-some : (row_at s slot).live ≡ true → lives_in (roster_of s.links) slot id ≡ ((row_at s slot).link_id == id)
  lives-some e = lives-row ∙ ap (λ b. b && (row_at s slot).link_id == id) e

-- a row's acks are not looked at
pub bare-row : (r : LinkRow) (sum time : ℕ) → row_ok (bare r) sum time ≡ row_ok r sum time
unfolding row_ok row_within
bare-row r sum time = refl

-- words of another length than a state's say none that is sound
pub unlike-words : (w : List ℕ) → (length w ≢ WORDS) → soundb (state_of w) ≡ false
unfolding state_of decoded rx_of is_cell_count
unlike-words w ne =
    let none : is_cell_count (state_of w).rx.cells ≡ false = simp (ne_eqb (length w) WORDS ne) in
    cases (soundb (state_of w)) (λ e. false-true (sym none ∙ (sound (state_of w) e).cell-count)) (λ e. e)

-- .. so that words of a sound state have its length
pub sound-long : (w : List ℕ) → soundb (state_of w) ≡ true → length w ≡ WORDS
sound-long w e = cases (length w == WORDS) (λ t. eqb-true (length w) WORDS t) (λ f. false-true (sym (unlike-words w (eqb-false (length w) WORDS f)) ∙ e))

-- the sums of a tally are those that are said
abbrev pub sums_ok : Sending → Tally → Bool
sums_ok tx t =
    (t.queued == tx.resend_count && nat_le tx.resend_count PACKETS)
    && (t.unacked == tx.txed_unacked && t.unconsumable == tx.txed_unconsumable)

-- .. and the links are well with its sums by slot
abbrev pub links_ok : List LinkRow → List ℕ → ℕ → Bool
links_ok links on time = rows_from links on time 0 SLOTS && (distinct_below (roster_of links) SLOTS && nat_le time MAX_TIME)

abbrev tally_in : State → Tally
tally_in s = tally_of s.tx (roster_of s.links) s.time

-- what is found of a sound state
pub record Parts (s : State) : Type 0 where
  pub receiving : receivingb s.rx ≡ true
  pub first : first_ok s.tx ≡ true
  pub tally : (tally_in s).ok ≡ true
  pub sums : sums_ok s.tx (tally_in s) ≡ true

parts : (s : State) → found_sound s ≡ true → Parts s
unfolding found_sound sendingb linksb
parts s e =
    let a = split _ _ (split (nat_le s.tx.txed_count PACKETS) _ e).1 in
    let b = split _ _ a.0 in
    let d = split _ _ b.1 in
    record { receiving = (split _ _ a.1).0; first = d.0; tally = b.0; sums = d.1 }

-- a state of which one of them is not found is not sound
pub unsound : (s : State) (b : Bool) → (Parts s → b ≡ true) → b ≡ false → found_sound s ≡ false
unsound s b part e = cases (found_sound s) (λ t. false-true (sym e ∙ part (parts s t))) (λ t. t)

-- .. and where all of them are, the links decide
pub sound-links : (s : State) → s.tx.txed_count ≤ PACKETS → Parts s → found_sound s ≡ links_ok s.links (tally_in s).on s.time
unfolding found_sound sendingb linksb
sound-links s few p =
    and-true-first (le-leb _ _ few)
    ∙ and-true-first (join p.tally (join p.first p.sums))
    ∙ and-true-first p.receiving

-- a tally that is not well is that of no sound state
pub tally-spoilt : (s : State) → (tally_of s.tx (roster_of s.links) s.time).ok ≡ false → found_sound s ≡ false
unfolding found_sound sendingb
tally-spoilt s e = simp e (none (nat_le s.tx.txed_count PACKETS))
  where
    none : (b : Bool) → (b && false) ≡ false
    none true = refl
    none false = refl
