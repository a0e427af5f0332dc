-- One row of the links is replaced: what Sound asks of the rows, and of the packets that name them, is kept. Assumes nothing.
use Rattle.std.specs.Prelude.{◌≡◌, refl, Bool, true, false, List, [], ◌∷◌, ℕ, suc, ◌^◌, ◌≤◌, ◌<◌, length, get_or, set, Some, None, Option}
use Rattle.std.proofs.Common.{sym, ap, ◌∙◌, arith, length-set, get_or-set_same, get_or-set_other, leb-true, le-leb, ne_eqb}
use Rattle.std.proofs.Math.Decide.{ℕ_discrete}
use Rattle.link.specs.declared.row.LinkRow.{LinkRow}
use Rattle.link.specs.Sizes.{ping_within, MAX_TIME, ACKS}
use Rattle.link.specs.Row.{no_row}
use Rattle.engine.specs.declared.state.SentReliableStatus.{SentReliableStatus}
use Rattle.engine.specs.declared.state.SentReliableStatus.TheVariants.{Sent, Received, ResendQueued}
use Rattle.engine.specs.declared.state.SentReliable.{SentReliable}
use Rattle.engine.specs.declared.state.State.{State}
use Rattle.engine.specs.Packets.{no_packet, packets, SentOn, weight_as, sum_of}
use Rattle.engine.specs.DecidedTables.{RowFine}
use Rattle.engine.specs.Rows.{row_of, row-of}
use Rattle.engine.specs.Sound.{Sound, Shaped, row_at, packet_at, SentHere, SentBy, FlushedBy}
use Rattle.engine.specs.Fields.{with_row, with_time, with_parts, with_reader}
use Rattle.engine.specs.Sizes.{SLOTS}
use Rattle.refusal.specs.Tests.{false-true}

-- every live row is as Sound asks of it by itself, where `sums j` is the Sent data of slot j
abbrev pub RowsFine : List LinkRow → (ℕ → ℕ) → ℕ → Type 0
RowsFine links sums time = (j : ℕ) → j < SLOTS → (get_or links j no_row).live ≡ true → RowFine (get_or links j no_row) (sums j) time

-- what the types say of the rows: there are 8, and each has 64 places for waiting acks
pub record LinksShaped (links : List LinkRow) : Type 0 where
  pub full : length links ≡ SLOTS
  pub queues : (j : ℕ) → j < SLOTS → length (get_or links j no_row).tx_ack_queue ≡ ACKS

-- "no identity lives twice"
abbrev pub Apart : List LinkRow → Type 0
Apart links =
    (i j : ℕ) → i < SLOTS → j < SLOTS → (get_or links i no_row).live ≡ true → (get_or links j no_row).live ≡ true
    → (get_or links i no_row).link_id ≡ (get_or links j no_row).link_id → i ≡ j

-- a packet that is not Sent on a slot
abbrev pub Elsewhere : ℕ → SentReliableStatus → Type 0
Elsewhere slot (Sent flight) = flight.slot ≡ slot → ⊥
Elsewhere slot Received = Unit
Elsewhere slot (ResendQueued link) = Unit

-- ---- the rows of a sound state

pub rows_of : (s : State) → Sound s → RowsFine s.links (λ j. sum_of (SentOn j) (packets s.tx)) s.time
rows_of s sound j h l = record {
  sums = sound.link-unacked j h l;
  trip = sound.trip-within j h l;
  limit = sound.max-ping-within j h l;
  pinged = sound.pinged-by j h l;
  acks = sound.ack-count j h l;
}

pub own_row : (s : State) → Sound s → (j : ℕ) → j < SLOTS → (row_at s j).live ≡ true → RowFine (row_at s j) (row_at s j).txed_unacked_data s.time
own_row s sound j h l = let f = rows_of s sound j h l in record { sums = refl; trip = f.trip; limit = f.limit; pinged = f.pinged; acks = f.acks }

-- no packet is Sent on a slot without a link ..
pub dead-elsewhere : (s : State) (slot : ℕ) → (row_at s slot).live ≡ false → (st : SentReliableStatus) → SentHere s st → Elsewhere slot st
dead-elsewhere s slot dead (Sent flight) h = λ e. false-true (sym dead ∙ ap (λ k. (row_at s k).live) (sym e) ∙ h.1)
dead-elsewhere s slot dead Received h = tt
dead-elsewhere s slot dead (ResendQueued link) h = tt

-- .. and where none is, no byte is unacked
weight-elsewhere : (slot len : ℕ) (st : SentReliableStatus) → Elsewhere slot st → weight_as (SentOn slot) st len ≡ 0
weight-elsewhere slot len (Sent flight) h = simp (ne_eqb flight.slot slot h)
weight-elsewhere slot len Received h = refl
weight-elsewhere slot len (ResendQueued link) h = refl

pub sum-elsewhere : (slot : ℕ) (ps : List SentReliable) → ((i : ℕ) → i < length ps → Elsewhere slot (get_or ps i no_packet).status) → sum_of (SentOn slot) ps ≡ 0
unfolding sum_of
sum-elsewhere slot [] f = refl
sum-elsewhere slot (p ∷ ps) f =
    omega (arith, weight-elsewhere slot p.len p.status (f 0 (omega arith)), sum-elsewhere slot ps (λ i h. f (suc i) (omega arith)))

-- ---- a later time

pub ping-later : (p : Option ℕ) (time later : ℕ) → time ≤ later → ping_within p time ≡ true → ping_within p later ≡ true
ping-later None time later h e = refl
ping-later (Some since) time later h e = le-leb since later (omega (arith, leb-true since time e))

pub row-later : (row : LinkRow) (sum time later : ℕ) → time ≤ later → RowFine row sum time → RowFine row sum later
row-later row sum time later h f = record {
  sums = f.sums;
  trip = f.trip;
  limit = f.limit;
  pinged = ping-later row.current_ping_sent time later h f.pinged;
  acks = f.acks;
}

flushed-later : (f : Option ℕ) (time later : ℕ) → time ≤ later → FlushedBy time f → FlushedBy later f
flushed-later None time later h e = tt
flushed-later (Some at) time later h e = omega arith

pub sent-later : (st : SentReliableStatus) (time later : ℕ) → time ≤ later → SentBy time st → SentBy later st
sent-later (Sent flight) time later h e = (omega (arith, e.0), flushed-later flight.flushed time later h e.1)
sent-later Received time later h e = tt
sent-later (ResendQueued link) time later h e = tt

-- ---- one row replaced

module _ (links : List LinkRow) (slot : ℕ) (row : LinkRow) where
  -- the rows afterwards: the new one in its slot, and every other as it was
  pub row_here : slot < length links → get_or (set links slot row) slot no_row ≡ row
  row_here h = get_or-set_same links slot row no_row h

  pub row-there : (j : ℕ) → (j ≡ slot → ⊥) → get_or (set links slot row) j no_row ≡ get_or links j no_row
  row-there j ne = get_or-set_other links slot j row no_row ne

  -- what holds of the new row and of every other, holds of each
  pub each_row : (P : ℕ → LinkRow → Type 0) → slot < length links → P slot row → ((j : ℕ) → j < SLOTS → (j ≡ slot → ⊥) → P j (get_or links j no_row))
      → (j : ℕ) → j < SLOTS → P j (get_or (set links slot row) j no_row)
  each_row P h new old j l =
      elim (ℕ_discrete j slot) [
        | yes e ↦ rw e (rw (row_here h) new)
        | no ne ↦ rw (row-there j ne) (old j l ne)
      ]

  -- the new row is as Sound asks, and the Sent data of every other slot is as it was
  pub rows-set : (sums after : ℕ → ℕ) (time later : ℕ) → slot < length links → time ≤ later → RowsFine links sums time → (row.live ≡ true → RowFine row (after slot) later)
      → ((j : ℕ) → j < SLOTS → (j ≡ slot → ⊥) → after j ≡ sums j) → RowsFine (set links slot row) after later
  rows-set sums after time later h later-on fine new same =
      each_row (λ j r. r.live ≡ true → RowFine r (after j) later) h new
      (λ j l ne lives. rw (same j l ne) (row-later (get_or links j no_row) (sums j) time later later-on (fine j l lives)))

  -- a row that is live has an identity that lives in no other slot
  pub apart-set : slot < length links → Apart links
      → ((j : ℕ) → j < SLOTS → (j ≡ slot → ⊥) → row.live ≡ true → (get_or links j no_row).live ≡ true → (get_or links j no_row).link_id ≡ row.link_id → ⊥)
      → Apart (set links slot row)
  apart-set h apart alone i j hi hj li lj same =
      elim (ℕ_discrete i slot) [
        | yes e ↦ elim (ℕ_discrete j slot) [
          | yes f ↦ e ∙ sym f
          | no nf ↦
              let there = row-there j nf in
              let here : get_or (set links slot row) i no_row ≡ row = ap (λ k. get_or (set links slot row) k no_row) e ∙ row_here h in
              absurd (alone j hj nf (ap (λ r. r.live) (sym here) ∙ li) (ap (λ r. r.live) (sym there) ∙ lj)
              (ap (λ r. r.link_id) (sym there) ∙ sym same ∙ ap (λ r. r.link_id) here))
        ]
        | no ne ↦ elim (ℕ_discrete j slot) [
          | yes f ↦
              let there = row-there i ne in
              let here : get_or (set links slot row) j no_row ≡ row = ap (λ k. get_or (set links slot row) k no_row) f ∙ row_here h in
              absurd (alone i hi ne (ap (λ r. r.live) (sym here) ∙ lj) (ap (λ r. r.live) (sym there) ∙ li)
              (ap (λ r. r.link_id) (sym there) ∙ same ∙ ap (λ r. r.link_id) here))
          | no nf ↦
              let a = row-there i ne in
              let b = row-there j nf in
              apart i j hi hj (ap (λ r. r.live) (sym a) ∙ li) (ap (λ r. r.live) (sym b) ∙ lj)
              (ap (λ r. r.link_id) (sym a) ∙ same ∙ ap (λ r. r.link_id) b)
        ]
      ]

  -- .. as it has where the row keeps who lives there ..
  pub apart-kept : slot < length links → slot < SLOTS → row.live ≡ (get_or links slot no_row).live → row.link_id ≡ (get_or links slot no_row).link_id
      → Apart links → Apart (set links slot row)
  apart-kept h small live id apart =
      apart-set h apart (λ j l ne lives lj same. ne (apart j slot l small lj (sym live ∙ lives) (same ∙ id)))

  -- .. or nobody does
  pub apart-emptied : slot < length links → row.live ≡ false → Apart links → Apart (set links slot row)
  apart-emptied h dead apart = apart-set h apart (λ j l ne lives. false-true (sym dead ∙ lives))

-- ---- the packets that name a slot

-- who lives where a packet was Sent, still lives there
pub here-kept : (s t : State) (st : SentReliableStatus)
    → ((j : ℕ) → j < SLOTS → (row_at s j).live ≡ true → ((row_at t j).live ≡ true) × ((row_at t j).link_id ≡ (row_at s j).link_id))
    → SentHere s st → SentHere t st
here-kept s t (Sent flight) f h = (h.0, (f flight.slot h.0 h.1).0, (f flight.slot h.0 h.1).1 ∙ h.2)
here-kept s t Received f h = tt
here-kept s t (ResendQueued link) f h = tt

module _ (s t : State) (slot : ℕ) (row : LinkRow) (at : t.links ≡ set s.links slot row) (small : slot < length s.links) where
  -- the row keeps who lives there
  pub here-same : row.live ≡ (row_at s slot).live → row.link_id ≡ (row_at s slot).link_id → (st : SentReliableStatus) → SentHere s st → SentHere t st
  here-same live id st =
      here-kept s t st
      (λ j l lj. rw at (each_row s.links slot row (λ k r. k ≡ j → (r.live ≡ true) × (r.link_id ≡ (row_at s j).link_id)) small
      (λ e. (live ∙ ap (λ k. (row_at s k).live) e ∙ lj, id ∙ ap (λ k. (row_at s k).link_id) e))
      (λ k lk ne e. (ap (λ i. (row_at s i).live) e ∙ lj, ap (λ i. (row_at s i).link_id) e)) j l refl))

  -- nobody lived there
  pub here-added : (row_at s slot).live ≡ false → (st : SentReliableStatus) → SentHere s st → SentHere t st
  here-added dead st =
      here-kept s t st
      (λ j l lj.
      let ne : j ≡ slot → ⊥ = λ e. false-true (sym dead ∙ ap (λ k. (row_at s k).live) (sym e) ∙ lj) in
      rw at (rw (row-there s.links slot row j ne) (lj, refl)))

  -- the packet is not Sent there
  pub here-elsewhere : (st : SentReliableStatus) → Elsewhere slot st → SentHere s st → SentHere t st
  here-elsewhere (Sent flight) ne h = (h.0, rw at (rw (row-there s.links slot row flight.slot ne) h.1), rw at (rw (row-there s.links slot row flight.slot ne) h.2))
  here-elsewhere Received ne h = tt
  here-elsewhere (ResendQueued link) ne h = tt

-- ---- the whole state

-- other rows, another time and a reader that is open or not, and both halves as they were
abbrev pub with_links : State → List LinkRow → ℕ → Bool → State
with_links s links time reads = with_reader (with_parts s links s.tx s.rx time) reads

-- one row is replaced by another with as many places for acks
pub links-set : (s : State) (slot : ℕ) (row : LinkRow) → Shaped s → length row.tx_ack_queue ≡ ACKS → LinksShaped (set s.links slot row)
links-set s slot row shaped full = record {
  full = length-set s.links slot row ∙ shaped.links-full;
  queues = λ j l. elim (ℕ_discrete j slot) [
    | yes e ↦ rw e (rw (row_here s.links slot row (omega (arith, shaped.links-full))) full)
    | no ne ↦ rw (row-there s.links slot row j ne) (shaped.queues j l)
  ];
}

module _ (s : State) (links : List LinkRow) (time : ℕ) (reads : Bool) where
  pub links-shaped : LinksShaped links → time < 2 ^ 64 → Shaped s → Shaped (with_links s links time reads)
  links-shaped rows timed shaped = record {
    links-full = rows.full;
    queues = rows.queues;
    packets-full = shaped.packets-full;
    queue-full = shaped.queue-full;
    next-u32 = shaped.next-u32;
    expected-u32 = shaped.expected-u32;
    oldest-u32 = shaped.oldest-u32;
    count-usize = shaped.count-usize;
    queue-usize = shaped.queue-usize;
    unacked-u32 = shaped.unacked-u32;
    unconsumed-u32 = shaped.unconsumed-u32;
    unconsumable-u32 = shaped.unconsumable-u32;
    last-u32 = shaped.last-u32;
    size-u32 = shaped.size-u32;
    untold-u32 = shaped.untold-u32;
    buffer-u32 = shaped.buffer-u32;
    cells-u32 = shaped.cells-u32;
    end-u32 = shaped.end-u32;
    time-u64 = timed;
  }

  pub links-sound : Sound s → s.time ≤ time → time ≤ MAX_TIME → RowsFine links (λ j. sum_of (SentOn j) (packets s.tx)) time → Apart links
      → ((st : SentReliableStatus) → SentHere s st → SentHere (with_links s links time reads) st) → Sound (with_links s links time reads)
  links-sound sound later top fine apart here = record {
    consecutive = sound.consecutive;
    first = sound.first;
    sent = λ i h. here (packet_at s i).status (sound.sent i h);
    queued = sound.queued;
    link-unacked = λ j h l. (fine j h l).sums;
    unacked = sound.unacked;
    unconsumable = sound.unconsumable;
    untaken-within = sound.untaken-within;
    identities = apart;
    near = sound.near;
    used = sound.used;
    sent-by = λ i h. sent-later (packet_at s i).status s.time time later (sound.sent-by i h);
    pinged-by = λ j h l. (fine j h l).pinged;
    packet-count = sound.packet-count;
    queue-count = sound.queue-count;
    ack-count = λ j h l. (fine j h l).acks;
    packet-length = sound.packet-length;
    cell-count = sound.cell-count;
    buffer-set = sound.buffer-set;
    buffer-within = sound.buffer-within;
    time-within = top;
    trip-within = λ j h l. (fine j h l).trip;
    max-ping-within = λ j h l. (fine j h l).limit;
  }

-- one row changes, and perhaps the time: the row is as Sound asks, and keeps who lives there and the link's unacked bytes
module _ (s : State) (slot : ℕ) (row : LinkRow) (time : ℕ) (shaped : Shaped s) where
  pub row-shaped : length row.tx_ack_queue ≡ ACKS → time < 2 ^ 64 → Shaped (with_time (with_row s slot row) time)
  row-shaped full timed = links-shaped s (set s.links slot row) time s.read_open (links-set s slot row shaped full) timed shaped

  pub row-sound : Sound s → slot < SLOTS → (row_at s slot).live ≡ true → s.time ≤ time → time ≤ MAX_TIME → row.live ≡ (row_at s slot).live → row.link_id ≡ (row_at s slot).link_id
      → RowFine row (row_at s slot).txed_unacked_data time → Sound (with_time (with_row s slot row) time)
  row-sound sound small lives later top live id new =
      let inside : slot < length s.links = omega (arith, shaped.links-full) in
      let sums : ℕ → ℕ = λ j. sum_of (SentOn j) (packets s.tx) in
      let fits : RowFine row (sums slot) time = rw (sound.link-unacked slot small lives) at new in
      links-sound s (set s.links slot row) time s.read_open sound later top
      (rows-set s.links slot row sums sums s.time time inside later (rows_of s sound) (λ l. fits) (λ j l ne. refl))
      (apart-kept s.links slot row inside small live id sound.identities)
      (here-same s (with_time (with_row s slot row) time) slot row refl inside live id)

-- .. a change of the row that the slot has
pub row_kept : (s : State) (slot : ℕ) (f : LinkRow → LinkRow) (time : ℕ) → Shaped s → Sound s → slot < SLOTS → (row_at s slot).live ≡ true → s.time ≤ time → time ≤ MAX_TIME
    → ((r : LinkRow) → ((f r).live ≡ r.live) × ((f r).link_id ≡ r.link_id))
    → ((r : LinkRow) (sum : ℕ) → RowFine r sum time → RowFine (f r) sum time)
    → Sound (with_time (with_row s slot (f (row_of s slot))) time)
row_kept s slot f time shaped sound small lives later top who fine =
    let r = row_at s slot in
    rw (row-of s slot small)
    (row-sound s slot (f r) time shaped sound small lives later top (who r).0 (who r).1
    (fine r r.txed_unacked_data (row-later r r.txed_unacked_data s.time time later (own_row s sound slot small lives))))
