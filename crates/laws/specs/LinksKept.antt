-- Document 01: "Calls keep a sound state sound." The fresh state is sound, and confirm, block, mark, ping, pong and add keep a
-- sound state sound and a shaped one shaped. Assumes nothing.
use Rattle.std.specs.Prelude.{◌≡◌, refl, Bool, true, ◌&&◌, ℕ, ◌-◌, ◌*◌, ◌%◌, ◌^◌, ◌≤◌, ◌<◌, eqb, set, Some, None, Option, Ok}
use Rattle.seq.specs.declared.Seq.{Seq}
use Rattle.std.proofs.Math.Path.{sym, ap, subst}
use Rattle.std.proofs.Common.{◌∙◌, arith}
use Rattle.std.proofs.Math.Bool.{false}
use mathlib.Core.List.{List, map}
use Rattle.std.proofs.Math.Dec.{leb}
use Rattle.std.proofs.Math.ListN.{length, replicate, length-replicate, get_or-replicate}
use borrow.Author.Tests.{leb-true, le-leb, eqb-true}
use Rattle.seq.specs.Numbers.{seq_of, minus}
use Rattle.seq.specs.Laws.{minus-lt}
use Rattle.seq.specs.Distance.{past, past-ahead}
use Rattle.refusal.specs.Refusals.{refuse}
use Rattle.refusal.specs.Verdicts.{Verdict, gate-pass}
use Rattle.refusal.specs.Tests.{split, false-true}
use Rattle.link.specs.declared.row.LinkRow.{LinkRow}
use Rattle.link.specs.Fields.{with_flags}
use Rattle.link.specs.Sizes.{max_ping_within, ping_within, MAX_TIME}
use Rattle.link.specs.Row.{empty_row, fresh_row, confirmed, blocked_row, no_row}
use Rattle.link.specs.Limit.{marked_row}
use Rattle.link.specs.Roundtrip.{pinged, ponged, ponged_as}
use Rattle.engine.specs.declared.state.State.{State}
use Rattle.engine.specs.Ring.{window, window-length, window-none}
use Rattle.engine.specs.Packets.{no_packet, first_of, packets, SentOn, sum_of, queued_of}
use Rattle.engine.specs.Records.{held_of}
use Rattle.engine.specs.Received.{table_of, expected_at, in_use, bytes_in, view-none}
use Rattle.engine.specs.CellCount.{is_cell_count, cell-count}
use Rattle.engine.specs.Stores.{store_by}
use Rattle.engine.specs.DecidedTables.{RowFine}
use Rattle.engine.specs.Rows.{row_of}
use Rattle.engine.specs.Answer.{changed_by}
use Rattle.engine.specs.Gates.{AtSlot, AtTime}
use Rattle.engine.specs.Starting.{fresh_tx, fresh_rx, fresh_state, fresh_verdict, fresh_of, fresh_records}
use Rattle.engine.specs.Sound.{Sound, SoundRecords, Shaped, row_at, packet_at}
use Rattle.engine.specs.Links.{lowest_in, AddPassed, lowest-empty, taken-nowhere}
use Rattle.engine.specs.Sizes.{PACKETS, SLOTS, DATA_BYTES}
use Rattle.engine.specs.Fields.{with_row, with_time}
use Rattle.laws.specs.RowsKept.{dead-elsewhere, sum-elsewhere, rows_of, rows-set, apart-set, here-added, links-sound, row-shaped, row_kept}
use Rattle.laws.specs.RowAcks.{SameAcks, confirm-acks, block-acks, mark-acks, ping-acks, pong-acks, empty-full, fresh-full, same_full}
use Rattle.laws.specs.Good.{Good}

-- ---- plain changes of a row

-- a pong keeps who lives there, and its round trip is no longer than the time
ponged-who : (p : Option ℕ) (r : LinkRow) (time : ℕ) → ((ponged_as p r time).live ≡ r.live) × ((ponged_as p r time).link_id ≡ r.link_id)
unfolding ponged_as
ponged-who None r time = (refl, refl)
ponged-who (Some since) r time = (refl, refl)

ponged-fine : (p : Option ℕ) (r : LinkRow) (sum time : ℕ) → time ≤ MAX_TIME → RowFine r sum time → RowFine (ponged_as p r time) sum time
unfolding ponged_as
ponged-fine None r sum time top f = f
ponged-fine (Some since) r sum time top f = record { sums = f.sums; trip = omega arith; limit = f.limit; pinged = refl; acks = f.acks }

-- flags and mark are nothing that Sound asks of a row
flags-fine : (r : LinkRow) (b u : Bool) (sum time : ℕ) → RowFine r sum time → RowFine (with_flags r b u) sum time
flags-fine r b u sum time f = record { sums = f.sums; trip = f.trip; limit = f.limit; pinged = f.pinged; acks = f.acks }

mark-fine : (r : LinkRow) (m : Option Seq) (sum time : ℕ) → RowFine r sum time → RowFine (marked_row r m) sum time
unfolding marked_row
mark-fine r m sum time f = record { sums = f.sums; trip = f.trip; limit = f.limit; pinged = f.pinged; acks = f.acks }

-- a change of the slot's row that keeps who lives there and the places of its acks, at a time
module _ (s : State) (good : Good s) (slot : ℕ) where
  row-good : (f : LinkRow → LinkRow) (time : ℕ) → AtTime s slot time → ((r : LinkRow) → ((f r).live ≡ r.live) × ((f r).link_id ≡ r.link_id))
      → ((r : LinkRow) (sum : ℕ) → RowFine r sum time → RowFine (f r) sum time) → SameAcks (f (row_of s slot)) (row_of s slot) → Good (with_time (with_row s slot (f (row_of s slot))) time)
  row-good f time ok who fine same = record {
    shaped = row-shaped s slot (f (row_of s slot)) time good.shaped (same_full s slot good.shaped _ same) (omega (arith, ok.top));
    sound = row_kept s slot f time good.shaped good.sound ok.at.small ok.at.live ok.later ok.top who fine;
  }

  -- the last accepted time
  now : AtSlot s slot → AtTime s slot s.time
  now at = record { at = at; later = omega arith; top = at.fine.time-within }

  pub confirmed-good : AtSlot s slot → Good (with_row s slot (confirmed (row_of s slot)))
  unfolding confirmed
  confirmed-good at = row-good confirmed s.time (now at) (λ r. (refl, refl)) (λ r sum. flags-fine r r.blocked false sum s.time) (confirm-acks (row_of s slot))

  pub blocked-good : (blocked : Bool) → AtSlot s slot → Good (with_row s slot (blocked_row (row_of s slot) blocked))
  unfolding blocked_row
  blocked-good blocked at =
      row-good (λ r. blocked_row r blocked) s.time (now at) (λ r. (refl, refl)) (λ r sum. flags-fine r blocked r.unconfirmed sum s.time) (block-acks (row_of s slot) blocked)

  pub marked-good : (m : Option Seq) → AtSlot s slot → Good (with_row s slot (marked_row (row_of s slot) m))
  unfolding marked_row
  marked-good m at = row-good (λ r. marked_row r m) s.time (now at) (λ r. (refl, refl)) (λ r sum. mark-fine r m sum s.time) (mark-acks (row_of s slot) m)

  pub pinged-good : (time : ℕ) → AtTime s slot time → Good (with_time (with_row s slot (pinged (row_of s slot) time)) time)
  unfolding pinged
  pinged-good time ok =
      row-good (λ r. pinged r time) time ok (λ r. (refl, refl))
      (λ r sum f. record { sums = f.sums; trip = f.trip; limit = f.limit; pinged = le-leb time time (omega arith); acks = f.acks }) (ping-acks (row_of s slot) time)

  pub ponged-good : (time : ℕ) → AtTime s slot time → Good (with_time (with_row s slot (ponged (row_of s slot) time)) time)
  ponged-good time ok =
      row-good (λ r. ponged r time) time ok (λ r. ponged-who r.current_ping_sent r time) (λ r sum. ponged-fine r.current_ping_sent r sum time ok.top)
      (pong-acks (row_of s slot) (row_of s slot).current_ping_sent time)

-- ---- add

pub added-good : (s : State) → Good s → (id roundtrip : ℕ) (max : Option ℕ) (blocked unconfirmed : Bool) → AddPassed s id roundtrip max
    → Good (with_row s (lowest_in s) (fresh_row id roundtrip max blocked unconfirmed))
unfolding fresh_row
added-good s good id roundtrip max blocked unconfirmed p =
    let new = fresh_row id roundtrip max blocked unconfirmed in
    let shaped = good.shaped in
    let sound = good.sound in
    let slot = lowest_in s in
    let inside : slot < length s.links = omega (arith, shaped.links-full, p.small) in
    let sums : ℕ → ℕ = λ j. sum_of (SentOn j) (packets s.tx) in
    let whole : slot - 0 ≡ slot = omega arith in
    let dead : (row_at s slot).live ≡ false = ap (λ j. (row_at s j).live) (sym whole) ∙ lowest-empty s.links 0 (omega (arith, inside)) in
    let few = window-length PACKETS no_packet s.tx.txed_packets (first_of s.tx % PACKETS) s.tx.txed_count in
    let none : sums slot ≡ 0 =
    sum-elsewhere slot (packets s.tx) (λ i h. dead-elsewhere s slot dead (packet_at s i).status (sound.sent i (omega (arith, few)))) in
    let fits : RowFine new (sums slot) s.time = record { sums = sym none; trip = p.trip; limit = p.limit; pinged = refl; acks = omega arith } in
    record {
      shaped = row-shaped s slot new s.time shaped (fresh-full id roundtrip max blocked unconfirmed) shaped.time-u64;
      sound = links-sound s (set s.links slot new) s.time s.read_open sound (omega arith) sound.time-within
          (rows-set s.links slot new sums sums s.time s.time inside (omega arith) (rows_of s sound) (λ l. fits) (λ j l ne. refl))
          (apart-set s.links slot new inside sound.identities
          (λ j l ne live lj same. taken-nowhere s.links id j p.nowhere (omega (arith, shaped.links-full)) lj same))
          (here-added s (with_row s slot new) slot new refl inside dead);
    }

-- ---- the fresh state

-- nothing lies between a number and itself
past-self : (n : ℕ) → n < 2 ^ 32 → past n n ≡ 0
unfolding minus
past-self n h = let e : minus n n ≡ 0 = omega arith in past-ahead n n (omega (arith, e)) ∙ e

module _ (start buffer cells : ℕ) (number : start < 2 ^ 32) where
  -- every row is empty
  fresh-row : (j : ℕ) → j < SLOTS → row_at (fresh_state start buffer cells) j ≡ empty_row
  unfolding fresh_state
  fresh-row j h = get_or-replicate SLOTS j empty_row no_row h

  fresh-state-shaped : cells ≤ 65536 → buffer ≤ cells * DATA_BYTES → Shaped (fresh_state start buffer cells)
  unfolding fresh_state fresh_tx fresh_rx
  fresh-state-shaped few high = record {
    links-full = length-replicate SLOTS empty_row;
    queues = λ j h. ap (λ (r : LinkRow). length r.tx_ack_queue) (fresh-row j h) ∙ empty-full;
    packets-full = length-replicate PACKETS no_packet;
    queue-full = length-replicate PACKETS (seq_of 0);
    next-u32 = number;
    expected-u32 = number;
    oldest-u32 = number;
    count-usize = omega arith;
    queue-usize = omega arith;
    unacked-u32 = omega arith;
    unconsumed-u32 = omega arith;
    unconsumable-u32 = omega arith;
    last-u32 = minus-lt start 1;
    size-u32 = omega arith;
    untold-u32 = omega arith;
    buffer-u32 = omega arith;
    cells-u32 = omega arith;
    end-u32 = number;
    time-u64 = omega arith;
  }

  -- no cell is in use
  pub fresh-numbers : (expected_at (fresh_state start buffer cells).rx ≡ 0) × (in_use (fresh_state start buffer cells).rx ≡ 0)
  unfolding fresh_state fresh_rx
  fresh-numbers = (past-self start number, past-self start number)

  fresh-state-sound : is_cell_count cells ≡ true → 1 ≤ buffer → buffer ≤ cells * DATA_BYTES → Sound (fresh_state start buffer cells)
  unfolding fresh_state fresh_tx fresh_rx empty_row window sum_of queued_of
  fresh-state-sound count low high = record {
    consecutive = λ i h. absurd (omega arith);
    first = λ h. absurd (omega arith);
    sent = λ i h. absurd (omega arith);
    queued = refl;
    link-unacked = λ j h l. ap (λ (r : LinkRow). r.txed_unacked_data) (fresh-row j h);
    unacked = refl;
    unconsumable = refl;
    untaken-within = omega arith;
    identities = λ i j hi hj li. false-true (sym (ap (λ (r : LinkRow). r.live) (fresh-row i hi)) ∙ li);
    near = omega (arith, fresh-numbers.0);
    used = omega (arith, fresh-numbers.1);
    sent-by = λ i h. absurd (omega arith);
    pinged-by = λ j h l. ap (λ (r : LinkRow). ping_within r.current_ping_sent 0) (fresh-row j h);
    packet-count = omega arith;
    queue-count = omega arith;
    ack-count = λ j h l. rw (fresh-row j h) (omega arith);
    packet-length = λ i h. absurd (omega arith);
    cell-count = count;
    buffer-set = low;
    buffer-within = high;
    time-within = omega arith;
    trip-within = λ j h l. rw (fresh-row j h) (omega arith);
    max-ping-within = λ j h l. ap (λ (r : LinkRow). max_ping_within r.max_ping) (fresh-row j h);
  }

  -- the fresh state, where it is not refused
  module _ (records : List ℕ) (e : fresh_verdict buffer cells (length records) ≡ Ok tt) where
    pub record FreshPassed : Type 0 where
      pub count : is_cell_count cells ≡ true
      pub low : 1 ≤ buffer
      pub high : buffer ≤ cells * DATA_BYTES
      pub lent : length records ≡ cells

    pub fresh-passed : FreshPassed
    unfolding fresh_verdict
    fresh-passed =
        let setting = is_cell_count cells && (leb 1 buffer && leb buffer (cells * DATA_BYTES)) in
        let e21 = gate-pass setting (refuse 21 tt) _ e in
        let e2 = gate-pass (eqb (length records) cells) (refuse 2 tt) (Ok tt) e21.1 in
        let a = split (is_cell_count cells) (leb 1 buffer && leb buffer (cells * DATA_BYTES)) e21.0 in
        let b = split (leb 1 buffer) (leb buffer (cells * DATA_BYTES)) a.1 in
        record { count = a.0; low = leb-true 1 buffer b.0; high = leb-true buffer (cells * DATA_BYTES) b.1; lent = eqb-true (length records) cells e2.0 }

    pub fresh-is : (fresh_of start buffer cells (length records)).state ≡ fresh_state start buffer cells
    unfolding fresh_of
    fresh-is = ap (λ (v : Verdict). (changed_by v (fresh_state start 0 0) (fresh_state start buffer cells)).state) e

    pub fresh-good : Good (fresh_of start buffer cells (length records)).state
    fresh-good = subst Good (sym fresh-is) (record {
      shaped = fresh-state-shaped (cell-count cells fresh-passed.count).few fresh-passed.high;
      sound = fresh-state-sound fresh-passed.count fresh-passed.low fresh-passed.high;
    })

    -- its records are empty
    pub fresh-records-are : fresh_records buffer cells records ≡ replicate cells 0
    unfolding fresh_records
    fresh-records-are = ap (λ (v : Verdict). store_by v records (replicate (length records) 0)) e ∙ ap (λ n. replicate n 0) fresh-passed.lent

    -- .. and sound with it, whatever they held
    pub fresh-recorded : SoundRecords (table_of (fresh_of start buffer cells (length records)).state.rx (fresh_records buffer cells records))
    unfolding fresh_state fresh_rx fresh_records bytes_in
    fresh-recorded =
        let sound : Verdict → ℕ → Type 0 = λ v n. SoundRecords (table_of (fresh_state start buffer cells).rx (store_by v records (replicate n 0))) in
        subst (λ (s : State). SoundRecords (table_of s.rx (fresh_records buffer cells records))) (sym fresh-is)
        (subst (λ (v : Verdict). sound v (length records)) (sym e) (subst (λ (n : ℕ). sound (Ok tt) n) (sym fresh-passed.lent) none-used))
      where
        none-used : SoundRecords (table_of (fresh_state start buffer cells).rx (replicate cells 0))
        none-used =
            let t = table_of (fresh_state start buffer cells).rx (replicate cells 0) in
            let count = cell-count cells fresh-passed.count in
            record {
              long = length-replicate cells 0;
              untaken = sym (ap (λ (l : List ℕ). bytes_in (map held_of l)) (window-none cells 0 (replicate cells 0) (start % cells) (in_use t.rx) (omega (arith, fresh-numbers.1))));
              ready = λ k h. absurd (omega (arith, fresh-numbers.0));
              oldest = λ h. absurd (omega (arith, fresh-numbers.0));
              held = view-none cells count t (expected_at t.rx) (omega (arith, fresh-numbers.1));
              newest = λ k l e. absurd (omega (arith, fresh-numbers.1));
              cell-length = λ k h. absurd (omega (arith, fresh-numbers.1));
              recorded = λ k h. absurd (omega (arith, fresh-numbers.1));
            }
