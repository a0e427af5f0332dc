-- What `is_sound` computes: the code's passes. That they find just what Sound says is proved in Decided. Assumes nothing.
use Rattle.std.specs.Prelude.{◌≡◌, ℕ, zero, suc, ◌+◌, ◌-◌, ◌*◌, ◌%◌, ◌<◌, ◌≤◌, Bool, true, false, cond, not, ◌&&◌, ◌||◌, List, get_or, ◌==◌, nat_le, slice_index, slice_index_or}
use Rattle.std.proofs.Math.Path.{refl, ap}
use Rattle.std.proofs.Common.{not-suc-le-zero}
use native.Mathlib.Omega.{arith}
use Rattle.link.specs.declared.row.LinkRow.{LinkRow}
use Rattle.link.specs.Sizes.{row_within, MAX_TIME}
use Rattle.link.specs.Row.{no_row}
use Rattle.engine.specs.declared.roster.Roster.{Roster}
use Rattle.engine.specs.declared.state.Sending.{Sending}
use Rattle.engine.specs.declared.state.Receiving.{Receiving}
use Rattle.engine.specs.declared.state.State.{State}
use Rattle.engine.specs.Packets.{no_packet, first_of, is_received}
use Rattle.engine.specs.Received.{expected_at, in_use}
use Rattle.engine.specs.CellCount.{is_cell_count}
use Rattle.engine.specs.Roster.{roster_of, lives_before}
use Rattle.engine.specs.Tally.{tally_of}
use Rattle.engine.specs.Sizes.{SLOTS, PACKETS, DATA_BYTES}

-- what stands in the first packet's cell isn't Received
unfoldable pub first_ok : Sending → Bool
first_ok tx = cond (tx.txed_count == 0) true (not (is_received (get_or tx.txed_packets (first_of tx % PACKETS) no_packet).status))

-- a live row; an empty one may be any
unfoldable pub row_ok : LinkRow → ℕ → ℕ → Bool
row_ok row sum time = not row.live || (row.txed_unacked_data == sum && row_within row time)

-- n rows from the slot j on
unfoldable pub rows_from : List LinkRow → List ℕ → ℕ → ℕ → ℕ → Bool
unfolding row_ok
rows_from links on time j zero = true
rows_from links on time j (suc n) = row_ok (slice_index_or links j no_row) (slice_index on j) time && rows_from links on time (j + 1) n

-- no live link of the first n slots has the identity of one below it
unfoldable pub distinct_below : Roster → ℕ → Bool
distinct_below r zero = true
distinct_below r (suc n) = cond (slice_index_or r.live n false && lives_before r n (slice_index r.ids n)) false (distinct_below r n)

unfoldable pub sendingb : State → Bool
sendingb s =
    let t = tally_of s.tx (roster_of s.links) s.time in
    t.ok
    && (first_ok s.tx
    && ((t.queued == s.tx.resend_count && nat_le s.tx.resend_count PACKETS)
    && (t.unacked == s.tx.txed_unacked && t.unconsumable == s.tx.txed_unconsumable)))

unfoldable pub receivingb : Receiving → Bool
receivingb rx =
    is_cell_count rx.cells
    && ((nat_le (expected_at rx) (in_use rx) && nat_le (in_use rx) rx.cells)
    && (nat_le rx.rxed_reliable_size rx.recv_buffer && (nat_le 1 rx.recv_buffer && nat_le rx.recv_buffer (rx.cells * DATA_BYTES))))

unfoldable pub linksb : State → Bool
linksb s =
    rows_from s.links (tally_of s.tx (roster_of s.links) s.time).on s.time 0 SLOTS
    && (distinct_below (roster_of s.links) SLOTS && nat_le s.time MAX_TIME)

unfoldable pub found_sound : State → Bool
unfolding sendingb receivingb linksb
found_sound s = nat_le s.tx.txed_count PACKETS && (sendingb s && (receivingb s.rx && linksb s))

-- ---- laws

module _ (links : List LinkRow) (on : List ℕ) (time : ℕ) where
  pub rows_step : (j n : ℕ) → 0 < n → rows_from links on time j n ≡ (row_ok (slice_index_or links j no_row) (slice_index on j) time && rows_from links on time (j + 1) (n - 1))
  unfolding rows_from
  rows_step j zero h = absurd (not-suc-le-zero h)
  rows_step j (suc n) h =
      let e : n ≡ suc n - 1 = omega arith in
      ap (λ m. row_ok (slice_index_or links j no_row) (slice_index on j) time && rows_from links on time (j + 1) m) e

  pub rows_none : (j n : ℕ) → n ≤ 0 → rows_from links on time j n ≡ true
  unfolding rows_from
  rows_none j zero h = refl
  rows_none j (suc n) h = absurd (not-suc-le-zero h)

pub distinct-step : (r : Roster) (n : ℕ) → 0 < n
    → distinct_below r n ≡ cond (slice_index_or r.live (n - 1) false && lives_before r (n - 1) (slice_index r.ids (n - 1))) false (distinct_below r (n - 1))
unfolding distinct_below
distinct-step r zero h = absurd (not-suc-le-zero h)
distinct-step r (suc n) h =
    let e : n ≡ suc n - 1 = omega arith in
    ap (λ m. cond (slice_index_or r.live m false && lives_before r m (slice_index r.ids m)) false (distinct_below r m)) e

pub distinct_none : (r : Roster) (n : ℕ) → n ≤ 0 → distinct_below r n ≡ true
unfolding distinct_below
distinct_none r zero h = refl
distinct_none r (suc n) h = absurd (not-suc-le-zero h)
