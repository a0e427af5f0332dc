-- A link's waiting acks: one more or one less keeps a sound state sound. Assumes nothing.
use Rattle.std.specs.Prelude.{◌≡◌, refl, true, ℕ, ◌<◌, eqb, ltb}
use Rattle.std.proofs.Common.{arith}
use borrow.Author.Tests.{ltb-true}
use borrow.Table.Steps.{cases}
use Rattle.seq.specs.declared.Seq.{Seq}
use Rattle.link.specs.declared.row.LinkRow.{LinkRow}
use Rattle.link.specs.Acks.{ack_queued, ack_taken}
use Rattle.link.specs.Sizes.{ACKS}
use Rattle.engine.specs.declared.state.State.{State}
use Rattle.engine.specs.DecidedTables.{RowFine}
use Rattle.engine.specs.Rows.{row_of}
use Rattle.engine.specs.Sound.{Sound, Shaped, row_at}
use Rattle.engine.specs.Fields.{with_row}
use Rattle.engine.specs.Sizes.{SLOTS}
use Rattle.laws.specs.RowsKept.{row-shaped, row_kept}
use Rattle.laws.specs.RowAcks.{queued-full, taken-full, row-full}

-- ---- of the row

-- an ack more keeps who lives there, and one that would be the 65th is not queued
module _ (r : LinkRow) (seq : Seq) where
  pub queued-who : ((ack_queued r seq).live ≡ r.live) × ((ack_queued r seq).link_id ≡ r.link_id)
  unfolding ack_queued
  queued-who = cases (ltb r.ack_count ACKS) (λ t. simp t (refl, refl)) (λ t. simp t (refl, refl))

  pub queued-fine : (sum time : ℕ) → RowFine r sum time → RowFine (ack_queued r seq) sum time
  unfolding ack_queued
  queued-fine sum time f =
      cases (ltb r.ack_count ACKS)
      (λ t. simp t (record { sums = f.sums; trip = f.trip; limit = f.limit; pinged = f.pinged; acks = omega (arith, ltb-true r.ack_count ACKS t) }))
      (λ t. simp t f)

-- so does an ack less
module _ (r : LinkRow) where
  pub taken-who : ((ack_taken r).live ≡ r.live) × ((ack_taken r).link_id ≡ r.link_id)
  unfolding ack_taken
  taken-who = cases (eqb r.ack_count 0) (λ t. simp t (refl, refl)) (λ t. simp t (refl, refl))

  pub taken_fine : (sum time : ℕ) → RowFine r sum time → RowFine (ack_taken r) sum time
  unfolding ack_taken
  taken_fine sum time f =
      cases (eqb r.ack_count 0) (λ t. simp t f)
      (λ t. simp t (record { sums = f.sums; trip = f.trip; limit = f.limit; pinged = f.pinged; acks = omega (arith, f.acks) }))

-- ---- of the state

module _ (s : State) (slot : ℕ) (shaped : Shaped s) where
  -- a repeated number
  pub queued-sound : (seq : Seq) → Sound s → slot < SLOTS → (row_at s slot).live ≡ true → Sound (with_row s slot (ack_queued (row_of s slot) seq))
  queued-sound seq sound small lives =
      row_kept s slot (λ r. ack_queued r seq) s.time shaped sound small lives (omega arith) sound.time-within
      (λ r. queued-who r seq) (λ r sum. queued-fine r seq sum s.time)

  pub queued-shaped : (seq : Seq) → Shaped (with_row s slot (ack_queued (row_of s slot) seq))
  queued-shaped seq = row-shaped s slot (ack_queued (row_of s slot) seq) s.time shaped (queued-full (row_of s slot) seq (row-full s slot shaped)) shaped.time-u64

  -- an ack taken
  pub taken-sound : Sound s → slot < SLOTS → (row_at s slot).live ≡ true → Sound (with_row s slot (ack_taken (row_of s slot)))
  taken-sound sound small lives =
      row_kept s slot ack_taken s.time shaped sound small lives (omega arith) sound.time-within
      taken-who (λ r sum. taken_fine r sum s.time)

  pub taken-shaped : Shaped (with_row s slot (ack_taken (row_of s slot)))
  taken-shaped = row-shaped s slot (ack_taken (row_of s slot)) s.time shaped (taken-full (row_of s slot) (row-full s slot shaped)) shaped.time-u64
