-- A row's waiting acks after a change of the row: most changes keep them, and every change keeps the 64 places of their queue.
-- Assumes nothing.
use Rattle.std.specs.Prelude.{◌≡◌, Bool, ℕ, ◌-◌, eqb, ltb, length, drop, Some, None, Option}
use Rattle.std.proofs.Math.Path.{refl}
use Rattle.std.proofs.Common.{ap, ◌∙◌, arith, length-set, length-append, length-drop, ltb-true}
use Rattle.std.proofs.lemmas.List.{length-replicate}
use borrow.Table.Steps.{cases}
use Rattle.seq.specs.declared.Seq.{Seq}
use Rattle.seq.specs.Numbers.{seq_of}
use Rattle.seq.specs.Distance.{before}
use Rattle.link.specs.declared.row.LinkRow.{LinkRow}
use Rattle.link.specs.Row.{empty_row, fresh_row, confirmed, blocked_row, unconfirmed_row, with_unacked}
use Rattle.link.specs.Limit.{marked_row, mark_acked_as, mark_acked, mark_resent_as, mark_resent}
use Rattle.link.specs.Roundtrip.{pinged, ponged_as, trip_moved}
use Rattle.link.specs.Acks.{ack_queued, shifted, ack_taken}
use Rattle.link.specs.Sizes.{ACKS}
use Rattle.engine.specs.declared.state.SentReliableStatus.{SentReliableStatus}
use Rattle.engine.specs.declared.state.SentReliableStatus.TheVariants.{Sent, Received, ResendQueued}
use Rattle.engine.specs.declared.state.State.{State}
use Rattle.engine.specs.Table.{in_table, looked_at}
use Rattle.engine.specs.Rows.{row_of}
use Rattle.engine.specs.Sound.{Shaped}
use Rattle.engine.specs.Acking.{settled_row_as, acked_row}
use Rattle.engine.specs.Sizes.{SLOTS}
use Rattle.laws.specs.RowChanged.{either}

-- ---- a row that keeps its waiting acks

pub record SameAcks (new old : LinkRow) : Type 0 where
  pub queue : new.tx_ack_queue ≡ old.tx_ack_queue
  pub count : new.ack_count ≡ old.ack_count

same_then : (a b c : LinkRow) → SameAcks a b → SameAcks b c → SameAcks a c
same_then a b c p q = record { queue = p.queue ∙ q.queue; count = p.count ∙ q.count }

module _ (r : LinkRow) where
  pub confirm-acks : SameAcks (confirmed r) r
  unfolding confirmed
  confirm-acks = record { queue = refl; count = refl }

  pub block-acks : (b : Bool) → SameAcks (blocked_row r b) r
  unfolding blocked_row
  block-acks b = record { queue = refl; count = refl }

  pub unconfirm-acks : SameAcks (unconfirmed_row r) r
  unfolding unconfirmed_row
  unconfirm-acks = record { queue = refl; count = refl }

  pub unacked-acks : (n : ℕ) → SameAcks (with_unacked r n) r
  unfolding with_unacked
  unacked-acks n = record { queue = refl; count = refl }

  pub mark-acks : (m : Option Seq) → SameAcks (marked_row r m) r
  unfolding marked_row
  mark-acks m = record { queue = refl; count = refl }

  pub ping-acks : (time : ℕ) → SameAcks (pinged r time) r
  unfolding pinged
  ping-acks time = record { queue = refl; count = refl }

  pub pong-acks : (p : Option ℕ) (time : ℕ) → SameAcks (ponged_as p r time) r
  unfolding ponged_as
  pong-acks None time = record { queue = refl; count = refl }
  pong-acks (Some since) time = record { queue = refl; count = refl }

  trip-acks : (since time : ℕ) → SameAcks (trip_moved r since time) r
  unfolding trip_moved
  trip-acks since time = record { queue = refl; count = refl }

  mark-acked-acks : (m : Option Seq) (a : ℕ) → SameAcks (mark_acked_as m r a) r
  unfolding mark_acked_as marked_row
  mark-acked-acks None a = record { queue = refl; count = refl }
  mark-acked-acks (Some m) a =
      either (λ q. SameAcks q r) (before a m.0) _ _ (record { queue = refl; count = refl }) (record { queue = refl; count = refl })

  mark-resent-acks : (m : Option Seq) (n : ℕ) → SameAcks (mark_resent_as m r n) r
  unfolding mark_resent_as marked_row
  mark-resent-acks None n = record { queue = refl; count = refl }
  mark-resent-acks (Some m) n =
      either (λ q. SameAcks q r) (before n m.0) _ _ (record { queue = refl; count = refl }) (record { queue = refl; count = refl })

-- the row that resending leaves
pub resent-acks : (r : LinkRow) (n bytes : ℕ) → SameAcks (with_unacked (mark_resent r n) bytes) r
resent-acks r n bytes = same_then _ (mark_resent r n) r (unacked-acks (mark_resent r n) bytes) (mark-resent-acks r r.limit_increased n)

-- .. and an ack
settled-acks : (row : LinkRow) (len slot time : ℕ) (st : SentReliableStatus) → SameAcks (settled_row_as st row len slot time) row
unfolding settled_row_as
settled-acks row len slot time (Sent flight) =
    let less = with_unacked row (row.txed_unacked_data - len) in
    cases (eqb flight.slot slot)
    (λ y. simp y (same_then _ less row (trip-acks less flight.sent time) (unacked-acks row (row.txed_unacked_data - len))))
    (λ y. simp y (record { queue = refl; count = refl }))
settled-acks row len slot time Received = record { queue = refl; count = refl }
settled-acks row len slot time (ResendQueued link) = record { queue = refl; count = refl }

pub acked-acks : (s : State) (slot time n : ℕ) → SameAcks (acked_row s slot time n) (row_of s slot)
unfolding acked_row
acked-acks s slot time n =
    let r = row_of s slot in
    let p = looked_at s.tx n in
    let old = mark-acked-acks r r.limit_increased n in
    cases (in_table s.tx n)
    (λ y. simp y (same_then _ (mark_acked r n) r (settled-acks (mark_acked r n) p.len slot time p.status) old))
    (λ y. simp y old)

-- ---- the places of its queue

-- an ack more or less
pub queued-full : (r : LinkRow) (seq : Seq) → length r.tx_ack_queue ≡ ACKS → length (ack_queued r seq).tx_ack_queue ≡ ACKS
unfolding ack_queued
queued-full r seq full =
    cases (ltb r.ack_count ACKS) (λ t. simp t (length-set r.tx_ack_queue r.ack_count seq ∙ full)) (λ t. simp t full)

pub taken-full : (r : LinkRow) → length r.tx_ack_queue ≡ ACKS → length (ack_taken r).tx_ack_queue ≡ ACKS
unfolding ack_taken shifted
taken-full r full =
    let q = r.tx_ack_queue in
    cases (eqb r.ack_count 0) (λ t. simp t full)
    (λ t. simp t (length-append (drop 1 q) (drop 63 q) ∙ omega (arith, full, length-drop 1 q, length-drop 63 q)))

-- an empty slot and a new link
pub empty-full : length empty_row.tx_ack_queue ≡ ACKS
unfolding empty_row
empty-full = length-replicate ACKS (seq_of 0)

pub fresh-full : (id roundtrip : ℕ) (max : Option ℕ) (blocked unconfirmed : Bool) → length (fresh_row id roundtrip max blocked unconfirmed).tx_ack_queue ≡ ACKS
unfolding fresh_row
fresh-full id roundtrip max blocked unconfirmed = length-replicate ACKS (seq_of 0)

-- the row of any slot, and one that keeps its acks
module _ (s : State) (slot : ℕ) (shaped : Shaped s) where
  pub row-full : length (row_of s slot).tx_ack_queue ≡ ACKS
  unfolding row_of
  row-full = cases (ltb slot SLOTS) (λ t. simp t (shaped.queues slot (ltb-true slot SLOTS t))) (λ t. simp t empty-full)

  pub same_full : (row : LinkRow) → SameAcks row (row_of s slot) → length row.tx_ack_queue ≡ ACKS
  same_full row same = ap length same.queue ∙ row-full
