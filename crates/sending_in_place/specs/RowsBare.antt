-- A change of a row that is read without its acks, and written back over them, is the change of the row; so is one that is written field by field. Assumes nothing.
use Rattle.std.specs.Prelude.{◌≡◌, refl, ℕ, eqb, Some, None, Option}
use Rattle.seq.specs.declared.Seq.{Seq}
use borrow.Table.Steps.{cases}
use Rattle.seq.specs.Distance.{before}
use Rattle.link.specs.declared.row.LinkRow.{LinkRow}
use Rattle.link.specs.Fields.{with_acks, with_trip, with_sending}
use Rattle.link.specs.Row.{with_unacked}
use Rattle.link.specs.Limit.{marked_row, mark_acked_as, mark_resent_as}
use Rattle.link.specs.Roundtrip.{trip_moved}
use Rattle.engine.specs.declared.state.SentReliableStatus.{SentReliableStatus}
use Rattle.engine.specs.declared.state.SentReliableStatus.TheVariants.{Sent, Received, ResendQueued}
use Rattle.engine.specs.declared.state.State.{State}
use Rattle.engine.specs.Rows.{row_of}
use Rattle.engine.specs.Table.{in_table, looked_at}
use Rattle.engine.specs.Acking.{settled_row_as, acked_row}
use Rattle.words.specs.Encoded.{bare}
use Rattle.links_in_place.specs.RowsBare.{acked-as}

-- an ack: the mark's step, then the packet's
pub acked-bare : (st : SentReliableStatus) (m : Option Seq) (r : LinkRow) (a len slot time : ℕ)
    → with_acks (settled_row_as st (mark_acked_as m (bare r) a) len slot time) r.tx_ack_queue (settled_row_as st (mark_acked_as m (bare r) a) len slot time).ack_count
    ≡ settled_row_as st (mark_acked_as m r a) len slot time
unfolding settled_row_as mark_acked_as with_unacked trip_moved
acked-bare (Sent flight) None r a len slot time = cases (eqb flight.slot slot) (λ t. simp t) (λ t. simp t)
acked-bare (Sent flight) (Some m) r a len slot time =
    cases (before a m.0)
    (λ b. cases (eqb flight.slot slot) (λ t. simp (b, t)) (λ t. simp (b, t)))
    (λ b. cases (eqb flight.slot slot) (λ t. simp (b, t)) (λ t. simp (b, t)))
acked-bare Received m r a len slot time = acked-as r m a
acked-bare (ResendQueued link) m r a len slot time = acked-as r m a

-- a resend
pub resent-bare : (m : Option Seq) (r : LinkRow) (n k : ℕ)
    → with_acks (with_unacked (mark_resent_as m (bare r) n) k) r.tx_ack_queue (with_unacked (mark_resent_as m (bare r) n) k).ack_count ≡ with_unacked (mark_resent_as m r n) k
unfolding mark_resent_as with_unacked
resent-bare None r n k = refl
resent-bare (Some m) r n k = cases (before n m.0) (λ t. simp t) (λ t. simp t)

-- ---- an ack changes four fields of a row: the mark, the unacked bytes, the round trip and its flag

abbrev pub acked_fields : LinkRow → LinkRow → LinkRow
acked_fields r q = with_trip (with_sending r q.limit_increased q.txed_unacked_data) q.roundtrip q.zero_estimate r.current_ping_sent

marked-fields : (m : Option Seq) (r : LinkRow) (a : ℕ) → mark_acked_as m r a ≡ acked_fields r (mark_acked_as m r a)
unfolding mark_acked_as marked_row
marked-fields None r a = refl
marked-fields (Some m) r a = cases (before a m.0) (λ b. simp b) (λ b. simp b)

settled-fields : (st : SentReliableStatus) (m : Option Seq) (r : LinkRow) (a len slot time : ℕ)
    → settled_row_as st (mark_acked_as m r a) len slot time ≡ acked_fields r (settled_row_as st (mark_acked_as m r a) len slot time)
unfolding settled_row_as mark_acked_as marked_row with_unacked trip_moved
settled-fields (Sent flight) None r a len slot time = cases (eqb flight.slot slot) (λ t. simp t) (λ t. simp t)
settled-fields (Sent flight) (Some m) r a len slot time =
    cases (before a m.0)
    (λ b. cases (eqb flight.slot slot) (λ t. simp (b, t)) (λ t. simp (b, t)))
    (λ b. cases (eqb flight.slot slot) (λ t. simp (b, t)) (λ t. simp (b, t)))
settled-fields Received m r a len slot time = marked-fields m r a
settled-fields (ResendQueued link) m r a len slot time = marked-fields m r a

pub acked-fields : (s : State) (slot time a : ℕ) → acked_row s slot time a ≡ acked_fields (row_of s slot) (acked_row s slot time a)
unfolding acked_row
acked-fields s slot time a =
    let r = row_of s slot in
    cases (in_table s.tx a)
    (λ t. simp t (settled-fields (looked_at s.tx a).status r.limit_increased r a (looked_at s.tx a).len slot time))
    (λ t. simp t (marked-fields r.limit_increased r a))
