-- What the mark, the unacked bytes and the round trip change in a row: the rest of it stays as Sound asks. Assumes nothing.
use Rattle.std.specs.Prelude.{◌≡◌, refl, Bool, true, false, cond, ℕ, ◌+◌, ◌-◌, ◌*◌, ◌/◌, ◌≤◌, ltb, Some, None, Option}
use Rattle.seq.specs.declared.Seq.{Seq}
use Rattle.std.proofs.Common.{ap, ◌∙◌, arith}
use Rattle.seq.specs.Distance.{before}
use Rattle.link.specs.declared.row.LinkRow.{LinkRow}
use Rattle.link.specs.Sizes.{max_ping_within, ping_within, MAX_TIME}
use Rattle.link.specs.Row.{with_unacked}
use Rattle.link.specs.Limit.{marked_row, mark_acked_as, mark_resent_as}
use Rattle.link.specs.Roundtrip.{trip_after, trip_moved}
use Rattle.engine.specs.DecidedTables.{RowFine}

-- one row is like another in all that Sound reads
pub record Like (new old : LinkRow) : Type 0 where
  pub live : new.live ≡ old.live
  pub id : new.link_id ≡ old.link_id
  pub bytes : new.txed_unacked_data ≡ old.txed_unacked_data
  pub trip : new.roundtrip ≡ old.roundtrip
  pub limit : new.max_ping ≡ old.max_ping
  pub pinged : new.current_ping_sent ≡ old.current_ping_sent
  pub acks : new.ack_count ≡ old.ack_count

pub like-fine : (new old : LinkRow) (sum time : ℕ) → Like new old → RowFine old sum time → RowFine new sum time
like-fine new old sum time same fine = record {
  sums = same.bytes ∙ fine.sums;
  trip = rw same.trip fine.trip;
  limit = ap max_ping_within same.limit ∙ fine.limit;
  pinged = ap (λ p. ping_within p time) same.pinged ∙ fine.pinged;
  acks = rw same.acks fine.acks;
}

pub either : (P : LinkRow → Type 0) (b : Bool) (x y : LinkRow) → P x → P y → P (cond b x y)
either P true x y h g = h
either P false x y h g = g

-- the mark
pub mark-acked : (m : Option Seq) (r : LinkRow) (a : ℕ) → Like (mark_acked_as m r a) r
unfolding mark_acked_as marked_row
mark-acked None r a = record { live = refl; id = refl; bytes = refl; trip = refl; limit = refl; pinged = refl; acks = refl }
mark-acked (Some m) r a =
    either (λ q. Like q r) (before a m.0) _ _
    (record { live = refl; id = refl; bytes = refl; trip = refl; limit = refl; pinged = refl; acks = refl })
    (record { live = refl; id = refl; bytes = refl; trip = refl; limit = refl; pinged = refl; acks = refl })

pub mark-resent : (m : Option Seq) (r : LinkRow) (n : ℕ) → Like (mark_resent_as m r n) r
unfolding mark_resent_as marked_row
mark-resent None r n = record { live = refl; id = refl; bytes = refl; trip = refl; limit = refl; pinged = refl; acks = refl }
mark-resent (Some m) r n =
    either (λ q. Like q r) (before n m.0) _ _
    (record { live = refl; id = refl; bytes = refl; trip = refl; limit = refl; pinged = refl; acks = refl })
    (record { live = refl; id = refl; bytes = refl; trip = refl; limit = refl; pinged = refl; acks = refl })

-- the unacked bytes
pub bytes-fine : (r : LinkRow) (old new sum time : ℕ) → new ≡ sum → RowFine r old time → RowFine (with_unacked r new) sum time
unfolding with_unacked
bytes-fine r old new sum time e fine = record { sums = e; trip = fine.trip; limit = fine.limit; pinged = fine.pinged; acks = fine.acks }

pub bytes-live : (r : LinkRow) (n : ℕ) → (with_unacked r n).live ≡ r.live
unfolding with_unacked
bytes-live r n = refl

pub bytes-id : (r : LinkRow) (n : ℕ) → (with_unacked r n).link_id ≡ r.link_id
unfolding with_unacked
bytes-id r n = refl

-- the round trip
trip-small : (flag : Bool) (r e : ℕ) → r ≤ MAX_TIME → e ≤ MAX_TIME → trip_after flag r e ≤ MAX_TIME
unfolding trip_after
trip-small true r e hr he = he
trip-small false r e hr he = among (ltb r e)
  where
    among : (b : Bool) → cond b ((r + 3 * e) / 4) ((99 * r + e) / 100) ≤ MAX_TIME
    among true = omega arith
    among false = omega arith

pub trip-fine : (r : LinkRow) (sum since time : ℕ) → time ≤ MAX_TIME → RowFine r sum time → RowFine (trip_moved r since time) sum time
unfolding trip_moved
trip-fine r sum since time top fine = record {
  sums = fine.sums;
  trip = trip-small r.zero_estimate r.roundtrip (time - since) fine.trip (omega arith);
  limit = fine.limit;
  pinged = fine.pinged;
  acks = fine.acks;
}

pub trip-live : (r : LinkRow) (since time : ℕ) → (trip_moved r since time).live ≡ r.live
unfolding trip_moved
trip-live r since time = refl

pub trip-id : (r : LinkRow) (since time : ℕ) → (trip_moved r since time).link_id ≡ r.link_id
unfolding trip_moved
trip-id r since time = refl
