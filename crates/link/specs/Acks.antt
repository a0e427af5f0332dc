-- Document 01, the acks that wait for a link: "adds an ack" (Receive) and "Taking an ack removes the link's oldest."
-- Assumes nothing.
use Rattle.std.specs.Prelude.{cond, List, ◌++◌, ◌+◌, ◌-◌, ltb, eqb, get_or, set, take, drop, Some, None, Option}
use Rattle.seq.specs.declared.Seq.{Seq}
use Rattle.seq.specs.Numbers.{seq_of}
use Rattle.link.specs.declared.row.LinkRow.{LinkRow}
use Rattle.link.specs.Fields.{with_acks}
use Rattle.link.specs.Sizes.{ACKS}

-- the waiting acks, oldest first
unfoldable pub waiting : LinkRow → List Seq
waiting r = take r.ack_count r.tx_ack_queue

-- one ack more behind the others; a link has at most ACKS waiting
unfoldable pub ack_queued : LinkRow → Seq → LinkRow
ack_queued r seq = cond (ltb r.ack_count ACKS) (with_acks r (set r.tx_ack_queue r.ack_count seq) (r.ack_count + 1)) r

unfoldable pub oldest_ack : LinkRow → Option Seq
oldest_ack r = cond (eqb r.ack_count 0) None (Some (get_or r.tx_ack_queue 0 (seq_of 0)))

-- the places moved one to the front; what stands in the last is not looked at any more
unfoldable pub shifted : List Seq → List Seq
shifted acks = drop 1 acks ++ drop (ACKS - 1) acks

-- "Taking an ack removes the link's oldest."
unfoldable pub ack_taken : LinkRow → LinkRow
unfolding shifted
ack_taken r = cond (eqb r.ack_count 0) r (with_acks r (shifted r.tx_ack_queue) (r.ack_count - 1))
