-- The packet table as a list, oldest first, and the sums over it. Assumes nothing.
use Rattle.std.specs.Prelude.{◌≡◌, ℕ, ◌+◌, ◌%◌, Bool, true, false, cond, List, [], ◌∷◌, take, ◌==◌}
use Rattle.std.proofs.Common.{sym, ap, ◌∙◌}
use Rattle.seq.specs.declared.Seq.{Seq}
use Rattle.seq.specs.Numbers.{seq_of, minus}
use Rattle.msg.specs.declared.reliable.ReliableMsg.{ReliableMsg}
use Rattle.msg.specs.declared.reliable.ReliableMsg.TheVariants.{Data}
use Rattle.msg.specs.Reliable.{is_kind, MSG_DATA}
use Rattle.engine.specs.declared.state.SentReliableStatus.{SentReliableStatus}
use Rattle.engine.specs.declared.state.SentReliableStatus.TheVariants.{Sent, Received, ResendQueued}
use Rattle.engine.specs.declared.state.SentReliable.{SentReliable}
use Rattle.engine.specs.declared.state.Sending.{Sending}
use Rattle.engine.specs.Ring.{window}
use Rattle.engine.specs.Sizes.{PACKETS}
use Rattle.engine.specs.Fields.{new_packet, new_flight, with_status}

-- what an index past the table would read
abbrev pub no_packet : SentReliable
no_packet = new_packet (seq_of 0) Data 0 (Sent (new_flight 0 0 0 false))

-- the number of the first packet: the last `txed_count` numbers before the next one are in the table
abbrev pub first_of : Sending → ℕ
first_of tx = minus tx.tx_seq.0 tx.txed_count

-- the packet table, oldest first
abbrev pub packets : Sending → List SentReliable
packets tx = window PACKETS no_packet tx.txed_packets (first_of tx % PACKETS) tx.txed_count

-- the resend queue, oldest first
abbrev pub queue : Sending → List Seq
queue tx = take tx.resend_count tx.resend_queue

abbrev pub is_sent : SentReliableStatus → Bool
is_sent (Sent flight) = true
is_sent Received = false
is_sent (ResendQueued id) = false

abbrev pub is_received : SentReliableStatus → Bool
is_received (Sent flight) = false
is_received Received = true
is_received (ResendQueued id) = false

abbrev pub is_queued : SentReliableStatus → Bool
is_queued (Sent flight) = false
is_queued Received = false
is_queued (ResendQueued id) = true

-- a packet with what a change makes of its status
abbrev pub restatused : (SentReliableStatus → SentReliableStatus) → SentReliable → SentReliable
restatused change p = with_status p (change p.status)

abbrev pub is_data : ReliableMsg → Bool
is_data msg = is_kind MSG_DATA msg

-- the numbers of the ResendQueued packets, oldest first
unfoldable pub queued_of : List SentReliable → List Seq
queued_of [] = []
queued_of (p ∷ ps) = cond (is_queued p.status) (p.seq ∷ queued_of ps) (queued_of ps)

-- which data a sum counts: Sent over a slot; Sent or ResendQueued; Received
pub data Pick : Type 0 where
  SentOn : ℕ → Pick
  Outstanding : Pick
  Settled : Pick

abbrev pub weight_as : Pick → SentReliableStatus → ℕ → ℕ
weight_as (SentOn on) (Sent flight) n = cond (flight.slot == on) n 0
weight_as (SentOn on) Received n = 0
weight_as (SentOn on) (ResendQueued id) n = 0
weight_as Outstanding (Sent flight) n = n
weight_as Outstanding Received n = 0
weight_as Outstanding (ResendQueued id) n = n
weight_as Settled (Sent flight) n = 0
weight_as Settled Received n = n
weight_as Settled (ResendQueued id) n = 0

abbrev pub weight : Pick → SentReliable → ℕ
weight k p = weight_as k p.status p.len

unfoldable pub sum_of : Pick → List SentReliable → ℕ
sum_of k [] = 0
sum_of k (p ∷ ps) = weight k p + sum_of k ps

-- ---- laws

-- a change that leaves a packet's status leaves the packet
pub status-left : (change : SentReliableStatus → SentReliableStatus) (p : SentReliable) (st : SentReliableStatus) → p.status ≡ st → change st ≡ st → p ≡ restatused change p
status-left change p st e same = ap (with_status p) (e ∙ sym same ∙ ap change (sym e))
