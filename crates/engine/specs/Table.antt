-- The packet of a number, and the table with other packets. Number n uses cell n mod 64. Assumes nothing.
use Rattle.std.specs.Prelude.{ℕ, ◌-◌, ◌%◌, Bool, ◌&&◌, List, nat_le, slice_index_or, slice_set}
use Rattle.seq.specs.Distance.{past}
use Rattle.engine.specs.declared.state.SentReliable.{SentReliable}
use Rattle.engine.specs.declared.state.Sending.{Sending}
use Rattle.engine.specs.Ring.{refilled}
use Rattle.engine.specs.Packets.{no_packet, first_of, packets}
use Rattle.engine.specs.Sizes.{PACKETS}
use Rattle.engine.specs.Fields.{with_packets}

-- "Let back = next number − a. If 1 ≤ back ≤ packet count": the table holds the number
unfoldable pub in_table : Sending → ℕ → Bool
in_table tx n = nat_le 1 (past tx.tx_seq.0 n) && nat_le (past tx.tx_seq.0 n) tx.txed_count

-- "the packet at count − back is looked at"
unfoldable pub place : Sending → ℕ → ℕ
place tx n = tx.txed_count - past tx.tx_seq.0 n

unfoldable pub looked_at : Sending → ℕ → SentReliable
unfolding place
looked_at tx n = slice_index_or (packets tx) (place tx n) no_packet

-- what the number's cell holds: where the table holds the number, the packet looked at (`placed` of InTable)
unfoldable pub packet_of : Sending → ℕ → SentReliable
packet_of tx n = slice_index_or tx.txed_packets (n % PACKETS) no_packet

unfoldable pub with_packet : Sending → ℕ → SentReliable → Sending
with_packet tx n p = with_packets tx (slice_set tx.txed_packets (n % PACKETS) p)

-- the table with other packets in the places of its own; a cell outside of the table stays as it is
unfoldable pub with_table : Sending → List SentReliable → Sending
with_table tx ps = with_packets tx (refilled PACKETS tx.txed_packets (first_of tx % PACKETS) ps)
