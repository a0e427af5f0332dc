-- What one pass over the packet table finds: the code's own way of deciding what Sound asks of it. That it decides just that
-- is proved in Decided. Assumes nothing.
use Rattle.std.specs.Prelude.{◌≡◌, ℕ, ◌+◌, ◌-◌, ◌%◌, ◌^◌, ◌<◌, ◌≤◌, Bool, true, ◌&&◌, ◌||◌, List, [], ◌∷◌, get_or, ◌==◌, nat_le, slice_index, slice_index_or, slice_set, Some, None, Option}
use Rattle.std.proofs.Common.{ap}
use Rattle.seq.specs.declared.Seq.{Seq}
use Rattle.seq.specs.Numbers.{seq_of, plus}
use Rattle.msg.specs.declared.reliable.ReliableMsg.{ReliableMsg}
use Rattle.engine.specs.declared.state.SentReliableStatus.{SentReliableStatus}
use Rattle.engine.specs.declared.state.SentReliableStatus.TheVariants.{Sent, Received, ResendQueued}
use Rattle.engine.specs.declared.state.SentReliable.{SentReliable}
use Rattle.engine.specs.declared.state.Sending.{Sending}
use Rattle.engine.specs.declared.roster.Roster.{Roster}
use Rattle.engine.specs.declared.packets.Tally.{Tally}
use Rattle.engine.specs.Ring.{window, window-step, window-none, next_cell}
use Rattle.engine.specs.Packets.{is_data, no_packet, first_of, packets}
use Rattle.engine.specs.Roster.{lives_in}
use Rattle.engine.specs.Sizes.{PACKETS, SLOTS, DATA_BYTES}

-- "data 0 to 1,024 bytes a message", and only Data has any
unfoldable pub length_ok : ReliableMsg → ℕ → Bool
length_ok msg len = len == 0 || (nat_le len DATA_BYTES && is_data msg)

abbrev pub flushed_ok : Option ℕ → ℕ → Bool
flushed_ok None time = true
flushed_ok (Some at) time = nat_le at time

unfoldable pub status_ok : SentReliableStatus → Seq → Seq → Roster → ℕ → Bool
status_ok (Sent flight) seq next roster time = lives_in roster flight.slot flight.link && (nat_le flight.sent time && flushed_ok flight.flushed time)
status_ok Received seq next roster time = true
status_ok (ResendQueued link) seq next roster time = next.0 == seq.0

unfoldable pub packet_ok : SentReliable → Seq → Seq → Roster → ℕ → Bool
packet_ok p n next roster time = p.seq.0 == n.0 && (length_ok p.msg p.len && status_ok p.status p.seq next roster time)

unfoldable pub weighed : SentReliableStatus → Tally → ℕ → Bool → Tally
weighed (Sent flight) t len ok = record {
  ok = t.ok && ok;
  on = slice_set t.on (flight.slot % SLOTS) (plus (slice_index t.on (flight.slot % SLOTS)) len);
  unacked = plus t.unacked len;
  unconsumable = t.unconsumable;
  queued = t.queued;
}
weighed Received t len ok = record {
  ok = t.ok && ok;
  on = t.on;
  unacked = t.unacked;
  unconsumable = plus t.unconsumable len;
  queued = t.queued;
}
weighed (ResendQueued link) t len ok = record {
  ok = t.ok && ok;
  on = t.on;
  unacked = plus t.unacked len;
  unconsumable = t.unconsumable;
  queued = (t.queued + 1) % 2 ^ 64;
}

-- the tally of packets from the number n on, where the queue is gone through as the tally counts
unfoldable pub tally_from : List Seq → Roster → ℕ → List SentReliable → ℕ → Tally → Tally
unfolding weighed packet_ok
tally_from queue roster time [] n t = t
tally_from queue roster time (p ∷ ps) n t =
    tally_from queue roster time ps (plus n 1)
    (weighed p.status t p.len (packet_ok p (seq_of n) (slice_index_or queue (t.queued % PACKETS) (seq_of 0)) roster time))

abbrev pub no_tally : Tally
no_tally = record { ok = true; on = 0 ∷ 0 ∷ 0 ∷ 0 ∷ 0 ∷ 0 ∷ 0 ∷ 0 ∷ []; unacked = 0; unconsumable = 0; queued = 0 }

unfoldable pub tally_of : Sending → Roster → ℕ → Tally
unfolding tally_from
tally_of tx roster time = tally_from tx.resend_queue roster time (packets tx) (first_of tx) no_tally

-- ---- laws

-- one packet less to weigh
pub tally-step : (queue : List Seq) (roster : Roster) (time : ℕ) (cells : List SentReliable) (at left n : ℕ) (t : Tally) → 0 < left
    → tally_from queue roster time (window PACKETS no_packet cells at left) n t
    ≡ tally_from queue roster time (window PACKETS no_packet cells (next_cell PACKETS at) (left - 1)) (plus n 1)
    (weighed (get_or cells at no_packet).status t (get_or cells at no_packet).len
    (packet_ok (slice_index_or cells at no_packet) (seq_of n) (slice_index_or queue (t.queued % PACKETS) (seq_of 0)) roster time))
unfolding tally_from
tally-step queue roster time cells at left n t h = ap (λ ps. tally_from queue roster time ps n t) (window-step PACKETS no_packet cells at left h)

pub tally-none : (queue : List Seq) (roster : Roster) (time : ℕ) (cells : List SentReliable) (at left n : ℕ) (t : Tally) → left ≤ 0
    → tally_from queue roster time (window PACKETS no_packet cells at left) n t ≡ t
unfolding tally_from
tally-none queue roster time cells at left n t h = ap (λ ps. tally_from queue roster time ps n t) (window-none PACKETS no_packet cells at left h)
