-- The number that the table holds: where it stands, and what a sound state says of it. Assumes nothing.
use Rattle.std.specs.Prelude.{◌≡◌, ℕ, ◌+◌, ◌-◌, ◌%◌, ◌^◌, ◌<◌, ◌≤◌, true, List, length, nat_le, slice_index_or}
use Rattle.std.proofs.Common.{sym, ◌∙◌, arith, leb-true}
use Rattle.std.proofs.Math.Path.{ap}
use Rattle.std.specs.Int.{◌∣◌}
use Rattle.std.proofs.Math.Nat.{dvd-mul_right, mod-add-mod, mod-mod_of_dvd}
use Rattle.seq.specs.declared.Seq.{Seq}
use Rattle.seq.specs.Numbers.{seq_of, plus, minus}
use Rattle.seq.specs.Distance.{past, past_near, past-ahead}
use Rattle.engine.specs.declared.state.SentReliable.{SentReliable}
use Rattle.engine.specs.declared.state.Sending.{Sending}
use Rattle.engine.specs.declared.state.State.{State}
use Rattle.engine.specs.Ring.{window, refilled, refill-window, window-at, window-length}
use Rattle.engine.specs.Packets.{no_packet, first_of, packets, Pick, SentOn, sum_of}
use Rattle.engine.specs.Table.{in_table, place, looked_at, packet_of, with_table}
use Rattle.engine.specs.Sound.{Sound, Shaped, packet_at, row_at}
use Rattle.engine.specs.DecidedTables.{length-le}
use Rattle.engine.specs.DecidedPackets.{sum-le}
use Rattle.engine.specs.Sizes.{PACKETS, SLOTS, DATA_BYTES, SENT_BYTES}
use Rattle.refusal.specs.Tests.{split}

-- 64 divides 2^32, so that a number's cell survives the wrap
pub cells-divide : PACKETS ∣ 2 ^ 32
cells-divide = dvd-mul_right PACKETS 67108864

-- over bare numbers: the cell that is `count − back` past the first's is the cell `back` before the next number's
cell-of-place : (t count back : ℕ) → count ≤ PACKETS → 1 ≤ back → back ≤ count → ((t + (2 ^ 32 - count)) % PACKETS + (count - back)) % PACKETS ≡ (t + (2 ^ 32 - back)) % PACKETS
cell-of-place t count back c l h =
    mod-add-mod (t + (2 ^ 32 - count)) PACKETS (count - back)
    ∙ ap (λ k. k % PACKETS) (omega arith)

-- a number that is few before the next one is as far before it as the one place says
back-number : (t n : ℕ) → t < 2 ^ 32 → n < 2 ^ 32 → past t n ≤ PACKETS → n ≡ minus t (past t n)
unfolding minus
back-number t n ht hn few = let e : past t n ≡ (t + (2 ^ 32 - n)) % 2 ^ 32 = past_near t n (omega arith) in omega arith

-- the number `back` before the next is `count − back` past the first
pub number_past : (t count back : ℕ) → count ≤ PACKETS → back ≤ count → minus t back ≡ plus (minus t count) (count - back)
unfolding plus minus
number_past t count back c h =
    let e : t + (2 ^ 32 - back) ≡ t + (2 ^ 32 - count) + (count - back) = omega arith in
    ap (λ k. k % 2 ^ 32) e ∙ sym (mod-add-mod (t + (2 ^ 32 - count)) (2 ^ 32) (count - back))

-- and back: the number i past the first of `count` is `count − i` before the next
number-back : (t count i : ℕ) → t < 2 ^ 32 → count ≤ PACKETS → i < count → past t (plus (minus t count) i) ≡ count - i
unfolding plus minus
number-back t count i ht c h =
    let n = plus (minus t count) i in
    let e : minus t n ≡ count - i = omega arith in
    past-ahead t n (omega (arith, e)) ∙ e

cell-wraps : (t k : ℕ) → minus t k % PACKETS ≡ (t + (2 ^ 32 - k)) % PACKETS
unfolding minus
cell-wraps t k = mod-mod_of_dvd _ (t + (2 ^ 32 - k)) cells-divide

pub record Placed (tx : Sending) (n : ℕ) : Type 0 where
  pub back_low : 1 ≤ past tx.tx_seq.0 n
  pub back-high : past tx.tx_seq.0 n ≤ tx.txed_count
  pub number : n ≡ plus (first_of tx) (place tx n)
  pub here : packet_of tx n ≡ looked_at tx n

-- the number is `place` past the first, and the packet at count − back is the one in the number's cell
pub placed : (tx : Sending) (n : ℕ) → tx.tx_seq.0 < 2 ^ 32 → n < 2 ^ 32 → tx.txed_count ≤ PACKETS → in_table tx n ≡ true → Placed tx n
unfolding in_table packet_of looked_at place
placed tx n ht hn c e =
    let t = tx.tx_seq.0 in
    let back = past t n in
    let b = split (nat_le 1 back) (nat_le back tx.txed_count) e in
    let low : 1 ≤ back = leb-true 1 back b.0 in
    let high : back ≤ tx.txed_count = leb-true back tx.txed_count b.1 in
    let number = back-number t n ht hn (omega arith) in
    let cell : n % PACKETS ≡ (first_of tx % PACKETS + (tx.txed_count - back)) % PACKETS =
    ap (λ k. k % PACKETS) number
    ∙ cell-wraps t back
    ∙ sym (cell-of-place t tx.txed_count back c low high)
    ∙ ap (λ k. (k + (tx.txed_count - back)) % PACKETS) (sym (cell-wraps t tx.txed_count))
    in
    let at : first_of tx % PACKETS < PACKETS = omega arith in
    record {
      back_low = low;
      back-high = high;
      number = number ∙ number_past t tx.txed_count back c high;
      here =
          ap (λ k. slice_index_or tx.txed_packets k no_packet) cell
          ∙ sym (window-at PACKETS no_packet tx.txed_packets (first_of tx % PACKETS) tx.txed_count (tx.txed_count - back) at (omega arith));
    }

-- other packets in the places of the table's own are the table's packets
pub table-packets : (tx : Sending) (ps : List SentReliable) → length ps ≡ tx.txed_count → tx.txed_count ≤ PACKETS → length tx.txed_packets ≡ PACKETS
    → packets (with_table tx ps) ≡ ps
unfolding with_table
table-packets tx ps long few full =
    let cells = refilled PACKETS tx.txed_packets (first_of tx % PACKETS) ps in
    ap (window PACKETS no_packet cells (first_of tx % PACKETS)) (sym long)
    ∙ refill-window PACKETS no_packet tx.txed_packets (first_of tx % PACKETS) ps (omega arith) full (omega arith)

-- ---- what a sound state says

module _ (s : State) (shaped : Shaped s) (sound : Sound s) where
  -- a packet's number is as many before the next one as there are packets from its place on
  pub packet-back : (i : ℕ) → i < s.tx.txed_count → past s.tx.tx_seq.0 (packet_at s i).seq.0 ≡ s.tx.txed_count - i
  packet-back i h =
      ap (λ (q : Seq). past s.tx.tx_seq.0 q.0) (sound.consecutive i h)
      ∙ number-back s.tx.tx_seq.0 s.tx.txed_count i shaped.next-u32 sound.packet-count h

  -- a packet of the table has at most 1,024 bytes
  pub packet-short : (n : ℕ) → n < 2 ^ 32 → in_table s.tx n ≡ true → (looked_at s.tx n).len ≤ DATA_BYTES
  unfolding place looked_at
  packet-short n h e =
      let p = placed s.tx n shaped.next-u32 h sound.packet-count e in
      let i = place s.tx n in
      length-le (packet_at s i).msg (packet_at s i).len (sound.packet-length i (omega (arith, p.back_low, p.back-high)))

  -- the packet looked at is in the number's cell ..
  pub looked-cell : (n : ℕ) → n < 2 ^ 32 → in_table s.tx n ≡ true → packet_of s.tx n ≡ looked_at s.tx n
  looked-cell n h e = (placed s.tx n shaped.next-u32 h sound.packet-count e).here

  -- .. and holds the number
  pub looked-number : (n : ℕ) → n < 2 ^ 32 → in_table s.tx n ≡ true → (looked_at s.tx n).seq ≡ seq_of n
  unfolding place looked_at
  looked-number n h e =
      let p = placed s.tx n shaped.next-u32 h sound.packet-count e in
      sound.consecutive (place s.tx n) (omega (arith, p.back_low, p.back-high)) ∙ ap seq_of (sym p.number)

  -- sums over the table are small
  pub sum-small : (k : Pick) → sum_of k (packets s.tx) ≤ SENT_BYTES
  sum-small k =
      let n = window-length PACKETS no_packet s.tx.txed_packets (first_of s.tx % PACKETS) s.tx.txed_count in
      omega (arith, sum-le k (packets s.tx) (λ i h. sound.packet-length i (omega arith)), n, sound.packet-count)

  pub row_small : (j : ℕ) → j < SLOTS → (row_at s j).live ≡ true → (row_at s j).txed_unacked_data ≤ SENT_BYTES
  row_small j h l = omega (arith, sound.link-unacked j h l, sum-small (SentOn j))
