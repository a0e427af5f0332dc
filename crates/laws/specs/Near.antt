-- Document 02 [5]: inside a sound state no two numbers are far apart. Every distance that a call asks for there is told: the ack's back of a
-- packet's number is 1 to 64, the next expected number is 0 to the cell count past the oldest, and what a cell holds less. Assumes nothing.
use Rattle.std.specs.Prelude.{◌≡◌, ℕ, ◌-◌, ◌≤◌, ◌<◌, pos, Some}
use Rattle.std.proofs.Common.{ap, ◌∙◌, arith}
use Rattle.seq.specs.Numbers.{plus}
use Rattle.seq.specs.Distance.{distance_of, past, past-told, past-plus}
use Rattle.engine.specs.declared.state.State.{State}
use Rattle.engine.specs.Received.{expected_at}
use Rattle.engine.specs.InTable.{packet-back}
use Rattle.engine.specs.Sound.{packet_at}
use Rattle.engine.specs.CellCount.{CellCount, cell-count}
use Rattle.engine.specs.Sizes.{PACKETS}
use Rattle.laws.specs.Good.{Good}

module _ (s : State) (good : Good s) where
  pub packet-near : (i : ℕ) → i < s.tx.txed_count → (distance_of s.tx.tx_seq.0 (packet_at s i).seq.0 ≡ Some (pos (s.tx.txed_count - i))) × (s.tx.txed_count - i ≤ PACKETS)
  packet-near i h =
      let t = s.tx.tx_seq.0 in
      let count = s.tx.txed_count in
      let n = (packet_at s i).seq.0 in
      let back : past t n ≡ count - i = packet-back s good.shaped good.sound i h in
      (past-told t n (omega (arith, back, good.sound.packet-count)) ∙ ap (λ d. Some (pos d)) back, omega (arith, good.sound.packet-count))

  count : CellCount s.rx.cells
  count = cell-count s.rx.cells good.sound.cell-count

  pub expected-near : (distance_of s.rx.rx_seq.0 s.rx.rx_oldest.0 ≡ Some (pos (expected_at s.rx))) × (expected_at s.rx ≤ s.rx.cells)
  expected-near =
      (past-told s.rx.rx_seq.0 s.rx.rx_oldest.0 (omega (arith, good.sound.near, good.sound.used, count.few)), omega (arith, good.sound.near, good.sound.used))

  pub cell-near : (k : ℕ) → k < s.rx.cells → distance_of (plus s.rx.rx_oldest.0 k) s.rx.rx_oldest.0 ≡ Some (pos k)
  cell-near k h = let o = s.rx.rx_oldest.0 in let e = past-plus o k good.shaped.oldest-u32 (omega (arith, count.few)) in past-told (plus o k) o (omega (arith, e, count.few)) ∙ ap (λ d. Some (pos d)) e
