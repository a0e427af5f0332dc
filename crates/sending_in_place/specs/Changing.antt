-- The packets of the table changed in their places: what a loop over them does in a turn. Assumes nothing.
use Rattle.std.specs.Prelude.{◌≡◌, refl, ℕ, ◌+◌, ◌-◌, ◌%◌, ◌≤◌, ◌<◌, get_or, set}
use Rattle.std.proofs.Common.{sym, ◌∙◌, arith}
use Rattle.std.proofs.Math.Path.{ap}
use mathlib.Core.List.{List, map}
use Rattle.engine.specs.declared.state.SentReliable.{SentReliable}
use Rattle.engine.specs.declared.state.State.{State}
use Rattle.engine.specs.Sizes.{PACKETS}
use Rattle.engine.specs.Fields.{with_tx, with_packets}
use Rattle.engine.specs.Ring.{window, refilled, next_cell, next-cell-lt, change-step, change-none}
use Rattle.engine.specs.Packets.{no_packet, packets, first_of}
use Rattle.engine.specs.Table.{with_table}

-- so many packets from a cell on are still to be changed
pub record Changing (f : SentReliable → SentReliable) (s then : State) (at left : ℕ) : Type 0 where
  pub cell : at < PACKETS
  pub few : left ≤ PACKETS
  pub others : then ≡ with_tx s (with_packets s.tx then.tx.txed_packets)
  pub rest : refilled PACKETS then.tx.txed_packets at (map f (window PACKETS no_packet then.tx.txed_packets at left)) ≡ refilled PACKETS s.tx.txed_packets (first_of s.tx % PACKETS) (map f (packets s.tx))

module _ (f : SentReliable → SentReliable) where
  pub change-start : (s : State) → s.tx.txed_count ≤ PACKETS → Changing f s s (first_of s.tx % PACKETS) s.tx.txed_count
  change-start s few = record { cell = omega arith; few = few; others = refl; rest = refl }

  pub change-turn : (s then next : State) (at left : ℕ) → Changing f s then at left → 0 < left
      → next ≡ with_tx then (with_packets then.tx (set then.tx.txed_packets at (f (get_or then.tx.txed_packets at no_packet))))
      → Changing f s next (next_cell PACKETS at) (left - 1)
  change-turn s then next at left h some e =
      let old = then.tx.txed_packets in
      let new : next.tx.txed_packets ≡ set old at (f (get_or old at no_packet)) = ap (λ (t : State). t.tx.txed_packets) e in
      record {
        cell = next-cell-lt PACKETS at (omega arith);
        few = omega (arith, h.few);
        others =
            e
            ∙ ap (λ (t : State). with_tx t (with_packets t.tx (set old at (f (get_or old at no_packet))))) h.others
            ∙ ap (λ (ps : List SentReliable). with_tx s (with_packets s.tx ps)) (sym new);
        rest = rw new (sym (change-step PACKETS no_packet f old at left h.cell some h.few) ∙ h.rest);
      }

  pub change-end : (s then : State) (at left : ℕ) → Changing f s then at left → left ≤ 0 → then ≡ with_tx s (with_table s.tx (map f (packets s.tx)))
  unfolding with_table
  change-end s then at left h none =
      h.others
      ∙ ap (λ (ps : List SentReliable). with_tx s (with_packets s.tx ps)) (sym (change-none PACKETS no_packet f then.tx.txed_packets at left none) ∙ h.rest)

-- nothing is taken off at the first turn of a loop, and one more at each next
pub none-done : (n : ℕ) → n ≡ n - 0
none-done n = omega arith

pub one-done : (n k : ℕ) → n - k - 1 ≡ n - (k + 1)
one-done n k = omega arith
