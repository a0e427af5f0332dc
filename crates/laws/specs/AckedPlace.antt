-- Document 02, [9]: "Packet numbers are consecutive in every sound state and the index is taken from the distance, so the place
-- always holds the acked number." On this ground refusal 18 is gone. Assumes nothing.
use Rattle.std.specs.Prelude.{◌≡◌, ℕ, ◌^◌, ◌≤◌, ◌<◌}
use Rattle.std.proofs.Common.{le-leb}
use Rattle.refusal.specs.Tests.{join}
use Rattle.seq.specs.Numbers.{seq_of}
use Rattle.seq.specs.Distance.{past}
use Rattle.engine.specs.declared.state.State.{State}
use Rattle.engine.specs.Table.{in_table, looked_at}
use Rattle.engine.specs.InTable.{looked-number}
use Rattle.engine.specs.Sound.{Sound, Shaped}

-- "Let back = next number − a. If 1 ≤ back ≤ packet count, the packet at count − back is looked at": it holds a
pub place-holds : (s : State) (a : ℕ) → Shaped s → a < 2 ^ 32 → Sound s
    → 1 ≤ past s.tx.tx_seq.0 a
    → past s.tx.tx_seq.0 a ≤ s.tx.txed_count
    → (looked_at s.tx a).seq ≡ seq_of a
unfolding in_table
place-holds s a shaped u32 sound low high =
    let back = past s.tx.tx_seq.0 a in
    looked-number s shaped sound a u32 (join (le-leb 1 back low) (le-leb back s.tx.txed_count high))
