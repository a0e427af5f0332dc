-- What the sending half's numbers say of the packet table. Assumes nothing.
use Rattle.std.specs.Prelude.{◌≡◌, Bool, true, ◌&&◌, ℕ, ◌%◌, ◌^◌, ◌<◌, leb, get_or}
use Rattle.seq.specs.Distance.{past}
use Rattle.engine.specs.declared.state.State.{State}
use Rattle.engine.specs.Sizes.{PACKETS}
use Rattle.engine.specs.Sound.{Sound, Shaped}
use Rattle.engine.specs.Packets.{no_packet}
use Rattle.engine.specs.Table.{in_table, looked_at, packet_of}
use Rattle.engine.specs.InTable.{looked-cell}
use Rattle.words.specs.declared.sending.SendingNumbers.{SendingNumbers}

-- the table holds the number: in_table of the engine, which looks at no more than these
abbrev pub held_in : SendingNumbers → ℕ → Bool
held_in n a = leb 1 (past n.tx_seq.0 a) && leb (past n.tx_seq.0 a) n.txed_count

-- ---- laws

-- the packet looked at is in the number's cell
pub cell-looked : (s : State) → Shaped s → Sound s → (n : ℕ) → n < 2 ^ 32 → in_table s.tx n ≡ true → get_or s.tx.txed_packets (n % PACKETS) no_packet ≡ looked_at s.tx n
unfolding packet_of
cell-looked s shaped fine n h held = looked-cell s shaped fine n h held
