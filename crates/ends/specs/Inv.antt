-- The invariant: what is true of what a sends to b after any calls, beside the soundness of both states. `e` and `o` are the next expected and the
-- oldest number, counted without wrapping from `s`, the start. G is what was given. Assumes nothing.
use Rattle.std.specs.Prelude.{◌≡◌, true, ◌⊎◌, ℕ, ◌+◌, ◌*◌, ◌≤◌, ◌<◌, length, get_or, take, Some}
use Rattle.engine.specs.Held.{Held}
use mathlib.Core.List.{List, Memᴰ}
use Rattle.seq.specs.declared.Seq.{Seq}
use Rattle.seq.specs.Numbers.{plus}
use Rattle.link.specs.Acks.{waiting}
use Rattle.engine.specs.declared.state.State.{State}
use Rattle.engine.specs.declared.state.SentReliable.{SentReliable}
use Rattle.engine.specs.Packets.{no_packet, packets, is_received}
use Rattle.engine.specs.Records.{is_full, is_ready_kind}
use Rattle.engine.specs.Received.{table_of, cell_of}
use Rattle.engine.specs.Rows.{row_of}
use Rattle.engine.specs.Sizes.{PACKETS, DATA_BYTES}
use Rattle.ends.specs.World.{Msg, Packet, World, AckFor}
use Rattle.ends.specs.Demand.{no_msg, handed, IsAccepted, Labelled}
use Rattle.ends.specs.Store.{cell_bytes}

abbrev pub at : List Msg → ℕ → Msg
at G j = get_or G j no_msg

-- ---- the sending end

-- a packet of the table carries message j; if it is Received, the other end has the message (H)
pub record Carries (s : ℕ) (store : List ℕ) (H : ℕ → Type 0) (j : ℕ) (p : SentReliable) (m : Msg) : Type 0 where
  pub number_is : p.seq.0 ≡ plus s j
  pub kind-is : p.msg ≡ m.kind
  pub len_is : p.len ≡ length m.bytes
  pub bytes-is : cell_bytes PACKETS store (plus s j) (length m.bytes) ≡ m.bytes
  pub received : is_received p.status ≡ true → H j

-- the table carries the last messages that were given: packet i of it message j, both counted from their ends
pub record TxI (s : ℕ) (G : List Msg) (next : ℕ) (ps : List SentReliable) (store : List ℕ) (e : ℕ) (H : ℕ → Type 0) : Type 0 where
  pub next-is : next ≡ plus s (length G)
  pub room : length ps ≤ PACKETS
  pub within : length ps ≤ length G
  -- what isn't in the table any more is before the next expected
  pub tight : length G ≤ e + length ps
  pub store_long : length store ≡ PACKETS * DATA_BYTES
  pub each : (i j : ℕ) → i < length ps → j + length ps ≡ length G + i → Carries s store H j (get_or ps i no_packet) (at G j)

-- ---- the receiving end, of N cells; c is what the cell of a number holds

-- a cell holds message j
pub record Holds (N s : ℕ) (store : List ℕ) (j : ℕ) (h : Held) (m : Msg) : Type 0 where
  pub cell-is : h ≡ Some (m.kind, (length m.bytes))
  pub bytes-is : cell_bytes N store (plus s j) (length m.bytes) ≡ m.bytes

pub record RxI (N s : ℕ) (G : List Msg) (expected oldest : ℕ) (c : ℕ → Held) (store : List ℕ) (e o : ℕ) : Type 0 where
  pub exp-is : expected ≡ plus s e
  pub old-is : oldest ≡ plus s o
  pub oe : o ≤ e
  pub eo : e ≤ o + N
  pub en : e ≤ length G
  pub store_long : length store ≡ N * DATA_BYTES
  pub held : (j : ℕ) → o ≤ j → j < o + N → is_full (c (plus s j)) ≡ true → (j < length G) × Holds N s store j (c (plus s j)) (at G j)
  pub ready : (j : ℕ) → o ≤ j → j < e → is_full (c (plus s j)) ≡ is_ready_kind (at G j).kind

-- message j has been accepted
abbrev pub Has : ℕ → ℕ → (ℕ → Held) → ℕ → ℕ → ℕ → Type 0
Has N s c e o j = (j < e) ⊎ ((e ≤ j) × (j < o + N) × (is_full (c (plus s j)) ≡ true))

-- ---- the links: what was put on them, and what was accepted, are messages that were given; just those accepted are had

pub record LinkI (s : ℕ) (G : List Msg) (H : ℕ → Type 0) (msgs accepted : List Packet) : Type 0 where
  pub put : (p : Packet) → Memᴰ p msgs → Labelled s G p
  pub taken : (p : Packet) → Memᴰ p accepted → Labelled s G p × H p.index
  pub had : (j : ℕ) → j < length G → H j → IsAccepted accepted G j

-- ---- all of it

-- one direction: what the sending end holds and was given, what is on the links, what the receiving end holds, handed out and accepted, and the acks that it put
pub record Way : Type 0 where
  pub start : ℕ
  pub sender : State
  pub sent : List ℕ
  pub given : List Msg
  pub msgs : List Packet
  pub receiver : State
  pub received : List ℕ
  pub records : List ℕ
  pub out : List Msg
  pub accepted : List Packet
  pub acks : List ℕ

-- from a to b
abbrev pub way : World → Way
way W = record {
  start = W.start;
  sender = W.a.state;
  sent = W.a.sent;
  given = W.a.given;
  msgs = W.ab.msgs;
  receiver = W.b.state;
  received = W.b.received;
  records = W.b.records;
  out = W.b.out;
  accepted = W.b.accepted;
  acks = W.ba.acks;
}

-- what the cell of a number holds at the receiving end, of N cells
abbrev pub cells_of : ℕ → Way → ℕ → Held
cells_of N w = cell_of N (table_of w.receiver.rx w.records)

abbrev pub HasAt : ℕ → Way → ℕ → ℕ → ℕ → Type 0
HasAt N w e o j = Has N w.start (cells_of N w) e o j

pub record InvAt (w : Way) (N : ℕ) : Type 0 where
  pub e : ℕ
  pub o : ℕ
  pub small : (j : ℕ) → j < length w.given → length (at w.given j).bytes ≤ DATA_BYTES
  pub txi : TxI w.start w.given w.sender.tx.tx_seq.0 (packets w.sender.tx) w.sent e (HasAt N w e o)
  pub rxi : RxI N w.start w.given w.receiver.rx.rx_seq.0 w.receiver.rx.rx_oldest.0 (cells_of N w) w.received e o
  pub links : LinkI w.start w.given (HasAt N w e o) w.msgs w.accepted
  pub out-is : w.out ≡ handed (take o w.given)
  -- each ack that waits, or that was put on the links, is for a message that was accepted
  pub acked : (n : ℕ) → Memᴰ n w.acks → AckFor n w.accepted
  pub waits : (slot : ℕ) (seq : Seq) → Memᴰ seq (waiting (row_of w.receiver slot)) → AckFor seq.0 w.accepted

-- .. of as many cells as the receiving end has
abbrev pub Inv : Way → Type 0
Inv w = InvAt w w.receiver.rx.cells
