-- Demand 3 as a statement: of what a sends to b; by `swap` also of what b sends to a. Nothing here names a ring, a table's cells or
-- a window. Its proof is `demand3` of proofs/Theorem.antt. Assumes nothing.
use Rattle.std.specs.Prelude.{◌≡◌, cond, ℕ, ◌+◌, ◌≤◌, ◌<◌, length, get_or, Ok, Err}
use mathlib.Core.List.{List, [], ◌∷◌, ◌++◌, Memᴰ}
use Rattle.seq.specs.Numbers.{plus}
use Rattle.msg.specs.declared.reliable.ReliableMsg.TheVariants as msgs
use Rattle.refusal.specs.Refusals.{refuse}
use Rattle.engine.specs.declared.state.SentReliableStatus.{SentReliableStatus}
use Rattle.engine.specs.declared.state.SentReliableStatus.TheVariants.{Sent, Received, ResendQueued}
use Rattle.engine.specs.Records.{is_ready_kind}
use Rattle.engine.specs.Table.{packet_of}
use Rattle.engine.specs.Acking.{ack_of}
use Rattle.engine.specs.HandingOut.{take_of}
use Rattle.laws.specs.Calls as calls
use Rattle.ends.specs.World.{Msg, Packet, World, swap, called, newest, Brought, BroughtAck, AckFor, TimelyAck, Acked, Step, at_a, Run, ◌then◌, Fresh}

abbrev pub no_msg : Msg
no_msg = record { kind = msgs.Data; bytes = [] }

-- "the data and finish marks (SendFinish)" among some messages
unfoldable pub handed : List Msg → List Msg
handed [] = []
handed (m ∷ ms) = cond (is_ready_kind m.kind) (m ∷ handed ms) (handed ms)

abbrev pub Beginning : List Msg → List Msg → Type 0
Beginning xs ys = (zs : List Msg) × (ys ≡ xs ++ zs)

-- 1. "the data and finish marks (SendFinish) one end hands out are a beginning of those the other was given, bytes and order equal"
abbrev pub Safe : World → Type 0
Safe W = Beginning W.b.out (handed W.a.given)

-- message i of those that were given is among what was accepted
abbrev pub IsAccepted : List Packet → List Msg → ℕ → Type 0
IsAccepted accepted given i = (p : Packet) × Memᴰ p accepted × (p.index ≡ i) × (p.msg ≡ get_or given i no_msg)

-- message i of those that a was given has been accepted by b, by a call not refused
abbrev pub Accepted : World → ℕ → Type 0
Accepted W i = IsAccepted W.b.accepted W.a.given i

-- "an end's packet table is empty"
abbrev pub Emptied : World → Type 0
Emptied W = W.a.state.tx.txed_count ≡ 0

-- 2. "when an end's packet table is empty, the other has accepted everything that end was given (given means by a call not refused)"
abbrev pub Complete : World → Type 0
Complete W = Emptied W → (i : ℕ) → i < length W.a.given → Accepted W i

-- the stronger end: with nothing left to take, what b handed out is all that a was given
abbrev pub AllOut : World → Type 0
AllOut W = Emptied W → (take_of W.b.state W.b.records).answer ≡ Err (refuse 19 tt) → W.b.out ≡ handed W.a.given

-- the status of the packet of message i
abbrev pub status_of : World → ℕ → SentReliableStatus
status_of W i = (packet_of W.a.state.tx (plus W.start i)).status

-- "the packet is Sent there"
abbrev pub SentOver : SentReliableStatus → ℕ → Type 0
SentOver (Sent flight) slot = flight.slot ≡ slot
SentOver Received slot = ⊥
SentOver (ResendQueued link) slot = ⊥

-- in a run, "its ack returns on that link while the packet is Sent there, unrefused too": an ack of its number. That the packet "arrives
-- over it unrefused" isn't asked for: `timely` says that a message of the number was accepted, over whatever link
pub data Returned (U : World) (i : ℕ) : (W : World) → Run U W → Type 0 where
  now : {W : World} (r : Run U W) (slot time n : ℕ) (brought : BroughtAck n W.ba) (timely : TimelyAck n W.a W.b)
      → n ≡ plus W.start i → SentOver (status_of W i) slot → (ack_of W.a.state slot time n).outcome ≡ Ok tt
      → Returned U i (called W (calls.Ack slot time n)) (◌then◌ r (at_a (Acked slot time n brought timely)))
  earlier : {W X : World} {r : Run U W} (x : Step W X) → Returned U i W r → Returned U i X (◌then◌ r x)

-- "each packet not yet Received": message i is in a's table, and not Received
pub record Open (W : World) (i : ℕ) : Type 0 where
  pub given : i < length W.a.given
  pub in-table : length W.a.given ≤ i + W.a.state.tx.txed_count
  pub unreceived : status_of W i ≡ Received → ⊥

-- "sending stops": nothing is given to a from U to W
abbrev pub Stops : World → World → Type 0
Stops U W = length W.a.given ≡ length U.a.given

-- 3. "If sending stops, and each packet not yet Received .. its ack returns on that link .., the table becomes empty"
abbrev pub Drains : World → Type 0
Drains U = (W : World) (r : Run U W) → Stops U W → ((i : ℕ) → Open U i → Returned U i W r) → Emptied W

-- what the observer wrote beside a message is so: `index` is its place among those that a was given, its number and content are of that place
pub record Labelled (start : ℕ) (given : List Msg) (p : Packet) : Type 0 where
  pub inside : p.index < length given
  pub number_is : p.number ≡ plus start p.index
  pub msg-is : p.msg ≡ get_or given p.index no_msg

-- .. of each message of a that is on the links or that b accepted. The next number is that of the place after all that was given, and an ack
-- on the links is for a message that was accepted: so Timely and TimelyAck say how late is too late, and nothing else
pub record Pinned (W : World) : Type 0 where
  pub next-is : W.a.state.tx.tx_seq.0 ≡ plus W.start (length W.a.given)
  pub put : (p : Packet) → Brought p W.ab → Labelled W.start W.a.given p
  pub accepted : (p : Packet) → Memᴰ p W.b.accepted → Labelled W.start W.a.given p
  -- a packet in the table is the newest of its number: so what Resend writes down is the place of the packet that it resends
  pub resent : (i : ℕ) → i < length W.a.given → length W.a.given ≤ i + W.a.state.tx.txed_count → newest W.start (length W.a.given) (plus W.start i) ≡ i
  pub acks : (n : ℕ) → BroughtAck n W.ba → AckFor n W.b.accepted

-- in both directions, at every point of every run
pub record Demand3 : Type 0 where
  pub safe : (U W : World) → Fresh U → Run U W → Safe W × Safe (swap W)
  pub complete : (U W : World) → Fresh U → Run U W → Complete W × Complete (swap W)
  pub all-out : (U W : World) → Fresh U → Run U W → AllOut W × AllOut (swap W)
  pub drains : (U W : World) → Fresh U → Run U W → Drains W × Drains (swap W)
  pub pinned : (U W : World) → Fresh U → Run U W → Pinned W × Pinned (swap W)
