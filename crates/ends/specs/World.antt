-- Two ends and the links between them. What a call does is `next` of the calls' list, in the definitions that the calls' promises cite. An observer writes
-- down beside it what was given, handed out and accepted; no call sees that, and `Pinned` of Demand says that it is right. A reader needs
-- this file, Demand, the list of calls (Calls of the crate `laws`) and those definitions. Assumes nothing.
use Rattle.std.specs.Prelude.{◌≡◌, ℕ, ◌+◌, ◌-◌, ◌*◌, ◌^◌, ◌<◌, length, take, drop, Ok, Err, Result}
use Rattle.refusal.specs.declared.Refusal.{Refusal}
use Rattle.seq.specs.declared.Seq.{Seq}
use Rattle.engine.specs.Held.{HandOut}
use mathlib.Core.List.{List, [], ◌∷◌, ◌++◌, Memᴰ}
use Rattle.seq.specs.Numbers.{plus, minus}
use Rattle.msg.specs.declared.reliable.ReliableMsg.{ReliableMsg}
use Rattle.engine.specs.declared.state.State.{State}
use Rattle.engine.specs.Stores.{cell_start}
use Rattle.engine.specs.Starting.{fresh_of, fresh_records}
use Rattle.engine.specs.Sending.{send_of}
use Rattle.engine.specs.Resending.{resend_of}
use Rattle.engine.specs.Receiving.{receive_of}
use Rattle.engine.specs.HandingOut.{shown_of, take_of, take_ack_of}
use Rattle.engine.specs.Sizes.{PACKETS, DATA_BYTES, SENT_BYTES}
use Rattle.laws.specs.Calls as calls

-- ---- what there is

-- "a message (a Data with its payload is one)": a kind, with a Consumed's count in it, and the bytes
pub record Msg : Type 0 where
  pub kind : ReliableMsg
  pub bytes : List ℕ

-- a message on a link. `index` is its place among all that its sender was given, from 0: its number less the start, "counted without wrapping".
-- It is the observer's: no call sees it, and it decides until when the message may arrive (Timely)
pub record Packet : Type 0 where
  pub index : ℕ
  pub number : ℕ
  pub msg : Msg

-- an end: its state, its two stores and its records; then what the observer writes down
pub record End : Type 0 where
  pub state : State
  pub sent : List ℕ
  pub received : List ℕ
  pub records : List ℕ
  -- what its accepted Sends were given, in order
  pub given : List Msg
  -- what it handed out, in order
  pub out : List Msg
  -- what its Receives accepted, the last first
  pub accepted : List Packet

-- all that one end ever put on the links; an ack is the number that it acks. "links that lose, repeat, delay and reorder": any of it
-- arrives at any time, any number of times, over any link, or never
pub record Wire : Type 0 where
  pub msgs : List Packet
  pub acks : List ℕ

pub record World : Type 0 where
  pub start : ℕ
  pub a : End
  pub b : End
  -- put by a, and put by b
  pub ab : Wire
  pub ba : Wire

-- the same two ends, named the other way round
abbrev pub swap : World → World
swap W = record { start = W.start; a = W.b; b = W.a; ab = W.ba; ba = W.ab }

-- ---- what a call at `a` does

-- what an end holds
abbrev pub holds : End → calls.Holding
holds e = record { state = e.state; sent = e.sent; received = e.received; records = e.records }

-- the world with what a call left of that, and with what the observer then has written down; b and what it put are left alone
abbrev pub written : World → calls.Holding → (given out : List Msg) (accepted msgs : List Packet) (acks : List ℕ) → World
written W h given out accepted msgs acks = record {
  start = W.start;
  a = record { state = h.state; sent = h.sent; received = h.received; records = h.records; given = given; out = out; accepted = accepted };
  b = W.b;
  ab = record { msgs = msgs; acks = acks };
  ba = W.ba;
}

-- a call of which nothing is written down: "each call given the last call's state and stores"
abbrev pub called : World → calls.Call → World
called W c = written W (calls.next c (holds W.a)) W.a.given W.a.out W.a.accepted W.ab.msgs W.ab.acks

-- ---- and what the observer writes down, by the call's answer: of a refused call nothing

-- "an accepted Send": what was given, "by a call not refused", is put on the links
abbrev pub given_by : Result Seq Refusal → List Msg → Msg → List Msg
given_by (Ok seq) given m = given ++ (m ∷ [])
given_by (Err r) given m = given

abbrev pub put_by : Result Seq Refusal → List Packet → ℕ → Msg → List Packet
put_by (Ok seq) msgs index m = record { index = index; number = seq.0; msg = m } ∷ msgs
put_by (Err r) msgs index m = msgs

unfoldable pub send_at : World → ℕ → ℕ → Msg → World
send_at W slot time m =
    let answer = (send_of W.a.state (length W.a.sent) slot time m.kind (length m.bytes)).answer in
    let call = calls.Send slot time m.kind m.bytes in
    written W (calls.next call (holds W.a)) (given_by answer W.a.given m) W.a.out W.a.accepted
    (put_by answer W.ab.msgs (length W.a.given) m) W.ab.acks

-- of the messages given from number `start` on, the index of the newest that has number n
abbrev pub newest : ℕ → ℕ → ℕ → ℕ
newest start given n = given - minus (plus start given) n

-- "an accepted Resend (with its sent cell)": what it answers is put on the links, with the bytes of the number's sent cell
abbrev pub put_again_by : Result (ReliableMsg × ℕ) Refusal → World → ℕ → List Packet
put_again_by (Ok (kind, len)) W n =
    record { index = newest W.start (length W.a.given) n; number = n; msg = record { kind = kind; bytes = take len (drop (cell_start PACKETS n) W.a.sent) } } ∷ W.ab.msgs
put_again_by (Err r) W n = W.ab.msgs

unfoldable pub resend_at : World → ℕ → ℕ → ℕ → World
resend_at W slot time n =
    written W (calls.next (calls.Resend slot time n) (holds W.a)) W.a.given W.a.out W.a.accepted
    (put_again_by (resend_of W.a.state slot time n).answer W n) W.ab.acks

-- Receive: what isn't refused is accepted
abbrev pub accepted_by : Result Unit Refusal → List Packet → Packet → List Packet
accepted_by (Ok tt) accepted p = p ∷ accepted
accepted_by (Err r) accepted p = accepted

unfoldable pub receive_at : World → ℕ → Packet → World
receive_at W slot p =
    let outcome = (receive_of W.a.state (length W.a.received) W.a.records slot p.msg.kind p.number (length p.msg.bytes)).outcome in
    let call = calls.Receive slot p.msg.kind p.number p.msg.bytes in
    written W (calls.next call (holds W.a)) W.a.given W.a.out (accepted_by outcome W.a.accepted p) W.ab.msgs W.ab.acks

-- Take: what was handed out is the kind that taking answers, with the bytes that showing gives before it
abbrev pub out_by : HandOut → List Msg → List ℕ → List Msg
out_by (Ok (kind, seq, len)) out shown = out ++ (record { kind = kind; bytes = shown } ∷ [])
out_by (Err r) out shown = out

unfoldable pub take_at : World → World
take_at W =
    written W (calls.next calls.Take (holds W.a)) W.a.given
    (out_by (take_of W.a.state W.a.records).answer W.a.out (shown_of W.a.state W.a.received W.a.records)) W.a.accepted
    W.ab.msgs W.ab.acks

-- "the taking of an ack": it is put on the links
abbrev pub put_ack_by : Result Seq Refusal → List ℕ → List ℕ
put_ack_by (Ok seq) numbers = seq.0 ∷ numbers
put_ack_by (Err r) numbers = numbers

unfoldable pub take_ack_at : World → ℕ → World
take_ack_at W slot =
    written W (calls.next (calls.TakeAck slot) (holds W.a)) W.a.given W.a.out W.a.accepted W.ab.msgs
    (put_ack_by (take_ack_of W.a.state slot).answer W.ab.acks)

-- ---- the premises

-- "never alter or invent a message"; "Receive and ack calls are given only what a link brings from the other end"
abbrev pub Brought : Packet → Wire → Type 0
Brought p w = Memᴰ p w.msgs

abbrev pub BroughtAck : ℕ → Wire → Type 0
BroughtAck n w = Memᴰ n w.acks

-- "2^30 or more behind the next number"
abbrev pub BEHIND : ℕ
BEHIND = 2 ^ 30

-- "No message or ack arrives once its number is 2^30 or more behind the next number of the end that sent the message": its next number
-- is that of the place after all that it was given
abbrev pub Timely : ℕ → End → Type 0
Timely index sender = length sender.given < index + BEHIND

-- "for an ack the message it acks": a message of that number, accepted where the ack was made
pub record AckFor (n : ℕ) (accepted : List Packet) : Type 0 where
  pub message : Packet
  pub member : Memᴰ message accepted
  pub numbered : message.number ≡ n

-- an ack needs no label: that a message of its number that was accepted is timely is enough
pub record TimelyAck (n : ℕ) (sender receiver : End) : Type 0 where
  pub acked : AckFor n receiver.accepted
  pub timely : Timely acked.message.index sender

-- ---- "whatever calls are made or refused (a second fresh state isn't one of them)": every call of the list. Receive and ack are given what the
-- links bring in time, and every other call what one likes

pub data Call : World → World → Type 0 where
  Other : {W : World} (c : calls.Call) → calls.Unnoted c → calls.Typed c → Call W (called W c)
  Send : {W : World} (slot time : ℕ) (m : Msg) → Call W (send_at W slot time m)
  Resend : {W : World} (slot time n : ℕ) → n < 2 ^ 32 → Call W (resend_at W slot time n)
  Receive : {W : World} (slot : ℕ) (p : Packet) → Brought p W.ba → Timely p.index W.b → Call W (receive_at W slot p)
  Acked : {W : World} (slot time n : ℕ) → BroughtAck n W.ba → TimelyAck n W.a W.b → Call W (called W (calls.Ack slot time n))
  Take : {W : World} → Call W (take_at W)
  TakeAck : {W : World} (slot : ℕ) → Call W (take_ack_at W slot)

pub data Step : World → World → Type 0 where
  at_a : {W X : World} → Call W X → Step W X
  at_b : {W X : World} → Call (swap W) (swap X) → Step W X

-- any finite sequence of calls
pub data Run (W : World) : World → Type 0 where
  here : Run W W
  ◌then◌ : {X Y : World} → Run W X → Step X Y → Run W Y

-- ---- "two fresh ends, started at the same number"

abbrev pub fresh_end : (start buffer cells : ℕ) (sent received records : List ℕ) → End
fresh_end start buffer cells sent received records = record {
  state = (fresh_of start buffer cells (length records)).state;
  sent = sent;
  received = received;
  records = fresh_records buffer cells records;
  given = [];
  out = [];
  accepted = [];
}

abbrev pub silent : Wire
silent = record { msgs = []; acks = [] }

abbrev pub fresh_world : ℕ → End → End → World
fresh_world start a b = record { start = start; a = a; b = b; ab = silent; ba = silent }

-- any number; at each end a setting of the receive buffer, a cell count and a record space that aren't refused, whatever the records held; and the two stores of
-- its size, with any bytes in them
pub data Fresh : World → Type 0 where
  fresh : (start buffer-a cells-a buffer-b cells-b : ℕ) (sent-a received-a records-a sent-b received-b records-b : List ℕ) → start < 2 ^ 32
      → (fresh_of start buffer-a cells-a (length records-a)).outcome ≡ Ok tt → (fresh_of start buffer-b cells-b (length records-b)).outcome ≡ Ok tt
      → length sent-a ≡ SENT_BYTES → length received-a ≡ cells-a * DATA_BYTES → length sent-b ≡ SENT_BYTES → length received-b ≡ cells-b * DATA_BYTES
      → Fresh (fresh_world start (fresh_end start buffer-a cells-a sent-a received-a records-a) (fresh_end start buffer-b cells-b sent-b received-b records-b))
