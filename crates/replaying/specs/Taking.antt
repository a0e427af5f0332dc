-- Document 01, "The replay program": "acks and ready messages are taken after each frame". Assumes nothing.
use Rattle.std.specs.Prelude.{Bool, true, false, List, ℕ, Some, None, Ok, Err, Result}
use Rattle.refusal.specs.declared.Refusal.{Refusal}
use Rattle.seq.specs.declared.Seq.{Seq}
use Rattle.engine.specs.Held.{HandOut}
use Rattle.link.specs.Sizes.{ACKS}
use Rattle.engine.specs.declared.state.State.{State}
use Rattle.engine.specs.HandingOut.{take_ack_of, take_of, take_records}
use Rattle.engine.specs.Turns.{turns}
use Rattle.replaying.specs.declared.session.Answered.{Answered}
use Rattle.replaying.specs.Sizes.{CELLS}

abbrev pub is_ack : Result Seq Refusal → Bool
is_ack (Ok seq) = true
is_ack (Err e) = false

abbrev pub is_message : HandOut → Bool
is_message (Ok (msg, seq, len)) = true
is_message (Err e) = false

-- "acks .. are taken": link 0's, until taking one is refused, and at most n
abbrev pub has_ack : State → Bool
has_ack s = is_ack (take_ack_of s 0).answer

abbrev pub after_ack : State → State
after_ack s = (take_ack_of s 0).state

abbrev pub without_acks : ℕ → State → State
without_acks n s = turns has_ack after_ack n s

-- a state, with the records that are lent with it
pub record Recorded : Type 0 where
  pub state : State
  pub records : List ℕ

abbrev pub recorded : State → List ℕ → Recorded
recorded s records = record { state = s; records = records }

-- "ready messages are taken": until taking one is refused, and at most n
abbrev pub has_message : Recorded → Bool
has_message h = is_message (take_of h.state h.records).answer

abbrev pub after_message : Recorded → Recorded
after_message h = recorded (take_of h.state h.records).state (take_records h.state h.records)

abbrev pub without_ready : ℕ → Recorded → Recorded
without_ready n h = turns has_message after_message n h

-- at most ACKS acks wait on a link, and at most CELLS messages are ready
unfoldable pub without_all : Recorded → Recorded
without_all h = without_ready CELLS (recorded (without_acks ACKS h.state) h.records)

-- "It writes one line a frame: answer .., next expected number": the end of a frame with this answer
unfoldable pub ended : ℕ → Recorded → Answered
unfolding without_all
ended number h = record {
  answer = Some (number, (without_all h).state.rx.rx_seq);
  replay = record { state = (without_all h).state; waiting = None };
}
