-- Document 01, "The replay program": what one line answers, and what it leaves of the replay, of the received store and of the records. A store
-- is the list of its bytes, a record space that of its words. Assumes nothing.
use Rattle.std.specs.Prelude.{◌≡◌, true, false, cond, List, [], ℕ, ◌≤◌, ◌<◌, leb, length, Some, None, Option, Ok, Err, Result}
use Rattle.refusal.specs.declared.Refusal.{Refusal}
use Rattle.std.proofs.Common.{ap, ◌∙◌, arith}
use borrow.Table.Steps.{cases}
use Rattle.refusal.specs.Refusals.{number_of}
use Rattle.refusal.specs.Tests.{split}
use Rattle.seq.specs.declared.Seq.{Seq}
use Rattle.msg.specs.declared.link_msg.LinkMsg.{LinkMsg}
use Rattle.msg.specs.declared.reliable.ReliableMsg.{ReliableMsg}
use Rattle.msg.specs.declared.reliable.ReliableMsg.TheVariants.{Data, Consumed, SendFinish, ReceiveClose, ReceiveFinish}
use Rattle.msg.specs.Reliable.{from_link}
use Rattle.engine.specs.declared.answer.Changed.{Changed}
use Rattle.engine.specs.Answer.{outcome_told}
use Rattle.engine.specs.Receiving.{receive_of, receive_store, receive_records}
use Rattle.replaying.specs.declared.session.Replay.{Replay}
use Rattle.replaying.specs.declared.session.Answered.{Answered}
use Rattle.text.specs.HexRun.{spells, spelt, spelt-length}
use Rattle.recording.specs.Frames.{MAX_LINE, frame_of, frame-long}
use Rattle.recording.specs.Payloads.{is_payload, long-is-no-payload}
use Rattle.replaying.specs.Taking.{Recorded, recorded, without_all, ended}

-- an answer, with the store and the records that it leaves
pub record Left : Type 0 where
  pub said : Answered
  pub store : List ℕ
  pub records : List ℕ

abbrev pub left : Answered → List ℕ → List ℕ → Left
left said store records = record { said = said; store = store; records = records }

-- the end of a frame: taking changes no byte
abbrev pub ended_with : ℕ → Recorded → List ℕ → Left
ended_with number h store = left (ended number h) store (without_all h).records

-- a message that reaches the engine, over link 0; the answer is the refusal's number, or 0
unfoldable pub received : Recorded → List ℕ → ReliableMsg → Seq → List ℕ → Left
unfolding ended without_all
received h store msg seq bytes =
    let r = receive_of h.state (length store) h.records 0 msg seq.0 (length bytes) in
    ended_with (outcome_told r.outcome).number
    (recorded r.state (receive_records h.state (length store) h.records 0 msg seq.0 (length bytes)))
    (receive_store h.state store h.records 0 msg seq.0 bytes)

-- "a line that reads as Data is followed by its payload line": it has no answer of its own
abbrev pub awaited : Recorded → List ℕ → Seq → Left
awaited h store seq = left (record { answer = None; replay = record { state = h.state; waiting = Some seq } }) store h.records

-- "Only Data, Consumed, SendFinish, ReceiveClose and ReceiveFinish reach the engine; other good frames answer 00"
abbrev pub after_reliable : Recorded → List ℕ → ReliableMsg → Seq → Left
after_reliable h store Data seq = awaited h store seq
after_reliable h store (Consumed n) seq = received h store (Consumed n) seq []
after_reliable h store SendFinish seq = received h store SendFinish seq []
after_reliable h store ReceiveClose seq = received h store ReceiveClose seq []
after_reliable h store ReceiveFinish seq = received h store ReceiveFinish seq []

abbrev pub after_carried : Recorded → List ℕ → Option (ReliableMsg × Seq) → Left
after_carried h store (Some (msg, seq)) = after_reliable h store msg seq
after_carried h store None = ended_with 0 h store

abbrev pub after_message : Recorded → List ℕ → LinkMsg → Left
after_message h store msg = after_carried h store (from_link msg)

-- "A bad line .. gives hex 14 (refusal 20)": what reading refuses with, which is 20; no payload line is taken with it
abbrev pub after_reading : Recorded → List ℕ → Result LinkMsg Refusal → Left
after_reading h store (Ok msg) = after_message h store msg
after_reading h store (Err e) = ended_with (number_of e) h store

-- "its payload line (possibly blank)"; "a bad or absent payload, or one over 1,024 bytes, gives hex 14": 2,048 digits
unfoldable pub after_payload : Recorded → List ℕ → Seq → List ℕ → Left
unfolding received ended without_all is_payload spelt
after_payload h store seq line = cond (is_payload line) (received h store Data seq (spelt line)) (ended_with 20 h store)

-- "one frame a line; a line that reads as Data is followed by its payload line"
abbrev pub answer_as : Option Seq → Recorded → List ℕ → List ℕ → Left
answer_as None h store line = after_reading h store (frame_of line)
answer_as (Some seq) h store line = after_payload h store seq line

unfoldable pub answer_of : Replay → (store records line : List ℕ) → Left
unfolding after_payload received ended without_all frame_of
answer_of r store records line = answer_as r.waiting (recorded r.state records) store line

-- ---- laws

-- the end of a frame, by what taking answers and leaves
pub ended-left : {a : Answered} {records : List ℕ} (number : ℕ) (h : Recorded) (store : List ℕ) → a ≡ ended number h → records ≡ (without_all h).records
    → left a store records ≡ ended_with number h store
ended-left {a} {records} number h store said kept = ap (λ x. left x store records) said ∙ ap (left (ended number h) store) kept

-- a message that is received, by what the engine answers and leaves, and then taking
pub received-left : {r : Changed} {a : Answered} {stored recorded₁ records : List ℕ} (h : Recorded) (store : List ℕ) (msg : ReliableMsg) (seq : Seq) (bytes : List ℕ)
    → r ≡ receive_of h.state (length store) h.records 0 msg seq.0 (length bytes) → stored ≡ receive_store h.state store h.records 0 msg seq.0 bytes
    → recorded₁ ≡ receive_records h.state (length store) h.records 0 msg seq.0 (length bytes)
    → a ≡ ended (outcome_told r.outcome).number (recorded r.state recorded₁) → records ≡ (without_all (recorded r.state recorded₁)).records
    → left a stored records ≡ received h store msg seq bytes
unfolding received
received-left {r} {stored = stored} {recorded₁ = recorded₁} h store msg seq bytes got put kept said taken =
    let g = receive_of h.state (length store) h.records 0 msg seq.0 (length bytes) in
    let number = (outcome_told g.outcome).number in
    ended-left (outcome_told r.outcome).number (recorded r.state recorded₁) stored said taken
    ∙ ap (λ x. ended_with (outcome_told x.outcome).number (recorded x.state recorded₁) stored) got
    ∙ ap (λ x. ended_with number (recorded g.state x) stored) kept
    ∙ ap (ended_with number (recorded g.state (receive_records h.state (length store) h.records 0 msg seq.0 (length bytes)))) put

-- the two cases of a payload's line
module _ (h : Recorded) (store : List ℕ) (seq : Seq) (line : List ℕ) where
  pub payload-bad : is_payload line ≡ false → after_payload h store seq line ≡ ended_with 20 h store
  unfolding after_payload
  payload-bad f = simp f

  pub payload-good : is_payload line ≡ true → after_payload h store seq line ≡ received h store Data seq (spelt line)
  unfolding after_payload
  payload-good t = simp t

-- what holds of the end of a frame, of a message that is received and of a Data that waits holds of what every line answers; no message
-- has more bytes than its line
module _ (P : Left → Type 0) (h : Recorded) (store line : List ℕ) (ends : (number : ℕ) → P (ended_with number h store))
    (receives : (msg : ReliableMsg) (seq : Seq) (bytes : List ℕ) → length bytes ≤ length line → P (received h store msg seq bytes)) (awaits : (seq : Seq) → P (awaited h store seq)) where
  every-reliable : (msg : ReliableMsg) (seq : Seq) → P (after_reliable h store msg seq)
  every-reliable Data seq = awaits seq
  every-reliable (Consumed n) seq = receives (Consumed n) seq [] (omega arith)
  every-reliable SendFinish seq = receives SendFinish seq [] (omega arith)
  every-reliable ReceiveClose seq = receives ReceiveClose seq [] (omega arith)
  every-reliable ReceiveFinish seq = receives ReceiveFinish seq [] (omega arith)

  every-carried : (carried : Option (ReliableMsg × Seq)) → P (after_carried h store carried)
  every-carried (Some (msg, seq)) = every-reliable msg seq
  every-carried None = ends 0

  every-reading : (reading : Result LinkMsg Refusal) → P (after_reading h store reading)
  every-reading (Ok msg) = every-carried (from_link msg)
  every-reading (Err e) = ends (number_of e)

  every-payload : (seq : Seq) → P (after_payload h store seq line)
  unfolding is_payload
  every-payload seq =
      cases (is_payload line)
      (λ t.
      let half = spelt-length line (split (leb (length line) 2048) (spells line) t).1 in
      rw (payload-good h store seq line t) (receives Data seq (spelt line) (omega (arith, half))))
      (λ f. rw (payload-bad h store seq line f) (ends 20))

  pub every-answer : (w : Option Seq) → P (answer_as w h store line)
  every-answer None = every-reading (frame_of line)
  every-answer (Some seq) = every-payload seq

-- a line that is too long is bad, whatever the replay waits for
long_as : (w : Option Seq) (h : Recorded) (store line : List ℕ) → MAX_LINE < length line → answer_as w h store line ≡ ended_with 20 h store
long_as None h store line l = ap (after_reading h store) (frame-long line l)
long_as (Some seq) h store line l = payload-bad h store seq line (long-is-no-payload line (omega arith))

pub long-answer : (r : Replay) (store records line : List ℕ) → MAX_LINE < length line → answer_of r store records line ≡ ended_with 20 (recorded r.state records) store
unfolding answer_of
long-answer r store records line l = long_as r.waiting (recorded r.state records) store line l
