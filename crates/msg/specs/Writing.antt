-- Document 01, "Message bytes (002)": what writing answers, and what the lent buffer holds afterwards. Assumes nothing.
use Rattle.std.specs.Prelude.{Bool, true, false, cond, not, ◌&&◌, ◌||◌, ◌≡◌, List, [], ◌∷◌, ◌++◌, ℕ, leb, length, drop, Ok, Err, Result}
use Rattle.refusal.specs.declared.Refusal.{Refusal}
use Rattle.refusal.specs.Refusals.{refuse}
use Rattle.refusal.specs.Answers.{Told, success, refused, told_by}
use Rattle.refusal.specs.Verdicts.{Verdict, gate}
use borrow.Table.Steps.{cases}
use Rattle.msg.specs.declared.link_msg.LinkMsg.{LinkMsg}
use Rattle.msg.specs.declared.link_msg.LinkMsg.TheVariants.{Welcome, Connect, Accepted, Refused, Ping, Pong, Data, Ack, Consumed, SendFinish, ReceiveClose, ReceiveFinish, TestData, SetBlock, Goodbye, Terminate}
use Rattle.msg.specs.Messages.{bytes_of}

-- "asking to write one" (a Welcome or Connect), "or what reading refuses, gives 20 whatever the buffer": what reading
-- refuses is a TestData above 1,024 (`unwritable-is-unreadable` of RoundTrip)
abbrev pub writable : LinkMsg → Bool
writable Welcome = false
writable Connect = false
writable Accepted = true
writable (Refused reason) = true
writable Ping = true
writable Pong = true
writable (Data seq) = true
writable (Ack received) = true
writable (Consumed seq consumed) = true
writable (SendFinish seq) = true
writable (ReceiveClose seq) = true
writable (ReceiveFinish seq) = true
writable (TestData size) = leb size 1024
writable (SetBlock blocked) = true
writable Goodbye = true
writable Terminate = true

-- the paper's number for an answer, and how many bytes were written
abbrev pub written_told : Result ℕ Refusal → Told
written_told (Ok n) = success (n ∷ [])
written_told (Err e) = refused e

-- "an output buffer too short" gives 7, but 20 is given "whatever the buffer"
unfoldable pub write_verdict : LinkMsg → ℕ → Verdict
write_verdict msg room = gate (not (writable msg) || leb (length (bytes_of msg)) room) 7 (gate (writable msg) 20 (Ok tt))

unfoldable pub write_of : LinkMsg → List ℕ → Result ℕ Refusal
write_of msg buffer =
    cond (writable msg)
    (cond (leb (length (bytes_of msg)) (length buffer))
    (Ok (length (bytes_of msg)))
    (Err (refuse 7 tt)))
    (Err (refuse 20 tt))

-- "Writing touches only the message's own bytes": they stand at the buffer's start, and a refusal leaves all as it came
unfoldable pub buffer_of : LinkMsg → List ℕ → List ℕ
buffer_of msg buffer =
    cond (writable msg && leb (length (bytes_of msg)) (length buffer))
    (bytes_of msg ++ drop (length (bytes_of msg)) buffer)
    buffer

pub write-told : (msg : LinkMsg) (buffer : List ℕ) → written_told (write_of msg buffer) ≡ told_by (write_verdict msg (length buffer)) (length (bytes_of msg) ∷ [])
unfolding write_of write_verdict
write-told msg buffer =
    cases (writable msg)
    (λ t. cases (leb (length (bytes_of msg)) (length buffer)) (λ u. simp (t, u)) (λ u. simp (t, u)))
    (λ t. simp t)

-- What the private functions of src/writing.rt say to each other: whether bytes have room at a buffer's start, and the buffer with
-- them there.
abbrev pub put_of : List ℕ → List ℕ → Result ℕ Refusal
put_of bytes buffer = cond (leb (length bytes) (length buffer)) (Ok (length bytes)) (Err (refuse 7 tt))

abbrev pub put_in : List ℕ → List ℕ → List ℕ
put_in bytes buffer = cond (leb (length bytes) (length buffer)) (bytes ++ drop (length bytes) buffer) buffer
