-- Document 01, "Message bytes (002)": what reading answers for every run of bytes, a message or refusal 20.
-- Assumes nothing.
use Rattle.std.specs.Prelude.{Bool, true, false, cond, ◌&&◌, List, [], ◌∷◌, ℕ, ◌+◌, ◌*◌, eqb, leb, length, get_or, Ok, Err, Result}
use Rattle.refusal.specs.declared.Refusal.{Refusal}
use Rattle.refusal.specs.Refusals.{refuse}
use Rattle.refusal.specs.Answers.{Told, success, refused}
use Rattle.seq.specs.declared.Seq.{Seq}
use Rattle.seq.specs.Numbers.{seq_of}
use Rattle.msg.specs.declared.link_msg.RefusedReason.TheVariants.{Closed, NotListening, ConnectionRefused, LinkRefused}
use Rattle.msg.specs.declared.link_msg.LinkMsg.{LinkMsg}
use Rattle.msg.specs.declared.link_msg.LinkMsg.TheVariants.{Welcome, Connect, Accepted, Refused, Ping, Pong, Data, Ack, Consumed, SendFinish, ReceiveClose, ReceiveFinish, TestData, SetBlock, Goodbye, Terminate}
use Rattle.msg.specs.Messages.{pattern, values_of}

-- the paper's number for an answer, and what the message says
abbrev pub reading_told : Result LinkMsg Refusal → Told
reading_told (Ok msg) = success (values_of msg)
reading_told (Err e) = refused e

-- "message bytes not as below" give 20
abbrev pub bad : Result LinkMsg Refusal
bad = Err (refuse 20 tt)

-- "Numbers are big-endian."
unfoldable pub number_at : List ℕ → ℕ → ℕ
number_at bytes at = ((get_or bytes at 0 * 256 + get_or bytes (at + 1) 0) * 256 + get_or bytes (at + 2) 0) * 256 + get_or bytes (at + 3) 0

-- "Reading demands the exact length"
unfoldable pub exactly : ℕ → List ℕ → Result LinkMsg Refusal → Result LinkMsg Refusal
exactly n body reading = cond (eqb (length body) n) reading bad

unfoldable pub opens_with : List ℕ → List ℕ → Bool
opens_with [] bytes = true
opens_with (x ∷ head) [] = false
opens_with (x ∷ head) (y ∷ bytes) = eqb y x && opens_with head bytes

-- the five bytes `LIAG\0`
abbrev pub magic : List ℕ
magic = 76 ∷ 73 ∷ 65 ∷ 71 ∷ 0 ∷ []

-- "A Welcome or Connect must open with kind, the five bytes `LIAG\0` and version byte 4; reading it answers Handshake and
-- ignores the rest" (the answers Welcome and Connect are the paper's Handshake)
unfoldable pub read_handshake : LinkMsg → List ℕ → Result LinkMsg Refusal
read_handshake msg body = cond (opens_with magic body && eqb (get_or body 5 0) 4) (Ok msg) bad

-- "the others nothing"
unfoldable pub read_alone : LinkMsg → List ℕ → Result LinkMsg Refusal
read_alone msg body = exactly 0 body (Ok msg)

-- "Refused, a reason byte 1 to 4": what each byte reads as, from 0
abbrev pub reasons : List (Result LinkMsg Refusal)
reasons =
    bad
    ∷ Ok (Refused Closed)
    ∷ Ok (Refused NotListening)
    ∷ Ok (Refused ConnectionRefused)
    ∷ Ok (Refused LinkRefused)
    ∷ []

unfoldable pub read_refused : List ℕ → Result LinkMsg Refusal
read_refused body = exactly 1 body (get_or reasons (get_or body 0 0) bad)

-- "Data, Ack, SendFinish, ReceiveClose, ReceiveFinish, a number"
unfoldable pub read_numbered : (Seq → LinkMsg) → List ℕ → Result LinkMsg Refusal
read_numbered msg body = exactly 4 body (Ok (msg (seq_of (number_at body 0))))

-- "Consumed, number and u32 count"
unfoldable pub read_consumed : List ℕ → Result LinkMsg Refusal
read_consumed body = exactly 8 body (Ok (Consumed (seq_of (number_at body 0)) (number_at body 4)))

-- "TestData of size up to 1,024". Document 02, [11], in place of "TestData's content isn't looked at (P)": "Reading now demands
-- the written pattern", "20, for the first byte off the pattern, after the size limit has been checked"
unfoldable pub read_test_data : List ℕ → Result LinkMsg Refusal
read_test_data body =
    cond (leb (length body) 1024)
    (cond (opens_with (pattern (length body)) body) (Ok (TestData (length body))) bad)
    bad

-- "SetBlock, 0 or 1": what each byte reads as, from 0
abbrev pub blocks : List (Result LinkMsg Refusal)
blocks = Ok (SetBlock false) ∷ Ok (SetBlock true) ∷ []

unfoldable pub read_set_block : List ℕ → Result LinkMsg Refusal
read_set_block body = exactly 1 body (get_or blocks (get_or body 0 0) bad)

abbrev pub read_none : List ℕ → Result LinkMsg Refusal
read_none body = bad

-- "The decision on the first byte covers all 256 values": how each kind reads what follows its byte, from 0, which is none
abbrev pub readers : List (List ℕ → Result LinkMsg Refusal)
readers =
    read_none
    ∷ read_handshake Welcome
    ∷ read_handshake Connect
    ∷ read_alone Accepted
    ∷ read_refused
    ∷ read_alone Ping
    ∷ read_alone Pong
    ∷ read_numbered Data
    ∷ read_numbered Ack
    ∷ read_consumed
    ∷ read_numbered SendFinish
    ∷ read_numbered ReceiveClose
    ∷ read_numbered ReceiveFinish
    ∷ read_test_data
    ∷ read_set_block
    ∷ read_alone Goodbye
    ∷ read_alone Terminate
    ∷ []

unfoldable pub read_kind : ℕ → List ℕ → Result LinkMsg Refusal
read_kind kind body = get_or readers kind read_none body

-- what a run of bytes reads as
unfoldable pub read_of : List ℕ → Result LinkMsg Refusal
read_of [] = bad
read_of (kind ∷ body) = read_kind kind body

-- .. and what a caller is told of it
abbrev pub read_told : List ℕ → Told
read_told bytes = reading_told (read_of bytes)
