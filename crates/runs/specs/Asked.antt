-- What the eight words of a call ask for: the first is the call's number, and its arguments follow. Words that are no call ask for nothing. Assumes nothing.
use Rattle.std.specs.Prelude.{◌≡◌, Bool, true, cond, ◌&&◌, List, ℕ, ◌+◌, ◌-◌, ◌≤◌, eqb, leb, ltb, length, get_or, take, drop, Some, None, Option}
use Rattle.std.proofs.Common.{arith, leb-true}
use Rattle.refusal.specs.Tests.{split}
use Rattle.seq.specs.Numbers.{seq_of}
use Rattle.link.specs.declared.timeout.AckTimeout.{AckTimeout}
use Rattle.msg.specs.declared.reliable.ReliableMsg.{ReliableMsg}
use Rattle.msg.specs.declared.reliable.ReliableMsg.TheVariants.{Data, Consumed, SendFinish, ReceiveClose, ReceiveFinish}
use Rattle.msg.specs.Reliable.{MSG_DATA, MSG_CONSUMED, MSG_SEND_FINISH, MSG_RECEIVE_CLOSE, MSG_RECEIVE_FINISH}
use Rattle.words.specs.Meaning.{is_set, max_ping_of}
use Rattle.laws.specs.Calls.{Call, Add, Remove, Confirm, Unconfirm, Block, Mark, Ping, Pong, Flush, Send, Resend, Ack, Receive, Show, Take, Due, Close, TakeAck, EarliestConfirmTimeout}

pub data Asked : Type 0 where
  It : Call → Asked
  NoCall : Asked

-- a slot above 255 is read as 255, which holds no link
abbrev pub slot_of : ℕ → ℕ
slot_of v = cond (leb v 255) v 255

-- a number has 32 bits
abbrev pub numbered : ℕ → Asked → Asked
numbered v asked = cond (ltb v 4294967296) asked NoCall

-- the message that a kind names, of those without a count
unfoldable pub plain_given : ℕ → Option ReliableMsg
plain_given kind =
    cond (eqb kind MSG_DATA) (Some Data)
    (cond (eqb kind MSG_SEND_FINISH) (Some SendFinish)
    (cond (eqb kind MSG_RECEIVE_CLOSE) (Some ReceiveClose)
    (cond (eqb kind MSG_RECEIVE_FINISH) (Some ReceiveFinish)
    None)))

-- .. and of all: "A count is 0 for every kind but Consumed" (docs/CALLS.md)
unfoldable pub given : ℕ → ℕ → Option ReliableMsg
unfolding plain_given
given kind count =
    cond (ltb count 4294967296)
    (cond (eqb kind MSG_CONSUMED) (Some (Consumed count)) (cond (eqb count 0) (plain_given kind) None))
    None

abbrev pub named : Option ReliableMsg → (ReliableMsg → Asked) → Asked
named (Some msg) f = f msg
named None f = NoCall

-- a part of the lent bytes
unfoldable pub withinb : (from len bytes : ℕ) → Bool
withinb from len bytes = leb from bytes && leb len (bytes - from)

abbrev pub part_of : (from len : ℕ) → List ℕ → List ℕ
part_of from len bytes = take len (drop from bytes)

abbrev pub parted : (from len : ℕ) → List ℕ → (List ℕ → Asked) → Asked
parted from len bytes f = cond (withinb from len (length bytes)) (f (part_of from len bytes)) NoCall

-- ---- by the number: links, sending, receiving, and what is left

unfoldable pub link_asked : List ℕ → Asked
link_asked xs =
    let n = get_or xs 0 0 in
    let slot = slot_of (get_or xs 1 0) in
    cond (eqb n 1) (It (Add (get_or xs 1 0) (get_or xs 2 0) (max_ping_of (get_or xs 3 0) (get_or xs 4 0)) (is_set (get_or xs 5 0)) (is_set (get_or xs 6 0))))
    (cond (eqb n 2) (It (Remove slot))
    (cond (eqb n 3) (It (Confirm slot))
    (cond (eqb n 4) (It (Unconfirm slot))
    (cond (eqb n 5) (It (Block slot (is_set (get_or xs 2 0))))
    (cond (eqb n 6) (numbered (get_or xs 2 0) (It (Mark slot (seq_of (get_or xs 2 0)))))
    (cond (eqb n 7) (It (Ping slot (get_or xs 2 0)))
    (cond (eqb n 8) (It (Pong slot (get_or xs 2 0)))
    NoCall)))))))

unfoldable pub send_asked : List ℕ → List ℕ → Asked
unfolding given withinb
send_asked xs bytes =
    named (given (get_or xs 3 0) (get_or xs 4 0)) (λ msg. parted (get_or xs 5 0) (get_or xs 6 0) bytes (λ part. It (Send (slot_of (get_or xs 1 0)) (get_or xs 2 0) msg part)))

unfoldable pub sending_asked : List ℕ → List ℕ → Asked
unfolding send_asked
sending_asked xs bytes =
    let n = get_or xs 0 0 in
    let slot = slot_of (get_or xs 1 0) in
    cond (eqb n 10) (send_asked xs bytes)
    (cond (eqb n 12) (numbered (get_or xs 3 0) (It (Ack slot (get_or xs 2 0) (get_or xs 3 0))))
    (cond (eqb n 9) (It (Flush slot (get_or xs 2 0)))
    (cond (eqb n 11) (numbered (get_or xs 3 0) (It (Resend slot (get_or xs 2 0) (get_or xs 3 0))))
    NoCall)))

unfoldable pub receive_asked : List ℕ → List ℕ → Asked
unfolding given withinb
receive_asked xs bytes =
    numbered (get_or xs 3 0)
    (named (given (get_or xs 2 0) (get_or xs 4 0)) (λ msg. parted (get_or xs 5 0) (get_or xs 6 0) bytes (λ part. It (Receive (slot_of (get_or xs 1 0)) msg (get_or xs 3 0) part))))

unfoldable pub receiving_asked : List ℕ → List ℕ → Asked
unfolding receive_asked
receiving_asked xs bytes =
    let n = get_or xs 0 0 in
    cond (eqb n 13) (receive_asked xs bytes)
    (cond (eqb n 14) (It Show)
    (cond (eqb n 15) (It Take)
    NoCall))

-- a deadline's settings
abbrev pub timeout_in : List ℕ → AckTimeout
timeout_in xs = record { roundtrip_factor = get_or xs 1 0; resent_factor = get_or xs 2 0; unreliable_factor = get_or xs 3 0; min = get_or xs 4 0; max = get_or xs 5 0 }

unfoldable pub reader_asked : List ℕ → Asked
reader_asked xs =
    let n = get_or xs 0 0 in
    cond (eqb n 16) (It (TakeAck (slot_of (get_or xs 1 0))))
    (cond (eqb n 17) (It Due)
    (cond (eqb n 18) (It Close)
    (cond (eqb n 19) (It (EarliestConfirmTimeout (timeout_in xs) (is_set (get_or xs 6 0))))
    NoCall)))

unfoldable pub asked_of : List ℕ → List ℕ → Asked
unfolding link_asked sending_asked receiving_asked reader_asked
asked_of xs bytes =
    let n = get_or xs 0 0 in
    cond (leb n 8) (link_asked xs)
    (cond (leb n 12) (sending_asked xs bytes)
    (cond (leb n 15) (receiving_asked xs bytes)
    (reader_asked xs)))

-- ---- laws

pub within-true : (from len bytes : ℕ) → withinb from len bytes ≡ true → from + len ≤ bytes
unfolding withinb
within-true from len bytes e =
    let t = split (leb from bytes) (leb len (bytes - from)) e in
    let a = leb-true from bytes t.0 in
    let b = leb-true len (bytes - from) t.1 in
    omega arith
