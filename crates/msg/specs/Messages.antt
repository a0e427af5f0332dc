-- Document 01, "Message bytes (002)": the bytes of every message. A byte is a number below 256, a run of bytes a list.
-- Assumes nothing.
use Rattle.std.specs.Prelude.{Bool, true, false, List, [], ◌∷◌, ◌++◌, ℕ, zero, suc, ◌/◌, ◌%◌, ◌^◌}
use Rattle.msg.specs.declared.link_msg.RefusedReason.{RefusedReason}
use Rattle.msg.specs.declared.link_msg.RefusedReason.TheVariants.{Closed, NotListening, ConnectionRefused, LinkRefused}
use Rattle.msg.specs.declared.link_msg.LinkMsg.{LinkMsg}
use Rattle.msg.specs.declared.link_msg.LinkMsg.TheVariants.{Welcome, Connect, Accepted, Refused, Ping, Pong, Data, Ack, Consumed, SendFinish, ReceiveClose, ReceiveFinish, TestData, SetBlock, Goodbye, Terminate}

-- "Numbers are big-endian."
unfoldable pub be32 : ℕ → List ℕ
be32 n = n / 2 ^ 24 % 256 ∷ n / 2 ^ 16 % 256 ∷ n / 2 ^ 8 % 256 ∷ n % 256 ∷ []

-- "The sixteen kinds in their declared order are taken as 1 to 16 (P; only 16 is shown)"
abbrev pub kind_of : LinkMsg → ℕ
kind_of Welcome = 1
kind_of Connect = 2
kind_of Accepted = 3
kind_of (Refused reason) = 4
kind_of Ping = 5
kind_of Pong = 6
kind_of (Data seq) = 7
kind_of (Ack received) = 8
kind_of (Consumed seq consumed) = 9
kind_of (SendFinish seq) = 10
kind_of (ReceiveClose seq) = 11
kind_of (ReceiveFinish seq) = 12
kind_of (TestData size) = 13
kind_of (SetBlock blocked) = 14
kind_of Goodbye = 15
kind_of Terminate = 16

-- "a reason byte 1 to 4 (Closed, NotListening, ConnectionRefused, LinkRefused; only 4 is shown)"
abbrev pub reason_byte : RefusedReason → ℕ
reason_byte Closed = 1
reason_byte NotListening = 2
reason_byte ConnectionRefused = 3
reason_byte LinkRefused = 4

-- "SetBlock, 0 or 1"
abbrev pub block_byte : Bool → ℕ
block_byte false = 0
block_byte true = 1

-- "TestData .., bytes 0, 1, 2 .. each modulo 256"
unfoldable pub pattern : ℕ → List ℕ
pattern zero = []
pattern (suc n) = pattern n ++ (n % 256 ∷ [])

-- "One kind byte, then: Refused, a reason byte ..; Data, Ack, SendFinish, ReceiveClose, ReceiveFinish, a number; Consumed,
-- number and u32 count; TestData ..; SetBlock ..; the others nothing." Of the handshake pair the rest is not ours.
abbrev pub body_of : LinkMsg → List ℕ
body_of Welcome = []
body_of Connect = []
body_of Accepted = []
body_of (Refused reason) = reason_byte reason ∷ []
body_of Ping = []
body_of Pong = []
body_of (Data seq) = be32 seq.0
body_of (Ack received) = be32 received.0
body_of (Consumed seq consumed) = be32 seq.0 ++ be32 consumed
body_of (SendFinish seq) = be32 seq.0
body_of (ReceiveClose seq) = be32 seq.0
body_of (ReceiveFinish seq) = be32 seq.0
body_of (TestData size) = pattern size
body_of (SetBlock blocked) = block_byte blocked ∷ []
body_of Goodbye = []
body_of Terminate = []

abbrev pub bytes_of : LinkMsg → List ℕ
bytes_of msg = kind_of msg ∷ body_of msg

-- what a message says, as numbers in the paper's order: its kind, then what follows it
abbrev pub values_of : LinkMsg → List ℕ
values_of Welcome = 1 ∷ []
values_of Connect = 2 ∷ []
values_of Accepted = 3 ∷ []
values_of (Refused reason) = 4 ∷ reason_byte reason ∷ []
values_of Ping = 5 ∷ []
values_of Pong = 6 ∷ []
values_of (Data seq) = 7 ∷ seq.0 ∷ []
values_of (Ack received) = 8 ∷ received.0 ∷ []
values_of (Consumed seq consumed) = 9 ∷ seq.0 ∷ consumed ∷ []
values_of (SendFinish seq) = 10 ∷ seq.0 ∷ []
values_of (ReceiveClose seq) = 11 ∷ seq.0 ∷ []
values_of (ReceiveFinish seq) = 12 ∷ seq.0 ∷ []
values_of (TestData size) = 13 ∷ size ∷ []
values_of (SetBlock blocked) = 14 ∷ block_byte blocked ∷ []
values_of Goodbye = 15 ∷ []
values_of Terminate = 16 ∷ []

-- "A Welcome or Connect": the handshake pair
abbrev pub handshake : LinkMsg → Bool
handshake Welcome = true
handshake Connect = true
handshake Accepted = false
handshake (Refused reason) = false
handshake Ping = false
handshake Pong = false
handshake (Data seq) = false
handshake (Ack received) = false
handshake (Consumed seq consumed) = false
handshake (SendFinish seq) = false
handshake (ReceiveClose seq) = false
handshake (ReceiveFinish seq) = false
handshake (TestData size) = false
handshake (SetBlock blocked) = false
handshake Goodbye = false
handshake Terminate = false
