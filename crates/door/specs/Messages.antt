-- Which message a kind and two numbers name, as the values of `fk_read` do (`values_of` of crate msg). A number that a kind does not use may be any.
-- Assumes nothing.
use Rattle.std.specs.Prelude.{◌≡◌, refl, true, false, List, [], ◌∷◌, ℕ, get_or, Some, None, Option}
use Rattle.seq.specs.Numbers.{seq_of}
use Rattle.msg.specs.declared.link_msg.RefusedReason.TheVariants.{Closed, NotListening, ConnectionRefused, LinkRefused}
use Rattle.msg.specs.declared.link_msg.LinkMsg.{LinkMsg}
use Rattle.msg.specs.declared.link_msg.LinkMsg.TheVariants.{Welcome, Connect, Accepted, Refused, Ping, Pong, Data, Ack, Consumed, SendFinish, ReceiveClose, ReceiveFinish, TestData, SetBlock, Goodbye, Terminate}
use Rattle.msg.specs.Messages.{values_of}

-- what each number names as a reason, and as a SetBlock, from 0; past them none
abbrev pub reasons_given : List (Option LinkMsg)
reasons_given = None ∷ Some (Refused Closed) ∷ Some (Refused NotListening) ∷ Some (Refused ConnectionRefused) ∷ Some (Refused LinkRefused) ∷ []

unfoldable pub reason_given : ℕ → Option LinkMsg
reason_given n = get_or reasons_given n None

abbrev pub blocks_given : List (Option LinkMsg)
blocks_given = Some (SetBlock false) ∷ Some (SetBlock true) ∷ []

unfoldable pub block_given : ℕ → Option LinkMsg
block_given n = get_or blocks_given n None

-- what each kind names, from 0, with the two numbers
abbrev pub kinds_given : (first second : ℕ) → List (Option LinkMsg)
kinds_given first second =
    None
    ∷ Some Welcome
    ∷ Some Connect
    ∷ Some Accepted
    ∷ reason_given first
    ∷ Some Ping
    ∷ Some Pong
    ∷ Some (Data (seq_of first))
    ∷ Some (Ack (seq_of first))
    ∷ Some (Consumed (seq_of first) second)
    ∷ Some (SendFinish (seq_of first))
    ∷ Some (ReceiveClose (seq_of first))
    ∷ Some (ReceiveFinish (seq_of first))
    ∷ Some (TestData first)
    ∷ block_given first
    ∷ Some Goodbye
    ∷ Some Terminate
    ∷ []

unfoldable pub link_given : (kind first second : ℕ) → Option LinkMsg
link_given kind first second = get_or (kinds_given first second) kind None

-- by the message, where one is named
abbrev pub asked_link : {A : Type 0} → Option LinkMsg → (LinkMsg → A) → A → A
asked_link (Some msg) f none = f msg
asked_link None f none = none

-- ---- laws

-- the values of a message name it
pub named-so : (msg : LinkMsg) → link_given (get_or (values_of msg) 0 0) (get_or (values_of msg) 1 0) (get_or (values_of msg) 2 0) ≡ Some msg
unfolding link_given reason_given block_given
named-so Welcome = refl
named-so Connect = refl
named-so Accepted = refl
named-so (Refused Closed) = refl
named-so (Refused NotListening) = refl
named-so (Refused ConnectionRefused) = refl
named-so (Refused LinkRefused) = refl
named-so Ping = refl
named-so Pong = refl
named-so (Data seq) = refl
named-so (Ack received) = refl
named-so (Consumed seq consumed) = refl
named-so (SendFinish seq) = refl
named-so (ReceiveClose seq) = refl
named-so (ReceiveFinish seq) = refl
named-so (TestData size) = refl
named-so (SetBlock false) = refl
named-so (SetBlock true) = refl
named-so Goodbye = refl
named-so Terminate = refl
