-- What a host's arguments say where the language has an enum. Assumes nothing.
use Rattle.std.specs.Prelude.{Bool, true, false, cond, ℕ, eqb, Some, None, Option}
use Rattle.link.specs.declared.timeout.AckTimeout.{AckTimeout}
use Rattle.msg.specs.declared.reliable.ReliableMsg.{ReliableMsg}
use Rattle.msg.specs.declared.reliable.ReliableMsg.TheVariants.{Data, Consumed, SendFinish, ReceiveClose, ReceiveFinish}
use Rattle.msg.specs.Reliable.{MSG_DATA, MSG_CONSUMED, MSG_SEND_FINISH, MSG_RECEIVE_CLOSE, MSG_RECEIVE_FINISH}

-- the longest round trip, where there is one
abbrev pub max_ping_given : Bool → ℕ → Option ℕ
max_ping_given true v = Some v
max_ping_given false v = None

-- the message that a kind names, of those without a count
unfoldable pub plain_given : ℕ → Option ReliableMsg
plain_given kind =
    cond (eqb kind MSG_DATA) (Some Data)
    (cond (eqb kind MSG_SEND_FINISH) (Some SendFinish)
    (cond (eqb kind MSG_RECEIVE_CLOSE) (Some ReceiveClose)
    (cond (eqb kind MSG_RECEIVE_FINISH) (Some ReceiveFinish)
    None)))

-- .. and of all: "A count is 0 for every kind but Consumed" (docs/CALLS.md)
unfoldable pub given : ℕ → ℕ → Option ReliableMsg
unfolding plain_given
given kind count = cond (eqb kind MSG_CONSUMED) (Some (Consumed count)) (cond (eqb count 0) (plain_given kind) None)

-- by the message, where one is named
abbrev pub asked : {A : Type 0} → Option ReliableMsg → (ReliableMsg → A) → A → A
asked (Some msg) f none = f msg
asked None f none = none

-- a deadline's settings
abbrev pub timeout_given : (roundtrip resent unreliable min max : ℕ) → AckTimeout
timeout_given a b c d e = record { roundtrip_factor = a; resent_factor = b; unreliable_factor = c; min = d; max = e }
