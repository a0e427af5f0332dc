-- What a receive cell holds, and what the calls answer that tell of more than one thing, by name. Assumes nothing.
use Rattle.std.specs.Prelude.{ℕ, Bool, Option, Result}
use Rattle.refusal.specs.declared.Refusal.{Refusal}
use Rattle.seq.specs.declared.Seq.{Seq}
use Rattle.msg.specs.declared.reliable.ReliableMsg.{ReliableMsg}

-- a message and its length, or nothing
abbrev pub Held : Type 0
Held = Option (ReliableMsg × ℕ)

-- the message, its number and the length of its data, or why there is none
abbrev pub HandOut : Type 0
HandOut = Result (ReliableMsg × Seq × ℕ) Refusal

-- the slot that the packet was sent over, whether it was flushed, and the deadline; or that no packet is Sent
abbrev pub ConfirmTimeout : Type 0
ConfirmTimeout = Result (Option (ℕ × Bool × ℕ)) Refusal
