-- A step taken at a packet that was Sent over a slot. Assumes nothing.
use Rattle.std.specs.Prelude.{◌≡◌, ℕ, true, false, cond, ◌==◌}
use borrow.Table.Steps.{cases}
use Rattle.engine.specs.declared.state.InFlight.{InFlight}
use Rattle.engine.specs.declared.state.SentReliableStatus.{SentReliableStatus}
use Rattle.engine.specs.declared.state.SentReliableStatus.TheVariants.{Sent, Received, ResendQueued}

-- Becomes holds of a status that the step gives of the flight, or else of the status as it was
abbrev pub StepsOver : ℕ → (InFlight → SentReliableStatus → Type 0) → SentReliableStatus → (SentReliableStatus → Type 0) → Type 0
StepsOver slot gives (Sent flight) Becomes =
    ((flight.slot == slot) ≡ true → (st : SentReliableStatus) × gives flight st × Becomes st) × ((flight.slot == slot) ≡ false → Becomes (Sent flight))
StepsOver slot gives Received Becomes = Becomes Received
StepsOver slot gives (ResendQueued link) Becomes = Becomes (ResendQueued link)

-- ---- laws

-- a change of a status that is the step's where the packet was Sent over the slot, and else none
pub over-changed : (slot : ℕ) (gives : InFlight → SentReliableStatus → Type 0) (change : SentReliableStatus → SentReliableStatus) (to : InFlight → SentReliableStatus)
    → ((f : InFlight) → change (Sent f) ≡ cond (f.slot == slot) (to f) (Sent f)) → change Received ≡ Received → ((l : ℕ) → change (ResendQueued l) ≡ ResendQueued l)
    → ((f : InFlight) (st : SentReliableStatus) → gives f st → st ≡ to f)
    → (st : SentReliableStatus) (Becomes : SentReliableStatus → Type 0) → StepsOver slot gives st Becomes → Becomes (change st)
over-changed slot gives change to sent received queued says (Sent f) Becomes h =
    cases (f.slot == slot)
    (λ t. let x = h.0 t in rw (sent f, t) (rw (says f x.0 x.1) at x.2))
    (λ t. rw (sent f, t) (h.1 t))
over-changed slot gives change to sent received queued says Received Becomes h = rw received h
over-changed slot gives change to sent received queued says (ResendQueued l) Becomes h = rw (queued l) h
