-- Document 02, [1]: "the first packet in table order that is Sent, its slot, whether it was flushed, and the deadline, which is flush
-- time or else send time, plus round trip times the round-trip factor, .. clamped to a minimum and a maximum. .. No Sent packet: none
-- is named. Nothing in the state changes. .. Refusals: 21 for bad factors or bounds, a bound above 2^56 among them (not 3)." How long is
-- waited is the link's (duration_of). Assumes nothing.
use Rattle.std.specs.Prelude.{◌≡◌, ℕ, zero, suc, ◌+◌, ◌-◌, ◌%◌, ◌<◌, ◌≤◌, Bool, true, false, cond, List, [], ◌∷◌, length, slice_index_or, refl, Some, None, Option, Ok, Err}
use Rattle.engine.specs.Held.{ConfirmTimeout}
use Rattle.std.proofs.Math.Path.{ap}
use Rattle.std.proofs.Common.{◌∙◌, arith}
use borrow.Table.Steps.{cases}
use Rattle.refusal.specs.Answers.{Told, success, refused, flag}
use Rattle.refusal.specs.Verdicts.{Verdict, gate, gate-pass}
use Rattle.refusal.specs.Tests.{false-true}
use Rattle.link.specs.declared.timeout.AckTimeout.{AckTimeout}
use Rattle.link.specs.Sizes.{MAX_TIME}
use Rattle.link.specs.Timeout.{timeout_within, duration_of}
use Rattle.engine.specs.declared.state.InFlight.{InFlight}
use Rattle.engine.specs.declared.state.SentReliableStatus.{SentReliableStatus}
use Rattle.engine.specs.declared.state.SentReliableStatus.TheVariants.{Sent, Received, ResendQueued}
use Rattle.engine.specs.declared.state.SentReliable.{SentReliable}
use Rattle.engine.specs.declared.state.State.{State}
use Rattle.engine.specs.Ring.{window, window-step, window-none, window-length, next_cell}
use Rattle.engine.specs.Packets.{no_packet, packets, first_of, is_sent}
use Rattle.engine.specs.Sound.{Sound, SentBy}
use Rattle.engine.specs.Decide.{soundb, sound}
use Rattle.engine.specs.Rows.{row_of}
use Rattle.engine.specs.Sizes.{PACKETS}

-- what is kept of a packet that is Sent
abbrev pub in_flight : SentReliableStatus → Option InFlight
in_flight (Sent flight) = Some flight
in_flight Received = None
in_flight (ResendQueued link) = None

-- "the first packet in table order that is Sent"
unfoldable pub first_sent : List SentReliable → Option InFlight
first_sent [] = None
first_sent (p ∷ ps) = cond (is_sent p.status) (in_flight p.status) (first_sent ps)

-- "whether it was flushed"
abbrev pub was_flushed : Option ℕ → Bool
was_flushed None = false
was_flushed (Some at) = true

-- "flush time or else send time"
abbrev pub flushed_or : Option ℕ → ℕ → ℕ
flushed_or None sent = sent
flushed_or (Some at) sent = at

abbrev pub definitely_sent : InFlight → ℕ
definitely_sent flight = flushed_or flight.flushed flight.sent

-- "the deadline, which is flush time or else send time, plus round trip times .."
unfoldable pub deadline_of : State → InFlight → AckTimeout → Bool → ℕ
deadline_of s flight timeout unreliable = definitely_sent flight + duration_of timeout (row_of s flight.slot).roundtrip flight.resent unreliable

-- "its slot, whether it was flushed, and the deadline"; "No Sent packet: none is named."
abbrev pub named_by : Option InFlight → State → AckTimeout → Bool → ConfirmTimeout
named_by (Some flight) s timeout unreliable = Ok (Some (flight.slot, (was_flushed flight.flushed), (deadline_of s flight timeout unreliable)))
named_by None s timeout unreliable = Ok None

-- the same as values
abbrev pub named_values : Option InFlight → State → AckTimeout → Bool → List ℕ
named_values (Some flight) s timeout unreliable = flight.slot ∷ flag (was_flushed flight.flushed) ∷ deadline_of s flight timeout unreliable ∷ []
named_values None s timeout unreliable = []

-- "21 for bad factors or bounds, a bound above 2^56 among them (not 3)": judged before a packet is looked for
unfoldable pub confirm_timeout_verdict : State → AckTimeout → Verdict
confirm_timeout_verdict s timeout = gate (soundb s) 1 (gate (timeout_within timeout) 21 (Ok tt))

-- its slot, flushed or not, and the deadline; nothing where none is named
abbrev pub confirm_timeout_told : ConfirmTimeout → Told
confirm_timeout_told (Ok (Some (slot, flushed, deadline))) = success (slot ∷ flag flushed ∷ deadline ∷ [])
confirm_timeout_told (Ok None) = success []
confirm_timeout_told (Err e) = refused e

abbrev pub confirm_timeout_by : Verdict → ConfirmTimeout → ConfirmTimeout
confirm_timeout_by (Ok tt) answer = answer
confirm_timeout_by (Err e) answer = Err e

unfoldable pub earliest_confirm_timeout_of : State → AckTimeout → Bool → ConfirmTimeout
unfolding confirm_timeout_verdict first_sent deadline_of
earliest_confirm_timeout_of s timeout unreliable =
    confirm_timeout_by (confirm_timeout_verdict s timeout) (named_by (first_sent (packets s.tx)) s timeout unreliable)

-- ---- laws

pub named-told : (first : Option InFlight) (s : State) (timeout : AckTimeout) (unreliable : Bool)
    → confirm_timeout_told (named_by first s timeout unreliable) ≡ success (named_values first s timeout unreliable)
named-told (Some flight) s timeout unreliable = refl
named-told None s timeout unreliable = refl

module _ (cells : List SentReliable) (at left : ℕ) where
  pub first-here : 0 < left → is_sent (slice_index_or cells at no_packet).status ≡ true → first_sent (window PACKETS no_packet cells at left) ≡ in_flight (slice_index_or cells at no_packet).status
  unfolding first_sent
  first-here h r = ap first_sent (window-step PACKETS no_packet cells at left h) ∙ simp r

  pub first_on : 0 < left → is_sent (slice_index_or cells at no_packet).status ≡ false
      → first_sent (window PACKETS no_packet cells at left) ≡ first_sent (window PACKETS no_packet cells (next_cell PACKETS at) (left - 1))
  unfolding first_sent
  first_on h r = ap first_sent (window-step PACKETS no_packet cells at left h) ∙ simp r

  pub first-end : left ≤ 0 → first_sent (window PACKETS no_packet cells at left) ≡ None
  unfolding first_sent
  first-end h = ap first_sent (window-none PACKETS no_packet cells at left h)

-- the packet at a place is the oldest that is Sent
pub record Oldest (ps : List SentReliable) (i : ℕ) (flight : InFlight) : Type 0 where
  pub inside : i < length ps
  pub here : (slice_index_or ps i no_packet).status ≡ Sent flight
  pub before : (k : ℕ) → k < i → is_sent (slice_index_or ps k no_packet).status ≡ false

sent-flight : (st : SentReliableStatus) (flight : InFlight) → is_sent st ≡ true → in_flight st ≡ Some flight → st ≡ Sent flight
sent-flight (Sent f) flight t e = let same : f ≡ flight = cc in ap Sent same
sent-flight Received flight t e = false-true t
sent-flight (ResendQueued link) flight t e = false-true t

-- what is found is the oldest ..
pub found-oldest : (ps : List SentReliable) (flight : InFlight) → first_sent ps ≡ Some flight → (i : ℕ) × Oldest ps i flight
unfolding first_sent
found-oldest [] flight e = let z : ◌≡◌ {A = ℕ} 0 1 = cc in absurd (omega arith)
found-oldest (p ∷ ps) flight e =
    cases (is_sent p.status)
    (λ t. (0, record { inside = omega arith; here = sent-flight p.status flight t (simp t at e); before = λ k h. absurd (omega arith) }))
    (λ t.
    let f = found-oldest ps flight (simp t at e) in
    (suc f.0, record { inside = omega (arith, f.1.inside); here = f.1.here; before = λ k h. before-suc p ps f.0 t f.1.before k h }))
  where
    before-suc : (p : SentReliable) (ps : List SentReliable) (i : ℕ) → is_sent p.status ≡ false
        → ((k : ℕ) → k < i → is_sent (slice_index_or ps k no_packet).status ≡ false) → (k : ℕ) → k < suc i → is_sent (slice_index_or (p ∷ ps) k no_packet).status ≡ false
    before-suc p ps i t f zero h = t
    before-suc p ps i t f (suc k) h = f k (omega arith)

-- in a sound state a packet's times are within their sizes
sent-within : (flight : InFlight) (time : ℕ) → SentBy time (Sent flight) → definitely_sent flight ≤ time
sent-within flight time h = by flight.flushed refl
  where
    by : (f : Option ℕ) → flight.flushed ≡ f → flushed_or f flight.sent ≤ time
    by None e = h.0
    by (Some at) e = rw e at h.1

pub first-within : (s : State) (flight : InFlight) → Sound s → first_sent (packets s.tx) ≡ Some flight → definitely_sent flight ≤ MAX_TIME
first-within s flight fine e =
    let f = found-oldest (packets s.tx) flight e in
    let few : f.0 < s.tx.txed_count = omega (arith, f.1.inside, window-length PACKETS no_packet s.tx.txed_packets (first_of s.tx % PACKETS) s.tx.txed_count) in
    let by = sent-within flight s.time (rw f.1.here at (fine.sent-by f.0 few)) in
    omega (arith, fine.time-within, by)

-- who passed is given a sound state and settings within their sizes
pub record TimeoutPassed (s : State) (timeout : AckTimeout) : Type 0 where
  pub fine : Sound s
  pub within : timeout_within timeout ≡ true

pub timeout-passed : (s : State) (timeout : AckTimeout) → confirm_timeout_verdict s timeout ≡ Ok tt → TimeoutPassed s timeout
unfolding confirm_timeout_verdict
timeout-passed s timeout e =
    let e1 = gate-pass (soundb s) _ _ e in
    record { fine = sound s e1.0; within = (gate-pass (timeout_within timeout) _ _ e1.1).0 }
