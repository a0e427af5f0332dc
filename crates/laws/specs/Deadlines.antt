-- Document 02, [1], what holds of a deadline and of the packet that is named: the deadline lies between the bounds and grows with
-- the round trip; a state without a Sent packet names none, one with a Sent packet names the oldest; and which is named after a call that
-- changes packets, by one law over the packets (`first-changed`). Assumes nothing.
use Rattle.std.specs.Prelude.{◌≡◌, refl, Bool, true, false, cond, List, [], ◌∷◌, map, ℕ, zero, suc, ◌+◌, ◌^◌, ◌≤◌, ◌<◌, length, get_or, Some, None, Option, Ok}
use Rattle.std.proofs.Common.{sym, ◌∙◌, arith}
use Rattle.std.proofs.Math.Path.{ap}
use borrow.Table.Steps.{cases}
use Rattle.refusal.specs.Tests.{false-true}
use Rattle.link.specs.declared.timeout.AckTimeout.{AckTimeout}
use Rattle.link.specs.Timeout.{duration-between, duration-grows, bounded}
use Rattle.engine.specs.declared.state.InFlight.{InFlight}
use Rattle.engine.specs.declared.state.SentReliableStatus.{SentReliableStatus}
use Rattle.engine.specs.declared.state.SentReliableStatus.TheVariants.{Sent, Received, ResendQueued}
use Rattle.engine.specs.declared.state.SentReliable.{SentReliable}
use Rattle.engine.specs.declared.state.State.{State}
use Rattle.engine.specs.Answer.{changed_by}
use Rattle.engine.specs.Gates.{slot_verdict, timed_verdict}
use Rattle.engine.specs.Packets.{no_packet, packets, is_sent}
use Rattle.engine.specs.Rows.{row_of}
use Rattle.engine.specs.Sound.{packet_at}
use Rattle.engine.specs.Flushing.{flushed_packet, flushed_state, flush_of}
use Rattle.engine.specs.Unconfirming.{unconfirmed_packet, unconfirmed_state, unconfirm_of}
use Rattle.engine.specs.Resending.{resend_verdict, resent_state, resent_by, resend_of, resend-passed}
use Rattle.engine.specs.Acking.{settled, acked_state, ack_verdict, ack_of}
use Rattle.engine.specs.Deadlines.{in_flight, first_sent, was_flushed, definitely_sent, deadline_of, named_by, confirm_timeout_verdict, confirm_timeout_by, earliest_confirm_timeout_of, Oldest, timeout-passed}
use Rattle.laws.specs.Good.{Good}
use Rattle.laws.specs.PacketsKept.{packets-count, map-length, map_at}
use Rattle.laws.specs.PacketEffects.{change_at, swept, sweep-keeps, resent_status, unconfirmed-packets, flushed-packets, resent-packets, acked-packets}

-- ---- the deadline

module _ (s : State) (flight : InFlight) (timeout : AckTimeout) (unreliable : Bool) (passed : confirm_timeout_verdict s timeout ≡ Ok tt) where
  -- it lies between the minimum and the maximum past the time that the packet was definitely sent ..
  pub deadline-between : (definitely_sent flight + timeout.min ≤ deadline_of s flight timeout unreliable)
      × (deadline_of s flight timeout unreliable ≤ definitely_sent flight + timeout.max)
  unfolding deadline_of
  deadline-between =
      let bounds = bounded timeout (timeout-passed s timeout passed).within in
      let wait = duration-between timeout (row_of s flight.slot).roundtrip flight.resent unreliable bounds.ordered in
      (omega (arith, wait.0), omega (arith, wait.1))

  -- .. and grows with the link's round trip
  pub deadline-grows : (later : State) → (row_of s flight.slot).roundtrip ≤ (row_of later flight.slot).roundtrip
      → deadline_of s flight timeout unreliable ≤ deadline_of later flight timeout unreliable
  unfolding deadline_of
  deadline-grows later h =
      let bounds = bounded timeout (timeout-passed s timeout passed).within in
      omega (arith, duration-grows timeout flight.resent unreliable (omega (arith, bounds.within)) h)

-- ---- the packet that is named, over a list of packets

-- no packet is Sent: none is found
pub none_found : (ps : List SentReliable) → ((i : ℕ) → i < length ps → is_sent (get_or ps i no_packet).status ≡ false) → first_sent ps ≡ None
unfolding first_sent
none_found [] none = refl
none_found (p ∷ ps) none = simp (none 0 (omega arith), none_found ps (λ i l. none (suc i) (omega arith)))

-- the oldest is found
pub oldest-found : (ps : List SentReliable) (i : ℕ) (flight : InFlight) → Oldest ps i flight → first_sent ps ≡ Some flight
unfolding first_sent
oldest-found [] i flight o = absurd (omega (arith, o.inside))
oldest-found (p ∷ ps) zero flight o = simp o.here
oldest-found (p ∷ ps) (suc i) flight o =
    simp (o.before 0 (omega arith))
    (oldest-found ps i flight (record { inside = omega (arith, o.inside); here = o.here; before = λ k h. o.before (suc k) (omega arith) }))

-- a Sent status has a flight; a Sent packet at the front is the oldest, and another before the oldest moves its place
sent_is : (st : SentReliableStatus) → is_sent st ≡ true → (flight : InFlight) × (st ≡ Sent flight)
sent_is (Sent flight) e = (flight, refl)
sent_is Received e = false-true e
sent_is (ResendQueued link) e = false-true e

sent-first : (p : SentReliable) (ps : List SentReliable) → is_sent p.status ≡ true → (flight : InFlight) × Oldest (p ∷ ps) 0 flight
sent-first p ps e = let f = sent_is p.status e in (f.0, record { inside = omega arith; here = f.1; before = λ k l. absurd (omega arith) })

one-before : (p : SentReliable) (ps : List SentReliable) (i : ℕ) (flight : InFlight) → is_sent p.status ≡ false → Oldest ps i flight → Oldest (p ∷ ps) (suc i) flight
one-before p ps i flight t o =
    record { inside = omega (arith, o.inside); here = o.here; before = λ k. elim k as (λ m. m < suc i → is_sent (get_or (p ∷ ps) m no_packet).status ≡ false) [ zero ↦ λ l. t | suc m ↦ λ l. o.before m (omega arith) ] }

-- where one is Sent there is an oldest, and none older
pub oldest-of : (ps : List SentReliable) (i : ℕ) → i < length ps → is_sent (get_or ps i no_packet).status ≡ true → (j : ℕ) × (flight : InFlight) × (j ≤ i) × Oldest ps j flight
oldest-of [] i h sent = absurd (omega arith)
oldest-of (p ∷ ps) zero h sent = let o = sent-first p ps sent in (0, o.0, omega arith, o.1)
oldest-of (p ∷ ps) (suc i) h sent =
    cases (is_sent p.status)
    (λ t. let o = sent-first p ps t in (0, o.0, omega arith, o.1))
    (λ t. let o = oldest-of ps i (omega arith) sent in (suc o.0, o.1, omega (arith, o.2), one-before p ps o.0 o.1 t o.3))

-- ---- the call

module _ (s : State) (timeout : AckTimeout) (unreliable : Bool) (passed : confirm_timeout_verdict s timeout ≡ Ok tt) where
  pub names : earliest_confirm_timeout_of s timeout unreliable ≡ named_by (first_sent (packets s.tx)) s timeout unreliable
  unfolding earliest_confirm_timeout_of
  names = ap (λ v. confirm_timeout_by v (named_by (first_sent (packets s.tx)) s timeout unreliable)) passed

  -- "No Sent packet: none is named."
  pub names-none : ((i : ℕ) → i < s.tx.txed_count → is_sent (packet_at s i).status ≡ false) → earliest_confirm_timeout_of s timeout unreliable ≡ Ok None
  names-none none =
      names ∙ ap (λ f. named_by f s timeout unreliable) (none_found (packets s.tx) (λ i h. none i (omega (arith, packets-count s.tx))))

  -- "the first packet in table order that is Sent": of a Sent packet's place and those before it
  pub names-oldest : (i : ℕ) → i < s.tx.txed_count → is_sent (packet_at s i).status ≡ true
      → (j : ℕ) × (flight : InFlight) × (j ≤ i) × Oldest (packets s.tx) j flight
      × (earliest_confirm_timeout_of s timeout unreliable ≡ Ok (Some (flight.slot, (was_flushed flight.flushed), (deadline_of s flight timeout unreliable))))
  names-oldest i h sent =
      let o = oldest-of (packets s.tx) i (omega (arith, packets-count s.tx)) sent in
      (o.0, o.1, o.2, o.3, names ∙ ap (λ f. named_by f s timeout unreliable) (oldest-found (packets s.tx) o.0 o.1 o.3))

-- ---- after a change of statuses

-- the first packet that is Sent once each has the status that a change gives it
unfoldable pub first_left : (SentReliable → SentReliableStatus) → List SentReliable → Option InFlight
first_left change [] = None
first_left change (p ∷ ps) = cond (is_sent (change p)) (in_flight (change p)) (first_left change ps)

-- the law over the packets: where every place has the status that the change gives it, the packet named is the first that is left Sent
pub first-changed : (change : SentReliable → SentReliableStatus) (ps qs : List SentReliable) → length qs ≡ length ps
    → ((i : ℕ) → i < length ps → (get_or qs i no_packet).status ≡ change (get_or ps i no_packet)) → first_sent qs ≡ first_left change ps
unfolding first_sent first_left
first-changed change [] [] e h = refl
first-changed change [] (q ∷ qs) e h = absurd (omega (arith, e))
first-changed change (p ∷ ps) [] e h = absurd (omega (arith, e))
first-changed change (p ∷ ps) (q ∷ qs) e h =
    simp (h 0 (omega arith), first-changed change ps qs (omega (arith, e)) (λ i l. h (suc i) (omega arith)))

first-mapped : (f : SentReliable → SentReliable) (ps : List SentReliable) → first_sent (map f ps) ≡ first_left (λ p. (f p).status) ps
first-mapped f ps = first-changed (λ p. (f p).status) ps (map f ps) (map-length f ps) (λ i h. ap (λ p. p.status) (map_at f no_packet ps i h))

-- what is dropped is Received, so that the first Sent packet stays
sweep-sent : (ps : List SentReliable) → first_sent (swept ps) ≡ first_sent ps
unfolding first_sent
sweep-sent ps = sweep-keeps (λ ps qs. first_sent qs ≡ first_sent ps) (λ ps. refl) (λ p ps qs r e. e ∙ sym (simp r)) ps

-- ---- the calls, accepted; a refused one changes nothing

module _ (s : State) (good : Good s) where
  pub flush-names : (slot time : ℕ) → timed_verdict s slot time (Ok tt) ≡ Ok tt
      → first_sent (packets (flush_of s slot time).state.tx) ≡ first_left (λ p. (flushed_packet slot time p).status) (packets s.tx)
  unfolding flush_of
  flush-names slot time e =
      ap (λ v. first_sent (packets (changed_by v s (flushed_state s slot time)).state.tx)) e ∙ ap first_sent (flushed-packets s good slot time) ∙ first-mapped _ (packets s.tx)

  pub unconfirm-names : (slot : ℕ) → slot_verdict s slot ≡ Ok tt
      → first_sent (packets (unconfirm_of s slot).state.tx) ≡ first_left (λ p. (unconfirmed_packet slot p).status) (packets s.tx)
  unfolding unconfirm_of
  unconfirm-names slot e =
      ap (λ v. first_sent (packets (changed_by v s (unconfirmed_state s slot)).state.tx)) e ∙ ap first_sent (unconfirmed-packets s good slot) ∙ first-mapped _ (packets s.tx)

  pub resend-names : (slot time n : ℕ) → n < 2 ^ 32 → resend_verdict s slot time n ≡ Ok tt
      → first_sent (packets (resend_of s slot time n).state.tx) ≡ first_left (change_at n (resent_status s slot time)) (packets s.tx)
  unfolding resend_of
  resend-names slot time n u32 e =
      ap (λ v. first_sent (packets (resent_by v s n (resent_state s slot time n)).state.tx)) e
      ∙ ap first_sent (resent-packets s good slot time n u32 (resend-passed s slot time n good.shaped u32 e).held)
      ∙ first-mapped _ (packets s.tx)

  pub ack-names : (slot time a : ℕ) → a < 2 ^ 32 → ack_verdict s slot time a ≡ Ok tt
      → first_sent (packets (ack_of s slot time a).state.tx) ≡ first_left (change_at a (settled slot)) (packets s.tx)
  unfolding ack_of
  ack-names slot time a u32 e =
      ap (λ v. first_sent (packets (changed_by v s (acked_state s slot time a)).state.tx)) e
      ∙ ap first_sent (acked-packets s good slot time a u32)
      ∙ sweep-sent _
      ∙ first-mapped _ (packets s.tx)
