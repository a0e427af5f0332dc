-- Request [4]: "a call that closes it for good; closing twice is accepted and changes nothing. With the reader closed, messages are still
-- received, acked and taken as before." No call's answer but that of `is_consume_ack_required` goes by the reader, nothing that a call leaves does,
-- and only the closing call changes it. Assumes nothing.
use Rattle.std.specs.Prelude.{◌≡◌, refl, ◌≢◌, Bool, true, false, cond, ◌&&◌, ℕ, eqb, length, Some, None, Option, Ok, Err}
use Rattle.engine.specs.declared.state.InFlight.{InFlight}
use Rattle.std.proofs.Common.{sym, ◌∙◌}
use Rattle.std.proofs.Math.Path.{ap}
use borrow.Table.Steps.{cases}
use Rattle.refusal.specs.Verdicts.{Verdict, gate}
use Rattle.link.specs.declared.timeout.AckTimeout.{AckTimeout}
use Rattle.engine.specs.declared.state.State.{State}
use Rattle.engine.specs.declared.answer.Changed.{Changed}
use Rattle.engine.specs.Decide.{soundb, sound, sound-true, recordsb, sound_withb}
use Rattle.engine.specs.Answer.{changed_by}
use Rattle.engine.specs.Gates.{slot_verdict, timed_verdict, state_verdict}
use Rattle.engine.specs.Rows.{row_of, slot_ok, time_ok}
use Rattle.engine.specs.Links.{add_verdict}
use Rattle.engine.specs.Unconfirming.{unconfirmed_state, removed_state}
use Rattle.engine.specs.Flushing.{flushed_state}
use Rattle.engine.specs.Sending.{send_verdict, totals_ok, sent_state}
use Rattle.engine.specs.Resending.{resend_verdict, resent_state}
use Rattle.engine.specs.Acking.{ack_verdict, acked_row, acked_tx, acked_state}
use Rattle.engine.specs.Receiving.{lengths_ok, message_verdict, receive_verdict, repeated_state, effect_state, received_state}
use Rattle.engine.specs.HandingOut.{show_verdict, take_verdict, taken_state, take_ack_verdict, taken_ack_state}
use Rattle.engine.specs.Closing.{closed_state, close_of}
use Rattle.engine.specs.Deadlines.{confirm_timeout_verdict, first_sent, named_values, deadline_of}
use Rattle.engine.specs.Packets.{packets}
use Rattle.engine.specs.Sizes.{SENT_BYTES}
use Rattle.engine.specs.Fields.{with_reader}
use Rattle.laws.specs.ReaderKept.{read-sound}
use Rattle.laws.specs.Calls.{Call, Add, Remove, Confirm, Unconfirm, Block, Mark, Ping, Pong, Flush, Send, Resend, Ack, Receive, Show, Take, Due, Close, TakeAck, EarliestConfirmTimeout, Holding, with_state, table, again, verdict, values, done}

-- the same with the reader open or closed
abbrev pub reading : Bool → Holding → Holding
reading reads h = with_state h (with_reader h.state reads)

-- ---- what decides a call, what it tells and what it leaves

-- whether a state is sound, and each of its rows: what `is_sound` and `row_of` answer
pub reader-sound : (s : State) (reads : Bool) → soundb (with_reader s reads) ≡ soundb s
reader-sound s reads =
    cases (soundb s)
    (λ t. sound-true (with_reader s reads) (read-sound s reads (sound s t)) ∙ sym t)
    (λ f. cases (soundb (with_reader s reads)) (λ t. t ∙ sym (sound-true s (read-sound (with_reader s reads) s.read_open (sound (with_reader s reads) t)))) (λ t. t ∙ sym f))

pub reader-row : (s : State) (reads : Bool) (slot : ℕ) → row_of (with_reader s reads) slot ≡ row_of s slot
unfolding row_of
reader-row s reads slot = refl

named-reading : (found : Option InFlight) (s : State) (reads : Bool) (timeout : AckTimeout) (unreliable : Bool) → named_values found (with_reader s reads) timeout unreliable ≡ named_values found s timeout unreliable
unfolding deadline_of row_of
named-reading None s reads timeout unreliable = refl
named-reading (Some flight) s reads timeout unreliable = refl

-- of one state or the other
one_of : (first : Bool) (s t : State) (reads : Bool) → cond first (with_reader s reads) (with_reader t reads) ≡ with_reader (cond first s t) reads
one_of true s t reads = refl
one_of false s t reads = refl

-- of one call: its verdict is the same; so are its values, but for Due's; and so is what it leaves, but for Close's where the reader is to be open
abbrev pub Alike : Call → Holding → Bool → Type 0
Alike c h reads =
    (verdict c (reading reads h) ≡ verdict c h)
    × ((c ≢ Due → values c (reading reads h) ≡ values c h) × ((c ≡ Close → reads ≡ false) → done c (reading reads h) ≡ reading reads (done c h)))

by-sound : (h : Holding) (reads : Bool) (rest : Verdict) → gate (soundb (reading reads h).state) 1 rest ≡ gate (soundb h.state) 1 rest
by-sound h reads rest = ap (λ ok. gate ok 1 rest) (reader-sound h.state reads)

by-sound-with : (h : Holding) (reads : Bool) (rest : Verdict) → gate (sound_withb (reading reads h).state h.records) 1 rest ≡ gate (sound_withb h.state h.records) 1 rest
unfolding sound_withb
by-sound-with h reads rest = ap (λ ok. gate (ok && recordsb (table h)) 1 rest) (reader-sound h.state reads)

pub alike : (c : Call) (h : Holding) (reads : Bool) → Alike c h reads
unfolding slot_verdict timed_verdict add_verdict send_verdict totals_ok resend_verdict ack_verdict receive_verdict message_verdict show_verdict take_verdict take_ack_verdict confirm_timeout_verdict slot_ok time_ok row_of unconfirmed_state removed_state flushed_state sent_state resent_state acked_row acked_tx acked_state repeated_state effect_state received_state taken_state taken_ack_state
alike (Add id roundtrip max blocked unconfirmed) h reads = (by-sound h reads _, (λ u. refl, λ u. refl))
alike (Remove slot) h reads = (by-sound h reads _, (λ u. refl, λ u. refl))
alike (Confirm slot) h reads = (by-sound h reads _, (λ u. refl, λ u. refl))
alike (Unconfirm slot) h reads = (by-sound h reads _, (λ u. refl, λ u. refl))
alike (Block slot blocked) h reads = (by-sound h reads _, (λ u. refl, λ u. refl))
alike (Mark slot seq) h reads = (by-sound h reads _, (λ u. refl, λ u. refl))
alike (Ping slot time) h reads = (by-sound h reads _, (λ u. refl, λ u. refl))
alike (Pong slot time) h reads = (by-sound h reads _, (λ u. refl, λ u. refl))
alike (Flush slot time) h reads = (by-sound h reads _, (λ u. refl, λ u. refl))
alike (Send slot time msg bytes) h reads = (ap (λ v. gate (eqb (length h.sent) SENT_BYTES) 2 v) (by-sound h reads _), (λ u. refl, λ u. refl))
alike (Resend slot time n) h reads = (by-sound h reads _, (λ u. refl, λ u. refl))
alike (Ack slot time n) h reads = (by-sound h reads _, (λ u. refl, λ u. refl))
alike (Receive slot msg n bytes) h reads =
    let s = h.state in
    let left : State → Holding = with_state (done (Receive slot msg n bytes) h) in (
      ap (λ v. gate (lengths_ok s.rx (length h.received) (length h.records)) 2 v) (by-sound-with h reads _),
      (λ u. refl, λ u. ap left (one_of (again h n) (repeated_state s slot n) (received_state s h.records slot msg n (length bytes)) reads)),
    )
alike Show h reads = (ap (λ v. gate (lengths_ok h.state.rx (length h.received) (length h.records)) 2 v) (by-sound-with h reads _), (λ u. refl, λ u. refl))
alike Take h reads = (ap (λ v. gate (eqb (length h.records) h.state.rx.cells) 2 v) (by-sound-with h reads _), (λ u. refl, λ u. refl))
alike Due h reads = (by-sound h reads _, (λ u. absurd (u refl), λ u. refl))
alike Close h reads = (by-sound h reads _, (λ u. refl, λ u. ap (λ b. reading b h) (sym (u refl))))
alike (TakeAck slot) h reads = (by-sound h reads _, (λ u. refl, λ u. refl))
alike (EarliestConfirmTimeout timeout unreliable) h reads = (by-sound h reads _, (λ u. named-reading (first_sent (packets h.state.tx)) h.state reads timeout unreliable, λ u. refl))

-- ---- the laws that every call has (those that rest on `alike` stand in proofs/Reader.antt)

-- "closing twice is accepted and changes nothing", and where it is refused, it is refused again
pub closed-twice : (s : State) → close_of (close_of s).state ≡ close_of s
unfolding close_of
closed-twice s = go (state_verdict s) refl
  where
    go : (v : Verdict) → state_verdict s ≡ v → close_of (close_of s).state ≡ close_of s
    go (Ok tt) e =
        let once = ap (λ x. changed_by x s (closed_state s)) e in
        let again : state_verdict (closed_state s) ≡ Ok tt = ap (λ ok. gate ok 1 (Ok tt)) (reader-sound s false) ∙ e in
        ap (λ (x : Changed). close_of x.state) once ∙ ap (λ x. changed_by x (closed_state s) (closed_state s)) again ∙ sym once
    go (Err r) e = ap (λ (x : Changed). close_of x.state) (ap (λ x. changed_by x s (closed_state s)) e)
