-- The calls' promises are those that `told` and `next` are made of (Calls): `Reads.Learnt` of a call is its promise, which the
-- checker makes of the source, and whatever meets it tells what `told` says and leaves the state and the stores that `next` says.
-- So what `refused`, `kept` and `always-good` say of them holds of the calls, and a promise that comes to cite another definition
-- is refused here. Assumes nothing.
use Rattle.std.specs.Prelude.{◌≡◌, refl, Bool, List, [], ◌≢◌, ℕ, length, Result}
use Rattle.refusal.specs.declared.Refusal.{Refusal}
use Rattle.engine.specs.Held.{ConfirmTimeout, HandOut}
use Rattle.std.proofs.Common.{ap, sym, subst, ◌∙◌}
use contract.Lifetimes.{Lfts}
use Rattle.std.specs.Borrow.{Bor}
use Rattle.seq.specs.declared.Seq.{Seq}
use Rattle.seq.specs.Numbers.{seq_of}
use Rattle.msg.specs.declared.reliable.ReliableMsg.{ReliableMsg}
use Rattle.engine.specs.declared.state.State.{State}
use Rattle.engine.specs.declared.answer.Changed.{Changed}
use Rattle.engine.specs.declared.links.Added.{Added}
use Rattle.engine.specs.declared.sending.SendResult.{SendResult}
use Rattle.engine.specs.declared.resending.ResendResult.{ResendResult}
use Rattle.engine.specs.declared.handing_out.TakeResult.{TakeResult}
use Rattle.engine.specs.declared.handing_out.TakeAckResult.{TakeAckResult}
use Rattle.engine.specs.Answer.{outcome_told}
use Rattle.engine.specs.Decide.{soundb, sound_withb}
use Rattle.engine.specs.Starting.{fresh_verdict, fresh_of, fresh_records, RefusedUnsound}
use Rattle.engine.specs.Links.{add_told}
use Rattle.engine.specs.Sending.{send_told}
use Rattle.engine.specs.Resending.{resend_told}
use Rattle.engine.specs.Receiving.{receive_verdict, receive_of, receive_store, receive_records}
use Rattle.engine.specs.HandingOut.{hand_out_told, shown_at, shown_of, take_ack_told, due_told}
use Rattle.engine.specs.Deadlines.{confirm_timeout_told}
use Rattle.refusal.specs.Answers.{Told, told_by}
use Rattle.engine.proofs as engine
use Rattle.laws.specs.Calls.{Call, Add, Remove, Confirm, Unconfirm, Block, Mark, Ping, Pong, Flush, Send, Resend, Ack, Receive, Show, Take, Due, Close, TakeAck, EarliestConfirmTimeout, Holding, with_state, table, told, next, Typed}
use Rattle.laws.specs.Refused.{refused-told}
use Rattle.laws.specs.Good.{Good}
use Rattle.laws.specs.SoundKept.{kept-by}
use Rattle.laws.specs.RecordsKept.{records-kept}
use Rattle.engine.specs.Sound.{SoundRecords}
use Rattle.laws.specs.Unique.{Place, lent, lent_mut}

-- a call on what h holds tells t and leaves `after`, as `told` and `next` say
abbrev pub Says : Call → Holding → Told → Holding → Type 0
Says c h t after = (t ≡ told c h) × (after ≡ next c h)

abbrev pub SaysChanged : Call → Holding → Changed → Type 0
SaysChanged c h r = Says c h (outcome_told r.outcome) (with_state h r.state)

-- whatever meets the call's promise says so. A reference at exit stands at its parameter's place: `e.1.0` is the second's
abbrev pub Tied : Call → Holding → Type 0
Tied (Add id roundtrip max blocked unconfirmed) h = (κs : _) (r : Added) (e : _)
    → engine.links.add.Reads.Learnt κs (h.state, (id, (roundtrip, (max, (blocked, (unconfirmed, tt)))))) r e
    → Says (Add id roundtrip max blocked unconfirmed) h (add_told r.answer) (with_state h r.state)
Tied (Remove slot) h = (κs : _) (r : Changed) (e : _) → engine.unconfirming.remove.Reads.Learnt κs (h.state, (slot, tt)) r e → SaysChanged (Remove slot) h r
Tied (Confirm slot) h = (κs : _) (r : Changed) (e : _) → engine.links.confirm.Reads.Learnt κs (h.state, (slot, tt)) r e → SaysChanged (Confirm slot) h r
Tied (Unconfirm slot) h = (κs : _) (r : Changed) (e : _) → engine.unconfirming.unconfirm.Reads.Learnt κs (h.state, (slot, tt)) r e → SaysChanged (Unconfirm slot) h r
Tied (Block slot blocked) h = (κs : _) (r : Changed) (e : _) → engine.links.block.Reads.Learnt κs (h.state, (slot, (blocked, tt))) r e → SaysChanged (Block slot blocked) h r
Tied (Mark slot seq) h = (κs : _) (r : Changed) (e : _) → engine.links.mark.Reads.Learnt κs (h.state, (slot, (seq, tt))) r e → SaysChanged (Mark slot seq) h r
Tied (Ping slot time) h = (κs : _) (r : Changed) (e : _) → engine.links.ping.Reads.Learnt κs (h.state, (slot, (time, tt))) r e → SaysChanged (Ping slot time) h r
Tied (Pong slot time) h = (κs : _) (r : Changed) (e : _) → engine.links.pong.Reads.Learnt κs (h.state, (slot, (time, tt))) r e → SaysChanged (Pong slot time) h r
Tied (Flush slot time) h = (κs : _) (r : Changed) (e : _) → engine.flushing.flush.Reads.Learnt κs (h.state, (slot, (time, tt))) r e → SaysChanged (Flush slot time) h r
Tied (Send slot time msg bytes) h = (κs : Lfts 2) (i j : Place) (r : SendResult) (e : _)
    → engine.sending.send.Reads.Learnt κs (h.state, (lent_mut i h.sent, (slot, (time, (msg, (lent j bytes, tt)))))) r e
    → Says (Send slot time msg bytes) h (send_told r.answer) (record { state = r.state; sent = e.1.0.now; received = h.received; records = h.records })
Tied (Resend slot time n) h = (κs : _) (r : ResendResult) (e : _)
    → engine.resending.resend.Reads.Learnt κs (h.state, (slot, (time, (seq_of n, tt)))) r e
    → Says (Resend slot time n) h (resend_told r.answer) (with_state h r.state)
Tied (Ack slot time n) h = (κs : _) (r : Changed) (e : _) → engine.acking.ack.Reads.Learnt κs (h.state, (slot, (time, (seq_of n, tt)))) r e → SaysChanged (Ack slot time n) h r
Tied (Receive slot msg n bytes) h = (κs : Lfts 3) (i j k : Place) (r : Changed) (e : _)
    → engine.receiving.receive.Reads.Learnt κs (h.state, (lent_mut i h.received, (lent_mut j h.records, (slot, (msg, (seq_of n, (lent k bytes, tt))))))) r e
    → Says (Receive slot msg n bytes) h (outcome_told r.outcome) (record { state = r.state; sent = h.sent; received = e.1.0.now; records = e.1.1.0.now })
Tied Show h = (κs : Lfts 2) (i j : Place) (r : HandOut) (e : _)
    → engine.handing_out.showing.Reads.Learnt κs (h.state, (lent i h.received, (lent j h.records, tt))) r e → Says Show h (hand_out_told r) h
Tied Take h = (κs : Lfts 1) (i : Place) (r : TakeResult) (e : _)
    → engine.handing_out.take.Reads.Learnt κs (h.state, (lent_mut i h.records, tt)) r e
    → Says Take h (hand_out_told r.answer) (record { state = r.state; sent = h.sent; received = h.received; records = e.1.0.now })
Tied Due h = (κs : _) (r : Result Bool Refusal) (e : _) → engine.handing_out.is_consume_ack_required.Reads.Learnt κs (h.state, tt) r e → Says Due h (due_told r) h
Tied Close h = (κs : _) (r : Changed) (e : _) → engine.closing.close_reader.Reads.Learnt κs (h.state, tt) r e → SaysChanged Close h r
Tied (TakeAck slot) h = (κs : _) (r : TakeAckResult) (e : _) → engine.handing_out.take_ack.Reads.Learnt κs (h.state, (slot, tt)) r e → Says (TakeAck slot) h (take_ack_told r.answer) (with_state h r.state)
Tied (EarliestConfirmTimeout timeout unreliable) h = (κs : _) (r : ConfirmTimeout) (e : _)
    → engine.deadlines.earliest_confirm_timeout.Reads.Learnt κs (h.state, (timeout, (unreliable, tt))) r e
    → Says (EarliestConfirmTimeout timeout unreliable) h (confirm_timeout_told r) h

-- an answer that is the definition's leaves what it leaves
left-changed : (h : Holding) {r d : Changed} → r ≡ d → with_state h r.state ≡ with_state h d.state
left-changed h p = ap (λ (a : Changed). with_state h a.state) p

pub tied : (c : Call) (h : Holding) → Tied c h
tied (Add id roundtrip max blocked unconfirmed) h = λ κs r e p. (p.1, ap (λ (a : Added). with_state h a.state) p.0)
tied (Remove slot) h = λ κs r e p. (p.1, left-changed h p.0)
tied (Confirm slot) h = λ κs r e p. (p.1, left-changed h p.0)
tied (Unconfirm slot) h = λ κs r e p. (p.1, left-changed h p.0)
tied (Block slot blocked) h = λ κs r e p. (p.1, left-changed h p.0)
tied (Mark slot seq) h = λ κs r e p. (p.1, left-changed h p.0)
tied (Ping slot time) h = λ κs r e p. (p.1, left-changed h p.0)
tied (Pong slot time) h = λ κs r e p. (p.1, left-changed h p.0)
tied (Flush slot time) h = λ κs r e p. (p.1, left-changed h p.0)
tied (Send slot time msg bytes) h = λ κs i j r e p. (p.1.0, λ d. record { state = (p.0 d).state; sent = p.1.1 d; received = h.received; records = h.records })
tied (Resend slot time n) h = λ κs r e p. (p.1, ap (λ (a : ResendResult). with_state h a.state) p.0)
tied (Ack slot time n) h = λ κs r e p. (p.1, left-changed h p.0)
tied (Receive slot msg n bytes) h = λ κs i j k r e p. (p.1.0, λ d. record { state = (p.0 d).state; sent = h.sent; received = p.1.1.0 d; records = p.1.1.1 d })
tied Show h = λ κs i j r e p. (p.1, refl)
tied Take h = λ κs i r e p. (p.1.0, λ d. record { state = (p.0 d).state; sent = h.sent; received = h.received; records = p.1.1 d })
tied Due h = λ κs r e p. (p.1, refl)
tied Close h = λ κs r e p. (p.1, left-changed h p.0)
tied (TakeAck slot) h = λ κs r e p. (p.1, ap (λ (a : TakeAckResult). with_state h a.state) p.0)
tied (EarliestConfirmTimeout timeout unreliable) h = λ κs r e p. (p.1, refl)

-- ---- so the laws hold of whatever meets the promises

module _ (c : Call) (h : Holding) (t : Told) (after : Holding) (says : Says c h t after) where
  -- "Each returns its number alone; state and lent bytes stay as they came."
  pub refused-by-promise : t.number ≢ 0 → after ≡ h
  refused-by-promise some = says.1 ∙ refused-told c h (λ zero. some (ap (λ (x : Told). x.number) says.0 ∙ zero))

  -- "Calls keep a sound state sound."
  pub kept-by-promise : Typed c → Good h.state → Good after.state
  kept-by-promise typed good = subst (λ (k : Holding). Good k.state) (sym says.1) (kept-by (λ slot time n t. t) c h typed good)

  -- .. and so its records
  pub recorded-by-promise : Typed c → Good h.state → SoundRecords (table h) → SoundRecords (table after)
  recorded-by-promise typed good recorded = subst (λ (k : Holding). SoundRecords (table k)) (sym says.1) (records-kept c h typed good recorded)

-- ---- the promises of the calls that are no `Call`, word by word; and of one that is, to see what is learnt of two `ensures`

fresh-learnt : (κs : Lfts 1) (start : Seq) (buffer cells : ℕ) (records : List ℕ) (i : Place) (r : Changed) (e : _)
    → engine.starting.fresh.Reads.Learnt κs (start, (buffer, (cells, (lent_mut i records, tt)))) r e
    ≡ ((r ≡ fresh_of start.0 buffer cells (length records))
    × ((outcome_told r.outcome ≡ told_by (fresh_verdict buffer cells (length records)) []) × (RefusedUnsound r × (e.1.1.1.0.now ≡ fresh_records buffer cells records))))
fresh-learnt κs start buffer cells records i r e = refl

sound-learnt : (κs : _) (s : State) (r : Bool) (e : _) → engine.sound.is_sound.Reads.Learnt κs (s, tt) r e ≡ (r ≡ soundb s)
sound-learnt κs s r e = refl

sound-with-learnt : (κs : Lfts 1) (s : State) (records : List ℕ) (i : Place) (r : Bool) (e : _)
    → engine.sound.is_sound_with.Reads.Learnt κs (s, (lent i records, tt)) r e ≡ (r ≡ sound_withb s records)
sound-with-learnt κs s records i r e = refl

show-learnt : (κs : Lfts 2) (s : State) (store records : List ℕ) (i j : Place) (r : Bor (List ℕ)) (e : _)
    → engine.handing_out.show.Reads.Learnt κs (s, (lent i store, (lent j records, tt))) r e ≡ ((r.now ≡ shown_of s store records) × (r.ref_ptr ≡ shown_at s (length store) records i.ptr))
show-learnt κs s store records i j r e = refl

receive-learnt : (κs : Lfts 3) (s : State) (store records : List ℕ) (slot : ℕ) (msg : ReliableMsg) (seq : Seq) (payload : List ℕ) (i j k : Place) (r : Changed) (e : _)
    → engine.receiving.receive.Reads.Learnt κs (s, (lent_mut i store, (lent_mut j records, (slot, (msg, (seq, (lent k payload, tt))))))) r e
    ≡ ((r ≡ receive_of s (length store) records slot msg seq.0 (length payload))
    × ((outcome_told r.outcome ≡ told_by (receive_verdict s (length store) records slot msg seq.0 (length payload)) [])
    × ((e.1.0.now ≡ receive_store s store records slot msg seq.0 payload)
    × (e.1.1.0.now ≡ receive_records s (length store) records slot msg seq.0 (length payload)))))
receive-learnt κs s store records slot msg seq payload i j k r e = refl
