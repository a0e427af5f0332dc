-- What holds of every call by its verdict: a refused one leaves all as it came; one that passes tells 0, leaves `done`, says of its arguments what `Passed`
-- says, and keeps a good state so. Assumes nothing.
use Rattle.std.specs.Prelude.{◌≡◌, refl, ℕ, ◌^◌, ◌<◌, length, false, Some, Ok, Err}
use Rattle.refusal.specs.Verdicts.{Verdict}
use Rattle.std.proofs.Common.{sym, ap, subst}
use Rattle.refusal.specs.declared.Refusal.{Refusal}
use Rattle.link.specs.Row.{fresh_row}
use Rattle.link.specs.Acks.{oldest_ack}
use Rattle.engine.specs.declared.state.State.{State}
use Rattle.engine.specs.Answer.{changed_by}
use Rattle.engine.specs.Gates.{slot-passed, timed-passed}
use Rattle.engine.specs.Rows.{row_of}
use Rattle.engine.specs.Stores.{store_by}
use Rattle.engine.specs.Links.{add_of, added_by, add_verdict, lowest_in, confirm_of, block_of, mark_of, ping_of, pong_of, add-passed}
use Rattle.engine.specs.Unconfirming.{unconfirm_of, remove_of}
use Rattle.engine.specs.Sending.{send_of, send_store, sent_by, send_verdict, send-passed}
use Rattle.engine.specs.Flushing.{flush_of}
use Rattle.engine.specs.Resending.{resend_of, resent_by, resend_verdict, resent_state, resend-passed}
use Rattle.engine.specs.Acking.{ack_of, ack-passed}
use Rattle.engine.specs.Receiving.{receive_of, receive_store, receive_records, receive_verdict, receive-passed}
use Rattle.engine.specs.HandingOut.{hand_out_by, take_verdict, taken_by, take_of, records_by, take_records, taking, take_ack_verdict, ack_as, ack_answer, taken_ack_by, take_ack_of, take-ack-passed}
use Rattle.engine.specs.Fields.{with_row}
use Rattle.laws.specs.Good.{Good}
use Rattle.laws.specs.Calls.{Call, Add, Remove, Confirm, Unconfirm, Block, Mark, Ping, Pong, Flush, Send, Resend, Ack, Receive, Show, Take, Due, Close, TakeAck, EarliestConfirmTimeout, Holding, with_state, table, again, verdict, values, number, next, Typed, done, Passed}
use Rattle.engine.specs.Closing.{close_of}
use Rattle.refusal.specs.Answers.{told_by}
use Rattle.laws.specs.ReaderKept.{read-good}
use borrow.Table.Steps.{cases}
use Rattle.laws.specs.LinksKept.{confirmed-good, blocked-good, marked-good, pinged-good, ponged-good, added-good}
use Rattle.laws.specs.UnconfirmKept.{unconfirmed-good, removed-good}
use Rattle.laws.specs.FlushKept.{flushed-good}
use Rattle.laws.specs.SendKept.{sent-good}
use Rattle.laws.specs.ResendKept.{resent-good}
use Rattle.laws.specs.AckKept.{acked-good}
use Rattle.laws.specs.ReceiveKept.{received-good, repeated-good}
use Rattle.laws.specs.TakeKept.{taken-good, take-ack-good}

-- ---- a call does what it says

-- of a verdict: what is left of h, where d is left by a call that passes
abbrev Judges : Verdict → Holding → Holding → Holding → Type 0
Judges (Ok tt) left d h = left ≡ d
Judges (Err e) left d h = left ≡ h

by : (v : Verdict) (left : Verdict → Holding) {d h : Holding} → left (Ok tt) ≡ d → ((e : Refusal) → left (Err e) ≡ h) → Judges v (left v) d h
by (Ok tt) left kept same = kept
by (Err e) left kept same = same e

by-changed : (h : Holding) (v : Verdict) (after : State) → Judges v (with_state h (changed_by v h.state after).state) (with_state h after) h
by-changed h v after = by v (λ x. with_state h (changed_by x h.state after).state) refl (λ e. refl)

judged : (c : Call) (h : Holding) → Judges (verdict c h) (next c h) (done c h) h
unfolding add_of remove_of confirm_of unconfirm_of block_of mark_of ping_of pong_of flush_of send_of send_store resend_of ack_of receive_of receive_store receive_records hand_out_by take_of take_records close_of ack_answer take_ack_of
judged (Add id roundtrip max blocked unconfirmed) h =
    let s = h.state in
    let after = with_row s (lowest_in s) (fresh_row id roundtrip max blocked unconfirmed) in
    by (add_verdict s id roundtrip max) (λ v. with_state h (added_by v (lowest_in s) s after).state) refl (λ e. refl)
judged (Remove slot) h = let c = Remove slot in by-changed h (verdict c h) (done c h).state
judged (Confirm slot) h = let c = Confirm slot in by-changed h (verdict c h) (done c h).state
judged (Unconfirm slot) h = let c = Unconfirm slot in by-changed h (verdict c h) (done c h).state
judged (Block slot blocked) h = let c = Block slot blocked in by-changed h (verdict c h) (done c h).state
judged (Mark slot seq) h = let c = Mark slot seq in by-changed h (verdict c h) (done c h).state
judged (Ping slot time) h = let c = Ping slot time in by-changed h (verdict c h) (done c h).state
judged (Pong slot time) h = let c = Pong slot time in by-changed h (verdict c h) (done c h).state
judged (Flush slot time) h = let c = Flush slot time in by-changed h (verdict c h) (done c h).state
judged (Send slot time msg bytes) h =
    let s = h.state in
    let after = done (Send slot time msg bytes) h in
    by (send_verdict s (length h.sent) slot time msg (length bytes))
    (λ v. record { state = (sent_by v s after.state).state; sent = store_by v h.sent after.sent; received = h.received; records = h.records }) refl (λ e. refl)
judged (Resend slot time n) h =
    let s = h.state in
    by (resend_verdict s slot time n) (λ v. with_state h (resent_by v s n (resent_state s slot time n)).state) refl (λ e. refl)
judged (Ack slot time n) h = let c = Ack slot time n in by-changed h (verdict c h) (done c h).state
judged (Receive slot msg n bytes) h =
    let s = h.state in
    let after = done (Receive slot msg n bytes) h in
    by (receive_verdict s (length h.received) h.records slot msg n (length bytes))
    (λ v. record {
      state = (changed_by v s after.state).state;
      sent = h.sent;
      received = store_by v h.received after.received;
      records = store_by v h.records after.records;
    }) refl (λ e. refl)
judged Show h = by (verdict Show h) (λ v. h) refl (λ e. refl)
judged Take h =
    by (take_verdict h.state h.records)
    (λ v. record {
      state = taken_by (hand_out_by v (table h)) h.state h.records;
      sent = h.sent;
      received = h.received;
      records = records_by (hand_out_by v (table h)) h.state h.records;
    }) refl (λ e. refl)
judged Due h = by (verdict Due h) (λ v. h) refl (λ e. refl)
judged Close h = by-changed h (verdict Close h) (done Close h).state
judged (TakeAck slot) h =
    let ack = oldest_ack (row_of h.state slot) in
    by (take_ack_verdict h.state slot) (λ v. with_state h (taken_ack_by (ack_as v ack) h.state slot)) refl (λ e. refl)
judged (EarliestConfirmTimeout timeout unreliable) h = let c = EarliestConfirmTimeout timeout unreliable in by (verdict c h) (λ v. h) refl (λ e. refl)

module _ (c : Call) (h : Holding) where
  pub left_passed : verdict c h ≡ Ok tt → next c h ≡ done c h
  left_passed e = subst (λ (v : Verdict). Judges v (next c h) (done c h) h) e (judged c h)

  pub left-refused : (e : Refusal) → verdict c h ≡ Err e → next c h ≡ h
  left-refused r e = subst (λ (v : Verdict). Judges v (next c h) (done c h) h) e (judged c h)

  pub number_passed : verdict c h ≡ Ok tt → number c h ≡ 0
  number_passed e = ap (λ (v : Verdict). (told_by v (values c h)).number) e

  -- what holds before a call and after an accepted one, holds after it
  pub next-keeps : (P : Holding → Type 0) → P h → (verdict c h ≡ Ok tt → P (done c h)) → P (next c h)
  next-keeps P old new = go (verdict c h) refl
    where
      go : (v : Verdict) → verdict c h ≡ v → P (next c h)
      go (Ok tt) e = subst P (sym (left_passed e)) (new e)
      go (Err r) e = subst P (sym (left-refused r e)) old

  -- .. with the answer that the verdict makes
  pub answer_keeps : {A : Type 0} (answer : Verdict → A) (P : A → Holding → Type 0) → (verdict c h ≡ Ok tt → P (answer (Ok tt)) (done c h))
      → ((e : Refusal) → P (answer (Err e)) h) → P (answer (verdict c h)) (next c h)
  answer_keeps answer P took left = go (verdict c h) refl
    where
      go : (v : Verdict) → verdict c h ≡ v → P (answer (verdict c h)) (next c h)
      go (Ok tt) e = subst (P (answer (verdict c h))) (sym (left_passed e)) (subst (λ (v : Verdict). P (answer v) (done c h)) (sym e) (took e))
      go (Err r) e = subst (P (answer (verdict c h))) (sym (left-refused r e)) (subst (λ (v : Verdict). P (answer v) h) (sym e) (left r))

pub passed : (c : Call) (h : Holding) → Typed c → Good h.state → verdict c h ≡ Ok tt → Passed c h
unfolding hand_out_by
passed (Add id roundtrip max blocked unconfirmed) h t g e = add-passed h.state id roundtrip max e
passed (Remove slot) h t g e = slot-passed h.state slot e
passed (Confirm slot) h t g e = slot-passed h.state slot e
passed (Unconfirm slot) h t g e = slot-passed h.state slot e
passed (Block slot blocked) h t g e = slot-passed h.state slot e
passed (Mark slot seq) h t g e = slot-passed h.state slot e
passed (Ping slot time) h t g e = (timed-passed h.state slot time (Ok tt) e).0
passed (Pong slot time) h t g e = (timed-passed h.state slot time (Ok tt) e).0
passed (Flush slot time) h t g e = (timed-passed h.state slot time (Ok tt) e).0
passed (Send slot time msg bytes) h t g e = send-passed h.state (length h.sent) slot time msg (length bytes) e
passed (Resend slot time n) h t g e = resend-passed h.state slot time n g.shaped t e
passed (Ack slot time n) h t g e = ack-passed h.state slot time n e
passed (Receive slot msg n bytes) h t g e = receive-passed h.state (length h.received) h.records slot msg n (length bytes) e
passed Show h t g e = tt
passed Take h t g e = taking h.state h.records _ _ _ (ap (λ (v : Verdict). hand_out_by v (table h)) e)
passed Due h t g e = tt
passed Close h t g e = tt
passed (TakeAck slot) h t g e = take-ack-passed h.state slot e
passed (EarliestConfirmTimeout timeout unreliable) h t g e = tt

-- ---- an accepted call keeps a good state so: those of the single calls are in the files *Kept

-- a typed ack has a number of 32 bits: each law below asks that where it is stated, so that a definition that says less of an ack refuses each by itself
abbrev pub AckIsNumber : Type 0
AckIsNumber = (slot time n : ℕ) → Typed (Ack slot time n) → n < 2 ^ 32

pub done-good-by : AckIsNumber → (c : Call) (h : Holding) → Typed c → Good h.state → Passed c h → Good (done c h).state
done-good-by acked (Add id roundtrip max blocked unconfirmed) h t g p = added-good h.state g id roundtrip max blocked unconfirmed p
done-good-by acked (Remove slot) h t g p = removed-good h.state g slot p
done-good-by acked (Confirm slot) h t g p = confirmed-good h.state g slot p
done-good-by acked (Unconfirm slot) h t g p = unconfirmed-good h.state g slot p
done-good-by acked (Block slot blocked) h t g p = blocked-good h.state g slot blocked p
done-good-by acked (Mark slot seq) h t g p = marked-good h.state g slot (Some seq) p
done-good-by acked (Ping slot time) h t g p = pinged-good h.state g slot time p
done-good-by acked (Pong slot time) h t g p = ponged-good h.state g slot time p
done-good-by acked (Flush slot time) h t g p = flushed-good h.state g slot time p
done-good-by acked (Send slot time msg bytes) h t g p = sent-good h.state g (length h.sent) slot time msg (length bytes) p
done-good-by acked (Resend slot time n) h t g p = resent-good h.state g slot time n t p
done-good-by acked (Ack slot time n) h t g p = acked-good h.state g slot time n (acked slot time n t) p.timed
done-good-by acked (Receive slot msg n bytes) h t g p =
    cases (again h n)
    (λ old. simp old (repeated-good h.state g slot n p.at))
    (λ new. simp new (received-good h.state g (length h.received) h.records slot msg n (length bytes) p new).state)
done-good-by acked Show h t g p = g
done-good-by acked Take h t g p = (taken-good h.state g h.records _ _ _ p).state
done-good-by acked Due h t g p = g
done-good-by acked Close h t g p = read-good h.state false g
done-good-by acked (TakeAck slot) h t g p = take-ack-good h.state g slot p.at
done-good-by acked (EarliestConfirmTimeout timeout unreliable) h t g p = g

pub done-good : (c : Call) (h : Holding) → Typed c → Good h.state → Passed c h → Good (done c h).state
done-good = done-good-by (λ slot time n t. t)
