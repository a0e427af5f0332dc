-- What each call in place promises is what the plain call tells and leaves. Assumes nothing.
use Rattle.std.specs.Prelude.{◌≡◌, Bool, List, [], ◌∷◌, ℕ, length, Option, Ok, Err, Result}
use Rattle.refusal.specs.declared.Refusal.{Refusal}
use Rattle.engine.specs.Held.{ConfirmTimeout, HandOut}
use Rattle.refusal.specs.Verdicts.{Verdict}
use Rattle.std.proofs.Math.Path.{refl}
use Rattle.std.proofs.Common.{sym, ap, ◌∙◌}
use Rattle.seq.specs.declared.Seq.{Seq}
use Rattle.msg.specs.declared.reliable.ReliableMsg.{ReliableMsg}
use Rattle.link.specs.declared.timeout.AckTimeout.{AckTimeout}
use Rattle.refusal.specs.Answers.{told_by, flag}
use Rattle.engine.specs.declared.state.State.{State}
use Rattle.engine.specs.Answer.{outcome_told, changed-told}
use Rattle.engine.specs.Links.{add_of, add_told, added_by, add_verdict, lowest_in, confirm_of, block_of, mark_of, ping_of, pong_of}
use Rattle.engine.specs.Unconfirming.{unconfirm_of, remove_of}
use Rattle.engine.specs.Flushing.{flush_of}
use Rattle.engine.specs.Acking.{ack_of, ack_verdict}
use Rattle.engine.specs.Closing.{close_of}
use Rattle.engine.specs.Gates.{slot_verdict, timed_verdict, state_verdict}
use Rattle.engine.specs.HandingOut.{take_ack_of, take_ack_told, answer-told, due_of, due_by, due_told, is_due, showing_of, show_verdict, take_of, take_verdict, take_records, hand_out_told, hand-told}
use Rattle.engine.specs.Sending.{send_of, send_told, sent_by, send_store, send_verdict}
use Rattle.engine.specs.Resending.{resend_of, resend_told, resent_by, resend_verdict}
use Rattle.engine.specs.Receiving.{receive_of, receive_store, receive_records, receive_verdict}
use Rattle.engine.specs.Deadlines.{earliest_confirm_timeout_of, confirm_timeout_told, confirm_timeout_by, confirm_timeout_verdict, named_by, named_values, named-told, first_sent}
use Rattle.engine.specs.Packets.{packets}
use Rattle.words.specs.Meaning.{state_of}
use Rattle.runs.specs.declared.answers.Answer.{Answer}
use Rattle.runs.specs.Asked.{Asked, It}
use Rattle.runs.specs.Answers.{answer_of}
use Rattle.runs.specs.Did.{OnWords, OnSent, OnReceived, holding, holding_of, did, words-did}
use Rattle.laws.specs.Calls.{Holding, told, Add, Remove, Confirm, Unconfirm, Block, Mark, Ping, Pong, Flush, Send, Resend, Ack, Receive, Show, Take, Due, Close, TakeAck, EarliestConfirmTimeout}

-- ---- what each tells

added-told : (v : Verdict) (slot : ℕ) (s next : State) → add_told (added_by v slot s next).answer ≡ told_by v (slot ∷ [])
added-told (Ok tt) slot s next = refl
added-told (Err e) slot s next = refl

sent-told : (v : Verdict) (s next : State) → send_told (sent_by v s next).answer ≡ told_by v (s.tx.tx_seq.0 ∷ [])
sent-told (Ok tt) s next = refl
sent-told (Err e) s next = refl

resent-told : (v : Verdict) (h : Holding) (slot time n : ℕ) (next : State) → v ≡ resend_verdict h.state slot time n → resend_told (resent_by v h.state n next).answer ≡ told (Resend slot time n) h
resent-told (Ok tt) h slot time n next e = simp (sym e)
resent-told (Err r) h slot time n next e = simp (sym e)

due-by-told : (v : Verdict) (s : State) → due_told (due_by v s) ≡ told_by v (flag (is_due s) ∷ [])
due-by-told (Ok tt) s = refl
due-by-told (Err e) s = refl

timeout-told : (v : Verdict) (s : State) (timeout : AckTimeout) (unreliable : Bool)
    → confirm_timeout_told (confirm_timeout_by v (named_by (first_sent (packets s.tx)) s timeout unreliable)) ≡ told_by v (named_values (first_sent (packets s.tx)) s timeout unreliable)
timeout-told (Ok tt) s timeout unreliable = named-told (first_sent (packets s.tx)) s timeout unreliable
timeout-told (Err e) s timeout unreliable = refl

module _ (h : Holding) where
  pub add-told : (id roundtrip : ℕ) (max : Option ℕ) (blocked unconfirmed : Bool)
      → add_told (add_of h.state id roundtrip max blocked unconfirmed).answer ≡ told (Add id roundtrip max blocked unconfirmed) h
  unfolding add_of
  add-told id roundtrip max blocked unconfirmed = added-told (add_verdict h.state id roundtrip max) (lowest_in h.state) h.state _

  pub remove-told : (slot : ℕ) → outcome_told (remove_of h.state slot).outcome ≡ told (Remove slot) h
  unfolding remove_of
  remove-told slot = changed-told (slot_verdict h.state slot) h.state _

  pub confirm-told : (slot : ℕ) → outcome_told (confirm_of h.state slot).outcome ≡ told (Confirm slot) h
  unfolding confirm_of
  confirm-told slot = changed-told (slot_verdict h.state slot) h.state _

  pub unconfirm-told : (slot : ℕ) → outcome_told (unconfirm_of h.state slot).outcome ≡ told (Unconfirm slot) h
  unfolding unconfirm_of
  unconfirm-told slot = changed-told (slot_verdict h.state slot) h.state _

  pub block-told : (slot : ℕ) (blocked : Bool) → outcome_told (block_of h.state slot blocked).outcome ≡ told (Block slot blocked) h
  unfolding block_of
  block-told slot blocked = changed-told (slot_verdict h.state slot) h.state _

  pub mark-told : (slot : ℕ) (seq : Seq) → outcome_told (mark_of h.state slot seq).outcome ≡ told (Mark slot seq) h
  unfolding mark_of
  mark-told slot seq = changed-told (slot_verdict h.state slot) h.state _

  pub ping-told : (slot time : ℕ) → outcome_told (ping_of h.state slot time).outcome ≡ told (Ping slot time) h
  unfolding ping_of
  ping-told slot time = changed-told (timed_verdict h.state slot time (Ok tt)) h.state _

  pub pong-told : (slot time : ℕ) → outcome_told (pong_of h.state slot time).outcome ≡ told (Pong slot time) h
  unfolding pong_of
  pong-told slot time = changed-told (timed_verdict h.state slot time (Ok tt)) h.state _

  pub flush-told : (slot time : ℕ) → outcome_told (flush_of h.state slot time).outcome ≡ told (Flush slot time) h
  unfolding flush_of
  flush-told slot time = changed-told (timed_verdict h.state slot time (Ok tt)) h.state _

  pub ack-told : (slot time n : ℕ) → outcome_told (ack_of h.state slot time n).outcome ≡ told (Ack slot time n) h
  unfolding ack_of
  ack-told slot time n = changed-told (ack_verdict h.state slot time n) h.state _

  pub resend-told : (slot time n : ℕ) → resend_told (resend_of h.state slot time n).answer ≡ told (Resend slot time n) h
  unfolding resend_of
  resend-told slot time n = resent-told (resend_verdict h.state slot time n) h slot time n _ refl

  pub send-told : (slot time : ℕ) (msg : ReliableMsg) (bytes : List ℕ)
      → send_told (send_of h.state (length h.sent) slot time msg (length bytes)).answer ≡ told (Send slot time msg bytes) h
  unfolding send_of
  send-told slot time msg bytes = sent-told (send_verdict h.state (length h.sent) slot time msg (length bytes)) h.state _

  pub receive-told : (slot : ℕ) (msg : ReliableMsg) (n : ℕ) (bytes : List ℕ)
      → outcome_told (receive_of h.state (length h.received) h.records slot msg n (length bytes)).outcome ≡ told (Receive slot msg n bytes) h
  unfolding receive_of
  receive-told slot msg n bytes = changed-told (receive_verdict h.state (length h.received) h.records slot msg n (length bytes)) h.state _

  pub show-told : hand_out_told (showing_of h.state (length h.received) h.records) ≡ told Show h
  unfolding showing_of
  show-told = hand-told (show_verdict h.state (length h.received) h.records) _ _ refl refl

  pub take-told : hand_out_told (take_of h.state h.records).answer ≡ told Take h
  unfolding take_of
  take-told = hand-told (take_verdict h.state h.records) _ _ refl refl

  pub take-ack-told : (slot : ℕ) → take_ack_told (take_ack_of h.state slot).answer ≡ told (TakeAck slot) h
  unfolding take_ack_of
  take-ack-told slot = answer-told h.state slot

  pub due-told : due_told (due_of h.state) ≡ told Due h
  unfolding due_of
  due-told = due-by-told (state_verdict h.state) h.state

  pub close-told : outcome_told (close_of h.state).outcome ≡ told Close h
  unfolding close_of
  close-told = changed-told (state_verdict h.state) h.state _

  pub deadline-told : (timeout : AckTimeout) (unreliable : Bool) → confirm_timeout_told (earliest_confirm_timeout_of h.state timeout unreliable) ≡ told (EarliestConfirmTimeout timeout unreliable) h
  unfolding earliest_confirm_timeout_of
  deadline-told timeout unreliable = timeout-told (confirm_timeout_verdict h.state timeout) h.state timeout unreliable

-- ---- what each leaves, with what it tells: the promise of its arm

pub add-did : (asked : Asked) (w w2 : List ℕ) (r : Answer) (o : Result ℕ Refusal) (id roundtrip : ℕ) (max : Option ℕ) (blocked unconfirmed : Bool) → asked ≡ It (Add id roundtrip max blocked unconfirmed) → r ≡ answer_of (add_told o) → o ≡ (add_of (state_of w) id roundtrip max blocked unconfirmed).answer
    → state_of w2 ≡ (add_of (state_of w) id roundtrip max blocked unconfirmed).state → OnWords asked w w2 r
add-did asked w w2 r o id roundtrip max blocked unconfirmed is t e l =
    words-did (Add id roundtrip max blocked unconfirmed) asked w w2 r (add_told o) (add_of (state_of w) id roundtrip max blocked unconfirmed).state is t l (λ s v c. ap add_told e ∙ add-told (holding_of w s v c) id roundtrip max blocked unconfirmed) (λ s v c. refl)

pub remove-did : (asked : Asked) (w w2 : List ℕ) (r : Answer) (o : Result Unit Refusal) (slot : ℕ) → asked ≡ It (Remove slot) → r ≡ answer_of (outcome_told o) → o ≡ (remove_of (state_of w) slot).outcome
    → state_of w2 ≡ (remove_of (state_of w) slot).state → OnWords asked w w2 r
remove-did asked w w2 r o slot is t e l =
    words-did (Remove slot) asked w w2 r (outcome_told o) (remove_of (state_of w) slot).state is t l (λ s v c. ap outcome_told e ∙ remove-told (holding_of w s v c) slot) (λ s v c. refl)

pub confirm-did : (asked : Asked) (w w2 : List ℕ) (r : Answer) (o : Result Unit Refusal) (slot : ℕ) → asked ≡ It (Confirm slot) → r ≡ answer_of (outcome_told o) → o ≡ (confirm_of (state_of w) slot).outcome
    → state_of w2 ≡ (confirm_of (state_of w) slot).state → OnWords asked w w2 r
confirm-did asked w w2 r o slot is t e l =
    words-did (Confirm slot) asked w w2 r (outcome_told o) (confirm_of (state_of w) slot).state is t l (λ s v c. ap outcome_told e ∙ confirm-told (holding_of w s v c) slot) (λ s v c. refl)

pub unconfirm-did : (asked : Asked) (w w2 : List ℕ) (r : Answer) (o : Result Unit Refusal) (slot : ℕ) → asked ≡ It (Unconfirm slot) → r ≡ answer_of (outcome_told o) → o ≡ (unconfirm_of (state_of w) slot).outcome
    → state_of w2 ≡ (unconfirm_of (state_of w) slot).state → OnWords asked w w2 r
unconfirm-did asked w w2 r o slot is t e l =
    words-did (Unconfirm slot) asked w w2 r (outcome_told o) (unconfirm_of (state_of w) slot).state is t l (λ s v c. ap outcome_told e ∙ unconfirm-told (holding_of w s v c) slot) (λ s v c. refl)

pub block-did : (asked : Asked) (w w2 : List ℕ) (r : Answer) (o : Result Unit Refusal) (slot : ℕ) (blocked : Bool) → asked ≡ It (Block slot blocked) → r ≡ answer_of (outcome_told o) → o ≡ (block_of (state_of w) slot blocked).outcome
    → state_of w2 ≡ (block_of (state_of w) slot blocked).state → OnWords asked w w2 r
block-did asked w w2 r o slot blocked is t e l =
    words-did (Block slot blocked) asked w w2 r (outcome_told o) (block_of (state_of w) slot blocked).state is t l (λ s v c. ap outcome_told e ∙ block-told (holding_of w s v c) slot blocked) (λ s v c. refl)

pub mark-did : (asked : Asked) (w w2 : List ℕ) (r : Answer) (o : Result Unit Refusal) (slot : ℕ) (seq : Seq) → asked ≡ It (Mark slot seq) → r ≡ answer_of (outcome_told o) → o ≡ (mark_of (state_of w) slot seq).outcome
    → state_of w2 ≡ (mark_of (state_of w) slot seq).state → OnWords asked w w2 r
mark-did asked w w2 r o slot seq is t e l =
    words-did (Mark slot seq) asked w w2 r (outcome_told o) (mark_of (state_of w) slot seq).state is t l (λ s v c. ap outcome_told e ∙ mark-told (holding_of w s v c) slot seq) (λ s v c. refl)

pub ping-did : (asked : Asked) (w w2 : List ℕ) (r : Answer) (o : Result Unit Refusal) (slot time : ℕ) → asked ≡ It (Ping slot time) → r ≡ answer_of (outcome_told o) → o ≡ (ping_of (state_of w) slot time).outcome
    → state_of w2 ≡ (ping_of (state_of w) slot time).state → OnWords asked w w2 r
ping-did asked w w2 r o slot time is t e l =
    words-did (Ping slot time) asked w w2 r (outcome_told o) (ping_of (state_of w) slot time).state is t l (λ s v c. ap outcome_told e ∙ ping-told (holding_of w s v c) slot time) (λ s v c. refl)

pub pong-did : (asked : Asked) (w w2 : List ℕ) (r : Answer) (o : Result Unit Refusal) (slot time : ℕ) → asked ≡ It (Pong slot time) → r ≡ answer_of (outcome_told o) → o ≡ (pong_of (state_of w) slot time).outcome
    → state_of w2 ≡ (pong_of (state_of w) slot time).state → OnWords asked w w2 r
pong-did asked w w2 r o slot time is t e l =
    words-did (Pong slot time) asked w w2 r (outcome_told o) (pong_of (state_of w) slot time).state is t l (λ s v c. ap outcome_told e ∙ pong-told (holding_of w s v c) slot time) (λ s v c. refl)

pub flush-did : (asked : Asked) (w w2 : List ℕ) (r : Answer) (o : Result Unit Refusal) (slot time : ℕ) → asked ≡ It (Flush slot time) → r ≡ answer_of (outcome_told o) → o ≡ (flush_of (state_of w) slot time).outcome
    → state_of w2 ≡ (flush_of (state_of w) slot time).state → OnWords asked w w2 r
flush-did asked w w2 r o slot time is t e l =
    words-did (Flush slot time) asked w w2 r (outcome_told o) (flush_of (state_of w) slot time).state is t l (λ s v c. ap outcome_told e ∙ flush-told (holding_of w s v c) slot time) (λ s v c. refl)

pub ack-did : (asked : Asked) (w w2 : List ℕ) (r : Answer) (o : Result Unit Refusal) (slot time n : ℕ) → asked ≡ It (Ack slot time n) → r ≡ answer_of (outcome_told o) → o ≡ (ack_of (state_of w) slot time n).outcome
    → state_of w2 ≡ (ack_of (state_of w) slot time n).state → OnWords asked w w2 r
ack-did asked w w2 r o slot time n is t e l =
    words-did (Ack slot time n) asked w w2 r (outcome_told o) (ack_of (state_of w) slot time n).state is t l (λ s v c. ap outcome_told e ∙ ack-told (holding_of w s v c) slot time n) (λ s v c. refl)

pub resend-did : (asked : Asked) (w w2 : List ℕ) (r : Answer) (o : Result (ReliableMsg × ℕ) Refusal) (slot time n : ℕ) → asked ≡ It (Resend slot time n) → r ≡ answer_of (resend_told o) → o ≡ (resend_of (state_of w) slot time n).answer
    → state_of w2 ≡ (resend_of (state_of w) slot time n).state → OnWords asked w w2 r
resend-did asked w w2 r o slot time n is t e l =
    words-did (Resend slot time n) asked w w2 r (resend_told o) (resend_of (state_of w) slot time n).state is t l (λ s v c. ap resend_told e ∙ resend-told (holding_of w s v c) slot time n) (λ s v c. refl)

pub take-ack-did : (asked : Asked) (w w2 : List ℕ) (r : Answer) (o : Result Seq Refusal) (slot : ℕ) → asked ≡ It (TakeAck slot) → r ≡ answer_of (take_ack_told o) → o ≡ (take_ack_of (state_of w) slot).answer
    → state_of w2 ≡ (take_ack_of (state_of w) slot).state → OnWords asked w w2 r
take-ack-did asked w w2 r o slot is t e l =
    words-did (TakeAck slot) asked w w2 r (take_ack_told o) (take_ack_of (state_of w) slot).state is t l (λ s v c. ap take_ack_told e ∙ take-ack-told (holding_of w s v c) slot) (λ s v c. refl)

pub due-did : (asked : Asked) (w : List ℕ) (r : Answer) (o : Result Bool Refusal) → asked ≡ It Due → r ≡ answer_of (due_told o) → o ≡ due_of (state_of w)
    → OnWords asked w w r
due-did asked w r o is t e =
    words-did Due asked w w r (due_told o) (state_of w) is t refl (λ s v c. ap due_told e ∙ due-told (holding_of w s v c)) (λ s v c. refl)

pub close-did : (asked : Asked) (w w2 : List ℕ) (r : Answer) (o : Result Unit Refusal) → asked ≡ It Close → r ≡ answer_of (outcome_told o) → o ≡ (close_of (state_of w)).outcome
    → state_of w2 ≡ (close_of (state_of w)).state → OnWords asked w w2 r
close-did asked w w2 r o is t e l =
    words-did Close asked w w2 r (outcome_told o) (close_of (state_of w)).state is t l (λ s v c. ap outcome_told e ∙ close-told (holding_of w s v c)) (λ s v c. refl)

pub deadline-did : (asked : Asked) (w : List ℕ) (r : Answer) (o : ConfirmTimeout) (timeout : AckTimeout) (unreliable : Bool) → asked ≡ It (EarliestConfirmTimeout timeout unreliable) → r ≡ answer_of (confirm_timeout_told o) → o ≡ earliest_confirm_timeout_of (state_of w) timeout unreliable
    → OnWords asked w w r
deadline-did asked w r o timeout unreliable is t e =
    words-did (EarliestConfirmTimeout timeout unreliable) asked w w r (confirm_timeout_told o) (state_of w) is t refl (λ s v c. ap confirm_timeout_told e ∙ deadline-told (holding_of w s v c) timeout unreliable) (λ s v c. refl)

pub send-did : (asked : Asked) (w s w2 s2 : List ℕ) (r : Answer) (o : Result Seq Refusal) (slot time : ℕ) (msg : ReliableMsg) (bytes : List ℕ) → asked ≡ It (Send slot time msg bytes)
    → r ≡ answer_of (send_told o) → o ≡ (send_of (state_of w) (length s) slot time msg (length bytes)).answer → state_of w2 ≡ (send_of (state_of w) (length s) slot time msg (length bytes)).state
    → s2 ≡ send_store (state_of w) s slot time msg bytes → OnSent asked w s w2 s2 r
send-did asked w s w2 s2 r o slot time msg bytes is t e l k = λ v c.
    did (Send slot time msg bytes) asked w s v c w2 s2 v c r (send_told o) is t (ap send_told e ∙ send-told (holding_of w s v c) slot time msg bytes) (λ i. holding (l i) (k i) v c)

pub receive-did : (asked : Asked) (w v c w2 v2 c2 : List ℕ) (r : Answer) (o : Result Unit Refusal) (slot : ℕ) (msg : ReliableMsg) (n : ℕ) (bytes : List ℕ) → asked ≡ It (Receive slot msg n bytes)
    → r ≡ answer_of (outcome_told o) → o ≡ (receive_of (state_of w) (length v) c slot msg n (length bytes)).outcome → state_of w2 ≡ (receive_of (state_of w) (length v) c slot msg n (length bytes)).state
    → v2 ≡ receive_store (state_of w) v c slot msg n bytes → c2 ≡ receive_records (state_of w) (length v) c slot msg n (length bytes) → OnReceived asked w v c w2 v2 c2 r
receive-did asked w v c w2 v2 c2 r o slot msg n bytes is t e l k m = λ s.
    did (Receive slot msg n bytes) asked w s v c w2 s v2 c2 r (outcome_told o) is t (ap outcome_told e ∙ receive-told (holding_of w s v c) slot msg n bytes) (λ i. holding (l i) s (k i) (m i))

pub show-did : (asked : Asked) (w v c : List ℕ) (r : Answer) (o : HandOut) → asked ≡ It Show → r ≡ answer_of (hand_out_told o) → o ≡ showing_of (state_of w) (length v) c → OnReceived asked w v c w v c r
show-did asked w v c r o is t e = λ s. did Show asked w s v c w s v c r (hand_out_told o) is t (ap hand_out_told e ∙ show-told (holding_of w s v c)) refl

pub take-did : (asked : Asked) (w v c w2 c2 : List ℕ) (r : Answer) (o : HandOut) → asked ≡ It Take → r ≡ answer_of (hand_out_told o) → o ≡ (take_of (state_of w) c).answer
    → state_of w2 ≡ (take_of (state_of w) c).state → c2 ≡ take_records (state_of w) c → OnReceived asked w v c w2 v c2 r
take-did asked w v c w2 c2 r o is t e l m = λ s.
    did Take asked w s v c w2 s v c2 r (hand_out_told o) is t (ap hand_out_told e ∙ take-told (holding_of w s v c)) (λ i. holding (l i) s v (m i))
