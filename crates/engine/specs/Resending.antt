-- Document 01, "Resend. The packet becomes Sent on the new link, time now, unflushed, and leaves the queue; that link's unacked
-- bytes grow, the totals don't. If the number is before the mark, the mark becomes the number. The answer is the message's kind,
-- count and length." Assumes nothing.
use Rattle.std.specs.Prelude.{◌≡◌, ℕ, zero, suc, ◌+◌, ◌-◌, ◌%◌, ◌^◌, ◌<◌, Bool, true, false, not, ◌&&◌, ◌||◌, List, [], ◌∷◌, length, ◌==◌, slice_index_or, slice_set, refl, Ok, Err, Result}
use Rattle.refusal.specs.declared.Refusal.{Refusal}
use Rattle.msg.specs.declared.reliable.ReliableMsg.{ReliableMsg}
use Rattle.std.proofs.Common.{sym, ap₂, ◌∙◌, arith, eqb-true, eq-eqb, le-leb}
use Rattle.std.proofs.Math.Path.{ap}
use Rattle.std.proofs.Math.Bool.{or-true}
use borrow.Table.Steps.{cases}
use Rattle.seq.specs.declared.Seq.{Seq}
use Rattle.seq.specs.Distance.{past}
use Rattle.msg.specs.Reliable.{kind_of, count_of}
use Rattle.refusal.specs.Answers.{Told, success, refused}
use Rattle.refusal.specs.Verdicts.{Verdict, gate, gate-pass}
use Rattle.refusal.specs.Tests.{false-true, split, join, same_test}
use Rattle.link.specs.Row.{with_unacked}
use Rattle.link.specs.Limit.{mark_resent}
use Rattle.engine.specs.declared.state.SentReliableStatus.{SentReliableStatus}
use Rattle.engine.specs.declared.state.SentReliableStatus.TheVariants.{Sent, Received, ResendQueued}
use Rattle.engine.specs.declared.state.SentReliable.{SentReliable}
use Rattle.engine.specs.declared.state.State.{State}
use Rattle.engine.specs.Packets.{no_packet, first_of, packets, queue, is_queued, queued_of}
use Rattle.engine.specs.Ring.{window-length}
use Rattle.engine.specs.Queue.{requeued}
use Rattle.engine.specs.Table.{in_table, place, looked_at, packet_of, with_packet}
use Rattle.engine.specs.Rows.{row_of, row-of}
use Rattle.engine.specs.Decide.{soundb, sound}
use Rattle.engine.specs.Gates.{timed_verdict, AtTime, timed-passed}
use Rattle.engine.specs.Sound.{Sound, Shaped, packet_at}
use Rattle.engine.specs.InTable.{placed, packet-back, packet-short, looked-cell, looked-number, row_small}
use Rattle.engine.specs.declared.resending.ResendResult.{ResendResult}
use Rattle.engine.specs.Sizes.{PACKETS}
use Rattle.engine.specs.Fields.{with_status, with_parts, new_flight}

-- the identity that a packet was last sent on
abbrev pub last_link : SentReliableStatus → ℕ
last_link (Sent flight) = flight.link
last_link Received = 0
last_link (ResendQueued link) = link

-- a number is among those of a list
unfoldable pub is_listed : List Seq → ℕ → Bool
is_listed [] n = false
is_listed (seq ∷ rest) n = seq.0 == n || is_listed rest n

-- 16: "the number to resend isn't queued"; 17: "resend on a link with the identity it was last sent on"
unfoldable pub resend_verdict : State → ℕ → ℕ → ℕ → Verdict
unfolding is_listed
resend_verdict s slot time n =
    timed_verdict s slot time
    (gate (is_listed (queue s.tx) n) 16
    (gate (not (last_link (looked_at s.tx n).status == (row_of s slot).link_id)) 17
    (Ok tt)))

unfoldable pub resent_state : State → ℕ → ℕ → ℕ → State
resent_state s slot time n =
    with_parts s
    (slice_set s.links slot (with_unacked (mark_resent (row_of s slot) n) ((row_of s slot).txed_unacked_data + (looked_at s.tx n).len)))
    (requeued (with_packet s.tx n (with_status (looked_at s.tx n) (Sent (new_flight time slot (row_of s slot).link_id true)))))
    s.rx
    time

-- "The answer is the message's kind, count and length."
abbrev pub resend_told : Result (ReliableMsg × ℕ) Refusal → Told
resend_told (Ok (msg, len)) = success (kind_of msg ∷ count_of msg ∷ len ∷ [])
resend_told (Err e) = refused e

abbrev pub resent_by : Verdict → State → ℕ → State → ResendResult
resent_by (Ok tt) s n next = record { answer = Ok ((looked_at s.tx n).msg, (looked_at s.tx n).len); state = next }
resent_by (Err e) s n next = record { answer = Err e; state = s }

unfoldable pub resend_of : State → ℕ → ℕ → ℕ → ResendResult
unfolding resend_verdict resent_state
resend_of s slot time n = resent_by (resend_verdict s slot time n) s n (resent_state s slot time n)

-- ---- laws

-- a queued packet's number is listed ..
listed-in : (ps : List SentReliable) (i : ℕ) → i < length ps → is_queued (slice_index_or ps i no_packet).status ≡ true → is_listed (queued_of ps) (slice_index_or ps i no_packet).seq.0 ≡ true
unfolding is_listed queued_of
listed-in [] i h q = absurd (omega arith)
listed-in (p ∷ ps) zero h q = simp (q, eq-eqb p.seq.0 p.seq.0 refl)
listed-in (p ∷ ps) (suc i) h q =
    let rest = listed-in ps i (omega arith) q in
    cases (is_queued p.status) (λ t. simp (t, rest, or-true)) (λ t. simp (t, rest))

-- .. and a listed number is a queued packet's
listed_at : (ps : List SentReliable) (n : ℕ) → is_listed (queued_of ps) n ≡ true → (i : ℕ) × (i < length ps) × (is_queued (slice_index_or ps i no_packet).status ≡ true) × ((slice_index_or ps i no_packet).seq.0 ≡ n)
unfolding is_listed queued_of
listed_at [] n e = false-true e
listed_at (p ∷ ps) n e =
    cases (is_queued p.status)
    (λ t.
    cases (p.seq.0 == n)
    (λ u. (0, omega arith, t, eqb-true p.seq.0 n u))
    (λ u. let f = listed_at ps n (simp (t, u) at e) in (suc f.0, omega (arith, f.1), f.2, f.3)))
    (λ t. let f = listed_at ps n (simp t at e) in (suc f.0, omega (arith, f.1), f.2, f.3))

module _ (s : State) (n : ℕ) (shaped : Shaped s) (fine : Sound s) (u32 : n < 2 ^ 32) where
  -- a listed number is in the table, and its packet is queued ..
  pub listed-queued : is_listed (queue s.tx) n ≡ true → (in_table s.tx n ≡ true) × (is_queued (looked_at s.tx n).status ≡ true)
  unfolding in_table place looked_at
  listed-queued e =
      let f = listed_at (packets s.tx) n (ap (λ q. is_listed q n) (sym fine.queued) ∙ e) in
      let few : f.0 < s.tx.txed_count = omega (arith, f.1, window-length PACKETS no_packet s.tx.txed_packets (first_of s.tx % PACKETS) s.tx.txed_count) in
      let back : past s.tx.tx_seq.0 n ≡ s.tx.txed_count - f.0 = ap (past s.tx.tx_seq.0) (sym f.3) ∙ packet-back s shaped fine f.0 few in
      let here : s.tx.txed_count - past s.tx.tx_seq.0 n ≡ f.0 = omega (arith, back) in
      let b = past s.tx.tx_seq.0 n in
      (join (le-leb 1 b (omega (arith, back))) (le-leb b s.tx.txed_count (omega (arith, back))), ap (λ i. is_queued (slice_index_or (packets s.tx) i no_packet).status) here ∙ f.2)

  -- .. and back
  pub queued-listed : in_table s.tx n ≡ true → is_queued (looked_at s.tx n).status ≡ true → is_listed (queue s.tx) n ≡ true
  unfolding place looked_at
  queued-listed held q =
      let p = placed s.tx n shaped.next-u32 u32 fine.packet-count held in
      let i = place s.tx n in
      let few : i < s.tx.txed_count = omega (arith, p.back_low, p.back-high) in
      let number : (packet_at s i).seq.0 ≡ n = ap (λ (x : Seq). x.0) (looked-number s shaped fine n u32 held) in
      ap (λ l. is_listed l n) fine.queued
      ∙ ap (is_listed (queued_of (packets s.tx))) (sym number)
      ∙ listed-in (packets s.tx) i (omega (arith, window-length PACKETS no_packet s.tx.txed_packets (first_of s.tx % PACKETS) s.tx.txed_count)) q

  -- what the code asks of the table is what the paper asks of the queue
  pub listed_same : (in_table s.tx n && is_queued (packet_of s.tx n).status) ≡ is_listed (queue s.tx) n
  listed_same =
      let cell = looked-cell s shaped fine n u32 in
      same_test (in_table s.tx n && is_queued (packet_of s.tx n).status) (is_listed (queue s.tx) n)
      (λ e.
      let both = split (in_table s.tx n) (is_queued (packet_of s.tx n).status) e in
      queued-listed both.0 (ap (λ p. is_queued p.status) (sym (cell both.0)) ∙ both.1))
      (λ e.
      let both = listed-queued e in
      join both.0 (ap (λ p. is_queued p.status) (cell both.0) ∙ both.1))

-- what an accepted resend says
pub record ResendPassed (s : State) (slot time n : ℕ) : Type 0 where
  pub timed : AtTime s slot time
  pub held : in_table s.tx n ≡ true
  pub queued : is_queued (looked_at s.tx n).status ≡ true

pub resend-passed : (s : State) (slot time n : ℕ) → Shaped s → n < 2 ^ 32 → resend_verdict s slot time n ≡ Ok tt → ResendPassed s slot time n
unfolding resend_verdict
resend-passed s slot time n shaped h e =
    let own = timed-passed s slot time _ e in
    let e16 = gate-pass (is_listed (queue s.tx) n) _ _ own.1 in
    let both = listed-queued s n shaped own.0.at.fine h e16.0 in
    record { timed = own.0; held = both.0; queued = both.1 }

-- the new link's unacked bytes stay small
pub resend-fits : (s : State) (slot time n : ℕ) → Shaped s → n < 2 ^ 32 → resend_verdict s slot time n ≡ Ok tt
    → (row_of s slot).txed_unacked_data + (looked_at s.tx n).len < 2 ^ 32
resend-fits s slot time n shaped h e =
    let p = resend-passed s slot time n shaped h e in
    let at = p.timed.at in
    omega (arith, packet-short s shaped at.fine n h p.held, row_small s shaped at.fine slot at.small at.live, ap (λ r. r.txed_unacked_data) (row-of s slot at.small))

-- an accepted resend's packet is in the number's cell
pub resend-cell : (s : State) (slot time n : ℕ) → Shaped s → n < 2 ^ 32 → resend_verdict s slot time n ≡ Ok tt → packet_of s.tx n ≡ looked_at s.tx n
resend-cell s slot time n shaped h e =
    let p = resend-passed s slot time n shaped h e in
    looked-cell s shaped p.timed.at.fine n h p.held

-- what the code asks of the number's cell, in the gates
abbrev pub resend_asked : State → ℕ → ℕ → ℕ → Verdict
resend_asked s slot time n =
    timed_verdict s slot time
    (gate (in_table s.tx n && is_queued (packet_of s.tx n).status) 16
    (gate (not (last_link (packet_of s.tx n).status == (row_of s slot).link_id)) 17
    (Ok tt)))

pub resend-same : (s : State) (slot time n : ℕ) → Shaped s → n < 2 ^ 32 → resend_asked s slot time n ≡ resend_verdict s slot time n
unfolding resend_verdict timed_verdict
resend-same s slot time n shaped h =
    cases (soundb s)
    (λ t.
    let fine = sound s t in
    let same = listed_same s n shaped fine h in
    cases (is_listed (queue s.tx) n)
    (λ u.
    let cell = looked-cell s shaped fine n h (listed-queued s n shaped fine h u).0 in
    ap₂
    (λ (queued : Bool) (p : SentReliable). timed_verdict s slot time (gate queued 16 (gate (not (last_link p.status == (row_of s slot).link_id)) 17 (Ok tt))))
    same cell)
    (λ u. simp (same, u)))
    (λ t. simp t)
