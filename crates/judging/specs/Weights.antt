-- What a packet adds to the tally of its table, found from its words: nothing where it is not well. Assumes nothing.
use Rattle.std.specs.Prelude.{◌≡◌, ℕ, zero, suc, ◌+◌, ◌-◌, ◌/◌, ◌%◌, ◌^◌, ◌<◌, Bool, true, false, cond, ◌&&◌, List, get_or, ◌==◌, ◌≢◌, nat_eq, nat_le, slice_index, slice_index_or, slice_set, Some, None, Option}
use Rattle.engine.specs.Held.{Held}
use Rattle.std.proofs.Math.Path.{refl, sym, ap}
use Rattle.std.proofs.Common.{◌∙◌, arith}
use Rattle.std.proofs.lemmas.Option.{cond_some}
use borrow.Table.Steps.{cases}
use borrow.Author.Tests.{le-leb, eqb-true, eq-eqb, ne_eqb}
use Rattle.msg.specs.Reliable.{MSG_DATA, MSG_CONSUMED, MSG_SEND_FINISH, MSG_RECEIVE_CLOSE, MSG_RECEIVE_FINISH}
use Rattle.msg.specs.declared.reliable.ReliableMsg.TheVariants.{Data}
use Rattle.refusal.specs.Tests.{false-true}
use Rattle.seq.specs.declared.Seq.{Seq}
use Rattle.seq.specs.Numbers.{seq_of, plus}
use Rattle.engine.specs.declared.roster.Roster.{Roster}
use Rattle.engine.specs.declared.packets.Tally.{Tally}
use Rattle.engine.specs.declared.state.SentReliable.{SentReliable}
use Rattle.engine.specs.declared.state.SentReliableStatus.{SentReliableStatus}
use Rattle.engine.specs.declared.state.SentReliableStatus.TheVariants.{Sent, Received, ResendQueued}
use Rattle.engine.specs.CellTally.{data-held, data-fits}
use Rattle.engine.specs.Records.{is_full, held_as, held_of, held_bytes, DataRecord, full-long}
use Rattle.engine.specs.declared.state.State.{State}
use Rattle.engine.specs.DecidedPackets.{pass_of, each_ok, each-tally}
use Rattle.engine.specs.Packets.{no_packet}
use Rattle.engine.specs.Ring.{window, next_cell, next-mod}
use Rattle.engine.specs.Roster.{roster_of, lives_in}
use Rattle.engine.specs.Tally.{length_ok, flushed_ok, status_ok, packet_ok, weighed, tally-step}
use Rattle.engine.specs.Sizes.{SLOTS, PACKETS, DATA_BYTES}
use Rattle.words.specs.Meaning.{NO_SLOT, half, seq_word, flushed_of, flight_of, status_of, packet_held, packet_of}
use Rattle.judging.specs.declared.packet.Weight.{Weight}
use Rattle.judging.specs.declared.packet.Weight.TheVariants.{Flying, Settled, Waiting}

-- what a status adds
abbrev pub weight_by : SentReliableStatus → ℕ → Weight
weight_by (Sent flight) len = Flying flight.slot len
weight_by Received len = Settled len
weight_by (ResendQueued link) len = Waiting len

unfoldable pub weight_of : SentReliable → Seq → Seq → Roster → ℕ → Option Weight
weight_of p n next roster time = cond (packet_ok p n next roster time) (Some (weight_by p.status p.len)) None

-- .. by the words of a packet whose number and message are well
abbrev pub status_weight : List ℕ → Seq → Seq → Roster → ℕ → Option Weight
status_weight xs n next roster time =
    cond (status_ok (status_of xs) n next roster time) (Some (weight_by (status_of xs) (slice_index xs 1 / 256 % 16777216))) None

-- the tests of a packet in flight over a slot
abbrev pub flight_fine : Roster → List ℕ → ℕ → ℕ → Bool
flight_fine roster xs slot time =
    lives_in roster slot (slice_index xs 4) && (nat_le (slice_index xs 5) time && flushed_ok (flushed_of (slice_index xs 6) (slice_index xs 7)) time)

-- a message word is one whose length is well
abbrev pub held_fine : Held → Bool
held_fine None = false
held_fine (Some (msg, len)) = length_ok msg len

-- a tally that is well; of one that is not, whatever its sums, there is none
abbrev pub clipped : Tally → Option Tally
clipped t = cond t.ok (Some t) None

-- ---- laws: the packet's words

held-long : (kind len count : ℕ) → held_fine (held_as kind len count) ≡ true → held_bytes (held_as kind len count) ≡ len
unfolding held_as
held-long kind len count e =
    cases (kind == MSG_DATA) (λ t1. simp t1)
    (λ f1. cases (kind == MSG_CONSUMED) (λ t2. simp (f1, t2))
    (λ f2. cases (kind == MSG_SEND_FINISH) (λ t3. simp (f1, f2, t3))
    (λ f3. cases (kind == MSG_RECEIVE_CLOSE) (λ t4. simp (f1, f2, f3, t4))
    (λ f4. cases (kind == MSG_RECEIVE_FINISH) (λ t5. simp (f1, f2, f3, f4, t5))
    (λ f5. false-true (simp (f1, f2, f3, f4, f5) at e))))))

pub long-word : (word : ℕ) → held_fine (held_of word) ≡ true → held_bytes (held_of word) ≡ word / 256 % 16777216
unfolding held_of
long-word word e = held-long (word % 256) (word / 256 % 16777216) (word / 4294967296) e

fine-full : (h : Held) → held_fine h ≡ true → is_full h ≡ true
fine-full None e = e
fine-full (Some (msg, len)) e = refl

-- a Data's, by its word alone
pub data-fine : (word : ℕ) → DataRecord word → held_fine (held_of word) ≡ true
data-fine word is = ap held_fine (data-held word is.kind) ∙ data-fits word is

module _ (n next : Seq) (roster : Roster) (time : ℕ) where
  held-other : (h : Held) (seq : Seq) (st : SentReliableStatus) → (seq.0 == n.0) ≡ false → weight_of (packet_held h seq st) n next roster time ≡ None
  unfolding weight_of packet_ok
  held-other None seq st e = simp e
  held-other (Some (msg, len)) seq st e = simp e

  held-bad : (h : Held) (seq : Seq) (st : SentReliableStatus) → seq.0 ≡ n.0 → held_fine h ≡ false → weight_of (packet_held h seq st) n next roster time ≡ None
  unfolding weight_of packet_ok length_ok
  held-bad None seq st q e = simp (eq-eqb seq.0 n.0 q)
  held-bad (Some (msg, len)) seq st q e = simp (eq-eqb seq.0 n.0 q, e)

  held-well : (h : Held) (seq : Seq) (st : SentReliableStatus) (long : ℕ) → seq.0 ≡ n.0 → held_fine h ≡ true → held_bytes h ≡ long
      → weight_of (packet_held h seq st) n next roster time ≡ cond (status_ok st n next roster time) (Some (weight_by st long)) None
  unfolding weight_of packet_ok
  held-well None seq st long q e l = false-true e
  held-well (Some (msg, len)) seq st long q e l =
      let m : seq ≡ n = ap seq_of q in
      simp (eq-eqb seq.0 n.0 q, e) (λ i. cond (status_ok st (m i) next roster time) (Some (weight_by st (l i))) None)

  module _ (xs : List ℕ) where
    pub other-number : nat_eq (half (slice_index xs 0)) n.0 ≡ false → weight_of (packet_of xs) n next roster time ≡ None
    unfolding packet_of
    other-number e = held-other (held_of (slice_index xs 1)) (seq_word (slice_index xs 0)) (status_of xs) e

    pub bad-message : half (slice_index xs 0) ≡ n.0 → held_fine (held_of (slice_index xs 1)) ≡ false → weight_of (packet_of xs) n next roster time ≡ None
    unfolding packet_of
    bad-message q e = held-bad (held_of (slice_index xs 1)) (seq_word (slice_index xs 0)) (status_of xs) q e

    pub well-weighed : half (slice_index xs 0) ≡ n.0 → held_fine (held_of (slice_index xs 1)) ≡ true → weight_of (packet_of xs) n next roster time ≡ status_weight xs n next roster time
    unfolding packet_of
    well-weighed q e = held-well (held_of (slice_index xs 1)) (seq_word (slice_index xs 0)) (status_of xs) (slice_index xs 1 / 256 % 16777216) q e (full-long (slice_index xs 1) (fine-full (held_of (slice_index xs 1)) e))

    -- .. by its tag
    status : SentReliableStatus → Option Weight
    status st = cond (status_ok st n next roster time) (Some (weight_by st (slice_index xs 1 / 256 % 16777216))) None

    received : get_or xs 2 0 ≡ 3 → status_of xs ≡ Received
    unfolding status_of
    received e = simp e

    pub tag-settled : get_or xs 2 0 ≡ 3 → status_weight xs n next roster time ≡ Some (Settled (slice_index xs 1 / 256 % 16777216))
    unfolding status_ok status
    tag-settled e = ap status (received e)

    queued-tag : get_or xs 2 0 ≡ 4 → status_of xs ≡ ResendQueued (slice_index xs 4)
    unfolding status_of
    queued-tag e = simp e

    pub tag-waiting : get_or xs 2 0 ≡ 4 → (next.0 == n.0) ≡ true → status_weight xs n next roster time ≡ Some (Waiting (slice_index xs 1 / 256 % 16777216))
    unfolding status_ok status
    tag-waiting e q = ap status (queued-tag e) ∙ simp q

    pub tag-unqueued : get_or xs 2 0 ≡ 4 → (next.0 == n.0) ≡ false → status_weight xs n next roster time ≡ None
    unfolding status_ok status
    tag-unqueued e q = ap status (queued-tag e) ∙ simp q

    no-tag : (slice_index xs 2 ≢ 1) → (slice_index xs 2 ≢ 2) → (slice_index xs 2 ≢ 3) → (slice_index xs 2 ≢ 4) → status_of xs ≡ Sent (flight_of xs NO_SLOT false)
    unfolding status_of
    no-tag a b c d = simp (ne_eqb (slice_index xs 2) 1 a, ne_eqb (slice_index xs 2) 2 b, ne_eqb (slice_index xs 2) 3 c, ne_eqb (slice_index xs 2) 4 d)

    pub tag-none : (slice_index xs 2 ≢ 1) → (slice_index xs 2 ≢ 2) → (slice_index xs 2 ≢ 3) → (slice_index xs 2 ≢ 4) → status_weight xs n next roster time ≡ None
    unfolding status_ok status lives_in
    tag-none a b c d = ap status (no-tag a b c d)

    sent-tag : (tag : ℕ) → slice_index xs 2 ≡ tag → 0 < tag → tag < 3 → (again : Bool) × (status_of xs ≡ Sent (flight_of xs (slice_index xs 3 % 256) again))
    unfolding status_of
    sent-tag zero e l m = absurd (omega arith)
    sent-tag (suc zero) e l m = (false, simp e)
    sent-tag (suc (suc zero)) e l m = (true, simp e)
    sent-tag (suc (suc (suc tag))) e l m = absurd (omega arith)

    pub tag-flying : 0 < slice_index xs 2 → slice_index xs 2 < 3 → flight_fine roster xs (slice_index xs 3 % 256) time ≡ true
        → status_weight xs n next roster time ≡ Some (Flying (slice_index xs 3 % 256) (slice_index xs 1 / 256 % 16777216))
    unfolding status_ok status
    tag-flying l m e = ap status (sent-tag (slice_index xs 2) refl l m).1 ∙ simp e

    pub tag-grounded : 0 < slice_index xs 2 → slice_index xs 2 < 3 → flight_fine roster xs (slice_index xs 3 % 256) time ≡ false → status_weight xs n next roster time ≡ None
    unfolding status_ok status
    tag-grounded l m e = ap status (sent-tag (slice_index xs 2) refl l m).1 ∙ simp e

-- a length of Data
pub data-long : (len : ℕ) → nat_le len DATA_BYTES ≡ length_ok Data len
unfolding length_ok
data-long len = cases (len == 0) (λ t. simp t (le-leb len DATA_BYTES (omega (arith, eqb-true len 0 t)))) (λ t. simp t (plain (nat_le len DATA_BYTES)))
  where
    plain : (b : Bool) → b ≡ (b && true)
    plain true = refl
    plain false = refl

-- ---- laws: the tally

flying : (st : SentReliableStatus) (n : ℕ) (ok : Bool) (t : Tally) (j len : ℕ) → t.ok ≡ true → cond ok (Some (weight_by st n)) None ≡ Some (Flying j len)
    → weighed st t n ok ≡ record {
      ok = t.ok;
      on = slice_set t.on (j % SLOTS) (plus (slice_index t.on (j % SLOTS)) len);
      unacked = plus t.unacked len;
      unconsumable = t.unconsumable;
      queued = t.queued;
    }
unfolding weighed
flying (Sent flight) n true t j len h e =
    let a : flight.slot ≡ j = cc in
    let b : n ≡ len = cc in
    simp (h, a, b)
flying Received n true t j len h e = let z : ◌≡◌ {A = ℕ} 0 1 = cc in absurd (omega arith)
flying (ResendQueued link) n true t j len h e = let z : ◌≡◌ {A = ℕ} 0 1 = cc in absurd (omega arith)
flying st n false t j len h e = let z : ◌≡◌ {A = ℕ} 0 1 = cc in absurd (omega arith)

settled : (st : SentReliableStatus) (n : ℕ) (ok : Bool) (t : Tally) (len : ℕ) → t.ok ≡ true → cond ok (Some (weight_by st n)) None ≡ Some (Settled len)
    → weighed st t n ok ≡ record { ok = t.ok; on = t.on; unacked = t.unacked; unconsumable = plus t.unconsumable len; queued = t.queued }
unfolding weighed
settled (Sent flight) n true t len h e = let z : ◌≡◌ {A = ℕ} 0 1 = cc in absurd (omega arith)
settled Received n true t len h e =
    let b : n ≡ len = cc in
    simp (h, b)
settled (ResendQueued link) n true t len h e = let z : ◌≡◌ {A = ℕ} 0 1 = cc in absurd (omega arith)
settled st n false t len h e = let z : ◌≡◌ {A = ℕ} 0 1 = cc in absurd (omega arith)

waiting : (st : SentReliableStatus) (n : ℕ) (ok : Bool) (t : Tally) (len : ℕ) → t.ok ≡ true → cond ok (Some (weight_by st n)) None ≡ Some (Waiting len)
    → weighed st t n ok ≡ record { ok = t.ok; on = t.on; unacked = plus t.unacked len; unconsumable = t.unconsumable; queued = (t.queued + 1) % 2 ^ 64 }
unfolding weighed
waiting (Sent flight) n true t len h e = let z : ◌≡◌ {A = ℕ} 0 1 = cc in absurd (omega arith)
waiting Received n true t len h e = let z : ◌≡◌ {A = ℕ} 0 1 = cc in absurd (omega arith)
waiting (ResendQueued link) n true t len h e =
    let b : n ≡ len = cc in
    simp (h, b)
waiting st n false t len h e = let z : ◌≡◌ {A = ℕ} 0 1 = cc in absurd (omega arith)

and-false : (b : Bool) → (b && false) ≡ false
and-false true = refl
and-false false = refl

wrong : (st : SentReliableStatus) (n : ℕ) (ok : Bool) → cond ok (Some (weight_by st n)) None ≡ None → ok ≡ false
wrong (Sent flight) n true e = let z : ◌≡◌ {A = ℕ} 0 1 = cc in absurd (omega arith)
wrong Received n true e = let z : ◌≡◌ {A = ℕ} 0 1 = cc in absurd (omega arith)
wrong (ResendQueued link) n true e = let z : ◌≡◌ {A = ℕ} 0 1 = cc in absurd (omega arith)
wrong st n false e = refl

-- ---- laws: a turn of the pass, which ends where a packet is not well

pub clipped-some : (t u : Tally) → clipped t ≡ Some u → (t.ok ≡ true) × (t ≡ u)
clipped-some t u e = cond_some t.ok t u e

pub clipped-none : (t : Tally) → clipped t ≡ None → t.ok ≡ false
clipped-none t e = cases t.ok
    (λ w. let h : ◌≡◌ {A = Option Tally} (Some t) None = simp w at e in let z : ◌≡◌ {A = ℕ} 0 1 = cc in absurd (omega arith))
    (λ w. w)

pub clipped-well : (t : Tally) → t.ok ≡ true → clipped t ≡ Some t
clipped-well t e = simp e

clipped-bad : (t : Tally) → t.ok ≡ false → clipped t ≡ None
clipped-bad t e = simp e

weighed-spoilt : (st : SentReliableStatus) (t : Tally) (len : ℕ) (ok : Bool) → ok ≡ false → (weighed st t len ok).ok ≡ false
unfolding weighed
weighed-spoilt (Sent flight) t len ok e = simp e (and-false t.ok)
weighed-spoilt Received t len ok e = simp e (and-false t.ok)
weighed-spoilt (ResendQueued link) t len ok e = simp e (and-false t.ok)

abbrev pub pass_from : State → (at left : ℕ) → Seq → Tally → Tally
pass_from s at left n t = pass_of s (window PACKETS no_packet s.tx.txed_packets at left) n.0 t

-- one more packet is weighed
pub one-done : (n k : ℕ) → n - k - 1 ≡ n - (k + 1)
one-done n k = omega arith

-- the cell of the next number is the next cell
pub next-number : (n : ℕ) → plus n 1 % 64 ≡ next_cell PACKETS (n % 64)
unfolding plus
next-number n = let round : (n + 1) % 2 ^ 32 % 64 ≡ (n % 64 + 1) % 64 = omega arith in round ∙ sym (next-mod PACKETS (n % 64) (omega arith))

-- what the packet in a cell adds, where so many are queued before it
abbrev pub weight_at : State → ℕ → Seq → ℕ → Option Weight
weight_at s at n queued =
    weight_of (slice_index_or s.tx.txed_packets at no_packet) n (slice_index_or s.tx.resend_queue (queued % PACKETS) (seq_of 0)) (roster_of s.links) s.time

module _ (s : State) (at left : ℕ) (n : Seq) (t : Tally) (some : 0 < left) where
  ok_here : Bool
  ok_here = packet_ok (slice_index_or s.tx.txed_packets at no_packet) n (slice_index_or s.tx.resend_queue (t.queued % PACKETS) (seq_of 0)) (roster_of s.links) s.time

  turn : (at2 : ℕ) (n2 : Seq) (t2 : Tally) → at2 ≡ next_cell PACKETS at → n2 ≡ seq_of (plus n.0 1)
      → weighed (get_or s.tx.txed_packets at no_packet).status t (get_or s.tx.txed_packets at no_packet).len ok_here ≡ t2
      → pass_from s at2 (left - 1) n2 t2 ≡ pass_from s at left n t
  unfolding ok_here
  turn at2 n2 t2 a b e =
      (λ i. pass_from s (a i) (left - 1) (b i) (sym e i)) ∙ sym (tally-step s.tx.resend_queue (roster_of s.links) s.time s.tx.txed_packets at left n.0 t some)

  -- whatever follows
  pub wrong-turn : weight_at s at n t.queued ≡ None → clipped (pass_from s at left n t) ≡ None
  unfolding weight_of ok_here
  wrong-turn e =
      let p = get_or s.tx.txed_packets at no_packet in
      let t2 = weighed p.status t p.len ok_here in
      let rest = window PACKETS no_packet s.tx.txed_packets (next_cell PACKETS at) (left - 1) in
      let bad : t2.ok ≡ false = weighed-spoilt p.status t p.len ok_here (wrong p.status p.len ok_here e) in
      let worse : (pass_of s rest (plus n.0 1) t2).ok ≡ false = each-tally s rest (plus n.0 1) t2 ∙ ap (λ b. b && each_ok s rest (plus n.0 1) t2.queued) bad in
      ap clipped (sym (turn (next_cell PACKETS at) (seq_of (plus n.0 1)) t2 refl refl refl)) ∙ clipped-bad (pass_of s rest (plus n.0 1) t2) worse

  module _ (well : t.ok ≡ true) (at2 : ℕ) (n2 : Seq) (t2 : Tally) (a : at2 ≡ next_cell PACKETS at) (b : n2 ≡ seq_of (plus n.0 1)) where
    pub flying-turn : (j len : ℕ) → weight_at s at n t.queued ≡ Some (Flying j len)
        → t2 ≡ record {
          ok = t.ok;
          on = slice_set t.on (j % SLOTS) (plus (slice_index t.on (j % SLOTS)) len);
          unacked = plus t.unacked len;
          unconsumable = t.unconsumable;
          queued = t.queued;
        }
        → pass_from s at2 (left - 1) n2 t2 ≡ pass_from s at left n t
    unfolding weight_of ok_here
    flying-turn j len e q =
        turn at2 n2 t2 a b (flying (get_or s.tx.txed_packets at no_packet).status (get_or s.tx.txed_packets at no_packet).len ok_here t j len well e ∙ sym q)

    pub settled-turn : (len : ℕ) → weight_at s at n t.queued ≡ Some (Settled len)
        → t2 ≡ record { ok = t.ok; on = t.on; unacked = t.unacked; unconsumable = plus t.unconsumable len; queued = t.queued }
        → pass_from s at2 (left - 1) n2 t2 ≡ pass_from s at left n t
    unfolding weight_of ok_here
    settled-turn len e q =
        turn at2 n2 t2 a b (settled (get_or s.tx.txed_packets at no_packet).status (get_or s.tx.txed_packets at no_packet).len ok_here t len well e ∙ sym q)

    pub waiting-turn : (len : ℕ) → weight_at s at n t.queued ≡ Some (Waiting len)
        → t2 ≡ record { ok = t.ok; on = t.on; unacked = plus t.unacked len; unconsumable = t.unconsumable; queued = (t.queued + 1) % 2 ^ 64 }
        → pass_from s at2 (left - 1) n2 t2 ≡ pass_from s at left n t
    unfolding weight_of ok_here
    waiting-turn len e q =
        turn at2 n2 t2 a b (waiting (get_or s.tx.txed_packets at no_packet).status (get_or s.tx.txed_packets at no_packet).len ok_here t len well e ∙ sym q)
