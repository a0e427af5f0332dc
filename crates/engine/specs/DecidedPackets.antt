-- What the pass over the packet table finds, in the words of Sound. Assumes nothing.
use Rattle.std.specs.Prelude.{◌≡◌, ℕ, zero, suc, ◌+◌, ◌-◌, ◌*◌, ◌%◌, ◌^◌, ◌<◌, ◌≤◌, Bool, true, false, cond, ◌&&◌, List, [], ◌∷◌, length, get_or, take, drop, ◌==◌, nat_le, slice_index, slice_index_or, slice_set, Some, None, Option}
use Rattle.std.proofs.Math.Path.{refl, ap}
use Rattle.std.proofs.Common.{sym, ◌∙◌, arith, length-set, drop-cons, get_or-set_same, get_or-set_other}
use Rattle.std.proofs.Math.Bool.{and-true, and_assoc}
use borrow.Author.Tests.{leb-true, eqb-true, eqb-false, le-leb, eq-eqb}
use borrow.Table.Steps.{cases}
use Rattle.seq.specs.declared.Seq.{Seq}
use Rattle.seq.specs.Numbers.{seq_of, plus}
use Rattle.seq.specs.Laws.{plus-lt, plus-plus}
use Rattle.engine.specs.declared.state.SentReliableStatus.{SentReliableStatus}
use Rattle.engine.specs.declared.state.SentReliableStatus.TheVariants.{Sent, Received, ResendQueued}
use Rattle.engine.specs.declared.state.SentReliable.{SentReliable}
use Rattle.engine.specs.declared.state.State.{State}
use Rattle.engine.specs.declared.packets.Tally.{Tally}
use Rattle.engine.specs.Packets.{no_packet, is_queued, queued_of, Pick, SentOn, Outstanding, Settled, weight_as, sum_of}
use Rattle.engine.specs.Roster.{roster_of, lives_in}
use Rattle.engine.specs.Tally.{length_ok, flushed_ok, status_ok, packet_ok, weighed, tally_from}
use Rattle.engine.specs.Sound.{SentHere, FlushedBy, SentBy}
use Rattle.engine.specs.DecidedTables.{lives-here, here-lives, length-le, plus-zero}
use Rattle.engine.specs.Sizes.{SLOTS, PACKETS, DATA_BYTES}
use Rattle.refusal.specs.Tests.{false-true, split, join, and-eq}

-- a packet is as Sound asks, where n is its number
pub record Good (s : State) (p : SentReliable) (n : ℕ) : Type 0 where
  pub number : p.seq ≡ seq_of n
  pub fits : length_ok p.msg p.len ≡ true
  pub here : SentHere s p.status
  pub timed : SentBy s.time p.status

-- what the test of a flush time says, and back
flushed-by : (f : Option ℕ) (time : ℕ) → flushed_ok f time ≡ true → FlushedBy time f
flushed-by None time e = tt
flushed-by (Some at) time e = leb-true at time e

by-flushed : (f : Option ℕ) (time : ℕ) → FlushedBy time f → flushed_ok f time ≡ true
by-flushed None time h = refl
by-flushed (Some at) time h = le-leb at time h

-- what the test of a status says: its slot, its times ..
module _ (s : State) where
  status-good : (st : SentReliableStatus) (seq next : Seq) → status_ok st seq next (roster_of s.links) s.time ≡ true → SentHere s st × SentBy s.time st
  unfolding status_ok
  status-good (Sent flight) seq next e =
      let e1 = split (lives_in (roster_of s.links) flight.slot flight.link) (nat_le flight.sent s.time && flushed_ok flight.flushed s.time) e in
      let e2 = split (nat_le flight.sent s.time) (flushed_ok flight.flushed s.time) e1.1 in
      (lives-here s flight.slot flight.link e1.0, (leb-true flight.sent s.time e2.0, flushed-by flight.flushed s.time e2.1))
  status-good Received seq next e = (tt, tt)
  status-good (ResendQueued link) seq next e = (tt, tt)

  -- .. and that the queue's next entry is the number of a queued packet
  status-next : (st : SentReliableStatus) (seq next : Seq) → status_ok st seq next (roster_of s.links) s.time ≡ true → is_queued st ≡ true → next.0 ≡ seq.0
  unfolding status_ok
  status-next (Sent flight) seq next e u = false-true u
  status-next Received seq next e u = false-true u
  status-next (ResendQueued link) seq next e u = eqb-true next.0 seq.0 e

  -- the test of a status holds by these
  good-status : (st : SentReliableStatus) (seq next : Seq) → SentHere s st → SentBy s.time st → (is_queued st ≡ true → next.0 ≡ seq.0)
      → status_ok st seq next (roster_of s.links) s.time ≡ true
  unfolding status_ok
  good-status (Sent flight) seq next h b n =
      join (here-lives s flight.slot flight.link h.0 h.1 h.2) (join (le-leb flight.sent s.time b.0) (by-flushed flight.flushed s.time b.1))
  good-status Received seq next h b n = refl
  good-status (ResendQueued link) seq next h b n = eq-eqb next.0 seq.0 (n refl)

-- the tests that make up the test of a packet
module _ (s : State) (p : SentReliable) (n : ℕ) (next : Seq) where
  packet-parts : packet_ok p (seq_of n) next (roster_of s.links) s.time ≡ true
      → (p.seq.0 ≡ n) × (length_ok p.msg p.len ≡ true) × (status_ok p.status p.seq next (roster_of s.links) s.time ≡ true)
  unfolding packet_ok
  packet-parts e =
      let st = status_ok p.status p.seq next (roster_of s.links) s.time in
      let e1 = split (p.seq.0 == n) (length_ok p.msg p.len && st) e in
      let e2 = split (length_ok p.msg p.len) st e1.1 in
      (eqb-true p.seq.0 n e1.0, e2.0, e2.1)

  -- a packet that passes it is as Sound asks ..
  packet-good : packet_ok p (seq_of n) next (roster_of s.links) s.time ≡ true → Good s p n
  packet-good e =
      let parts = packet-parts e in
      let both = status-good s p.status p.seq next parts.2 in
      record { number = ap seq_of parts.0; fits = parts.1; here = both.0; timed = both.1 }

  -- .. and, if it is queued, is the queue's next entry
  packet-next : packet_ok p (seq_of n) next (roster_of s.links) s.time ≡ true → is_queued p.status ≡ true → next ≡ p.seq
  packet-next e u = ap seq_of (status-next s p.status p.seq next (packet-parts e).2 u)

  -- the test of a packet holds by both
  good-packet : Good s p n → (is_queued p.status ≡ true → next ≡ p.seq) → packet_ok p (seq_of n) next (roster_of s.links) s.time ≡ true
  unfolding packet_ok
  good-packet g h =
      join (eq-eqb p.seq.0 n (ap (λ (x : Seq). x.0) g.number))
      (join g.fits (good-status s p.status p.seq next g.here g.timed (λ u. ap (λ (x : Seq). x.0) (h u))))

-- the place in the resend queue after a packet
abbrev after : SentReliableStatus → ℕ → ℕ
after st q = cond (is_queued st) ((q + 1) % 2 ^ 64) q

-- every packet from the number n on is as the pass asks, the resend queue gone through from the place q on
unfoldable pub each_ok : State → List SentReliable → ℕ → ℕ → Bool
each_ok s [] n q = true
each_ok s (p ∷ ps) n q =
    packet_ok p (seq_of n) (slice_index_or s.tx.resend_queue (q % PACKETS) (seq_of 0)) (roster_of s.links) s.time
    && each_ok s ps (plus n 1) (after p.status q)

-- a packet is weighed: the verdict, the count of the queued, the rows' number
weighed-ok : (st : SentReliableStatus) (t : Tally) (len : ℕ) (ok : Bool) → (weighed st t len ok).ok ≡ (t.ok && ok)
unfolding weighed
weighed-ok (Sent flight) t len ok = refl
weighed-ok Received t len ok = refl
weighed-ok (ResendQueued link) t len ok = refl

weighed-queued : (st : SentReliableStatus) (t : Tally) (len : ℕ) (ok : Bool) → (weighed st t len ok).queued ≡ after st t.queued
unfolding weighed
weighed-queued (Sent flight) t len ok = refl
weighed-queued Received t len ok = refl
weighed-queued (ResendQueued link) t len ok = refl

weighed-on : (st : SentReliableStatus) (t : Tally) (len : ℕ) (ok : Bool) → length (weighed st t len ok).on ≡ length t.on
unfolding weighed
weighed-on (Sent flight) t len ok = length-set t.on (flight.slot % SLOTS) (plus (slice_index t.on (flight.slot % SLOTS)) len)
weighed-on Received t len ok = refl
weighed-on (ResendQueued link) t len ok = refl

-- the packets of which one is queued, and of which it is not
module _ (p : SentReliable) (ps : List SentReliable) where
  queued-yes : is_queued p.status ≡ true → queued_of (p ∷ ps) ≡ p.seq ∷ queued_of ps
  unfolding queued_of
  queued-yes u = simp u

  queued-no : is_queued p.status ≡ false → queued_of (p ∷ ps) ≡ queued_of ps
  unfolding queued_of
  queued-no u = simp u

-- the place after a packet, in the two cases
after-yes : (st : SentReliableStatus) (q : ℕ) → is_queued st ≡ true → q < 2 ^ 64 - 1 → after st q ≡ suc q
after-yes st q u h = let e : (q + 1) % 2 ^ 64 ≡ suc q = omega arith in simp u e

after-no : (st : SentReliableStatus) (q : ℕ) → is_queued st ≡ false → after st q ≡ q
after-no st q u = simp u

-- the pass over packets of a state, from the number n and the tally t on
abbrev pub pass_of : State → List SentReliable → ℕ → Tally → Tally
pass_of s ps n t = tally_from s.tx.resend_queue (roster_of s.links) s.time ps n t

-- the tally after one packet
abbrev step_of : State → SentReliable → ℕ → Tally → Tally
step_of s p n t =
    weighed p.status t p.len (packet_ok p (seq_of n) (slice_index_or s.tx.resend_queue (t.queued % PACKETS) (seq_of 0)) (roster_of s.links) s.time)

-- the pass finds whether every packet is as it asks ..
pub each-tally : (s : State) (ps : List SentReliable) (n : ℕ) (t : Tally) → (pass_of s ps n t).ok ≡ (t.ok && each_ok s ps n t.queued)
unfolding tally_from each_ok
each-tally s [] n t = sym (and-true t.ok)
each-tally s (p ∷ ps) n t =
    let ok = packet_ok p (seq_of n) (slice_index_or s.tx.resend_queue (t.queued % PACKETS) (seq_of 0)) (roster_of s.links) s.time in
    each-tally s ps (plus n 1) (step_of s p n t)
    ∙ and-eq (weighed-ok p.status t p.len ok) (ap (each_ok s ps (plus n 1)) (weighed-queued p.status t p.len ok))
    ∙ and_assoc t.ok ok (each_ok s ps (plus n 1) (after p.status t.queued))

-- .. how many are queued ..
pub queued-tally : (s : State) (ps : List SentReliable) (n : ℕ) (t : Tally) → t.queued + length ps < 2 ^ 64
    → (pass_of s ps n t).queued ≡ t.queued + length (queued_of ps)
unfolding tally_from queued_of
queued-tally s [] n t h = omega arith
queued-tally s (p ∷ ps) n t h =
    let ok = packet_ok p (seq_of n) (slice_index_or s.tx.resend_queue (t.queued % PACKETS) (seq_of 0)) (roster_of s.links) s.time in
    cases (is_queued p.status)
    (λ u.
    let q : (step_of s p n t).queued ≡ suc t.queued = weighed-queued p.status t p.len ok ∙ after-yes p.status t.queued u (omega arith) in
    omega (arith, queued-tally s ps (plus n 1) (step_of s p n t) (omega arith), ap length (queued-yes p ps u)))
    (λ u.
    let q : (step_of s p n t).queued ≡ t.queued = weighed-queued p.status t p.len ok ∙ after-no p.status t.queued u in
    omega (arith, queued-tally s ps (plus n 1) (step_of s p n t) (omega arith), ap length (queued-no p ps u)))

-- .. and the sums: what a tally holds of each
abbrev pub total : Pick → Tally → ℕ
total (SentOn j) t = slice_index t.on j
total Outstanding t = t.unacked
total Settled t = t.unconsumable

-- the sum of a slot, where a packet is added to another or the same
on_total : (on : List ℕ) (slot j len : ℕ) → slot < SLOTS → length on ≡ SLOTS → slice_index on j < 2 ^ 32
    → slice_index (slice_set on (slot % SLOTS) (plus (slice_index on (slot % SLOTS)) len)) j ≡ plus (slice_index on j) (cond (slot == j) len 0)
on_total on slot j len h l w =
    let r : slot % SLOTS ≡ slot = omega arith in
    rw r (cases (slot == j)
    (λ t. let q : slot ≡ j = eqb-true slot j t in simp t (rw q (get_or-set_same on j (plus (slice_index on j) len) 0 (omega arith))))
    (λ t. simp t (get_or-set_other on slot j (plus (slice_index on slot) len) 0 (λ q. eqb-false slot j t (sym q)) ∙ sym (plus-zero (slice_index on j) w))))

-- a packet adds its weight to each sum
weighed-total : (s : State) (k : Pick) (st : SentReliableStatus) (t : Tally) (len : ℕ) (ok : Bool) → SentHere s st → length t.on ≡ SLOTS → total k t < 2 ^ 32
    → total k (weighed st t len ok) ≡ plus (total k t) (weight_as k st len)
unfolding weighed
weighed-total s (SentOn j) (Sent flight) t len ok h l w = on_total t.on flight.slot j len h.0 l w
weighed-total s (SentOn j) Received t len ok h l w = sym (plus-zero (slice_index t.on j) w)
weighed-total s (SentOn j) (ResendQueued link) t len ok h l w = sym (plus-zero (slice_index t.on j) w)
weighed-total s Outstanding (Sent flight) t len ok h l w = refl
weighed-total s Outstanding Received t len ok h l w = sym (plus-zero t.unacked w)
weighed-total s Outstanding (ResendQueued link) t len ok h l w = refl
weighed-total s Settled (Sent flight) t len ok h l w = sym (plus-zero t.unconsumable w)
weighed-total s Settled Received t len ok h l w = refl
weighed-total s Settled (ResendQueued link) t len ok h l w = sym (plus-zero t.unconsumable w)

-- the pass adds the sum over the packets to each
pub sum-tally : (s : State) (k : Pick) (ps : List SentReliable) (n : ℕ) (t : Tally) → ((i : ℕ) → i < length ps → SentHere s (get_or ps i no_packet).status)
    → length t.on ≡ SLOTS → total k t < 2 ^ 32 → total k (pass_of s ps n t) ≡ plus (total k t) (sum_of k ps)
unfolding tally_from sum_of
sum-tally s k [] n t f l w = sym (plus-zero (total k t) w)
sum-tally s k (p ∷ ps) n t f l w =
    let ok = packet_ok p (seq_of n) (slice_index_or s.tx.resend_queue (t.queued % PACKETS) (seq_of 0)) (roster_of s.links) s.time in
    let step : total k (step_of s p n t) ≡ plus (total k t) (weight_as k p.status p.len) =
    weighed-total s k p.status t p.len ok (f 0 (omega arith)) l w in
    sum-tally s k ps (plus n 1) (step_of s p n t) (λ i h. f (suc i) (omega arith)) (weighed-on p.status t p.len ok ∙ l)
    (omega (arith, step, plus-lt (total k t) (weight_as k p.status p.len)))
    ∙ ap (λ x. plus x (sum_of k ps)) step
    ∙ plus-plus (total k t) (weight_as k p.status p.len) (sum_of k ps)

-- a packet weighs no more than its length
cond-le : (b : Bool) (n : ℕ) → cond b n 0 ≤ n
cond-le true n = omega arith
cond-le false n = omega arith

weight-le : (k : Pick) (st : SentReliableStatus) (n : ℕ) → weight_as k st n ≤ n
weight-le (SentOn j) (Sent flight) n = cond-le (flight.slot == j) n
weight-le (SentOn j) Received n = omega arith
weight-le (SentOn j) (ResendQueued link) n = omega arith
weight-le Outstanding (Sent flight) n = omega arith
weight-le Outstanding Received n = omega arith
weight-le Outstanding (ResendQueued link) n = omega arith
weight-le Settled (Sent flight) n = omega arith
weight-le Settled Received n = omega arith
weight-le Settled (ResendQueued link) n = omega arith

-- the sums over packets with fitting lengths are small
pub sum-le : (k : Pick) (ps : List SentReliable) → ((i : ℕ) → i < length ps → length_ok (get_or ps i no_packet).msg (get_or ps i no_packet).len ≡ true)
    → sum_of k ps ≤ DATA_BYTES * length ps
unfolding sum_of
sum-le k [] f = omega arith
sum-le k (p ∷ ps) f =
    omega (arith, weight-le k p.status p.len, length-le p.msg p.len (f 0 (omega arith)), sum-le k ps (λ i h. f (suc i) (omega arith)))

-- packets that are as the pass asks are as Sound asks ..
pub each-good : (s : State) (ps : List SentReliable) (n q : ℕ) → n < 2 ^ 32 → each_ok s ps n q ≡ true
    → (i : ℕ) → i < length ps → Good s (slice_index_or ps i no_packet) (plus n i)
unfolding each_ok
each-good s [] n q w e i h = absurd (omega arith)
each-good s (p ∷ ps) n q w e zero h =
    let next = get_or s.tx.resend_queue (q % PACKETS) (seq_of 0) in
    let both = split (packet_ok p (seq_of n) next (roster_of s.links) s.time) (each_ok s ps (plus n 1) (after p.status q)) e in
    rw (plus-zero n w) (packet-good s p n next both.0)
each-good s (p ∷ ps) n q w e (suc i) h =
    let next = get_or s.tx.resend_queue (q % PACKETS) (seq_of 0) in
    let both = split (packet_ok p (seq_of n) next (roster_of s.links) s.time) (each_ok s ps (plus n 1) (after p.status q)) e in
    let m : plus (plus n 1) i ≡ plus n (suc i) = plus-plus n 1 i ∙ ap (plus n) (omega arith) in
    rw m at (each-good s ps (plus n 1) (after p.status q) (plus-lt n 1) both.1 i (omega arith))

-- the resend queue from the place of a queued packet on
queue-cons : (queue : List Seq) (p : SentReliable) (ps : List SentReliable) (q : ℕ) → is_queued p.status ≡ true → q < length queue
    → take (length (queued_of (p ∷ ps))) (drop q queue) ≡ slice_index_or queue q (seq_of 0) ∷ take (length (queued_of ps)) (drop (suc q) queue)
queue-cons queue p ps q u h =
    ap (λ (l : List Seq). take (length l) (drop q queue)) (queued-yes p ps u)
    ∙ ap (take (suc (length (queued_of ps)))) (drop-cons queue q (seq_of 0) h)

-- .. and the resend queue lists the queued ones
pub each-queue : (s : State) (ps : List SentReliable) (n q : ℕ) → length s.tx.resend_queue ≡ PACKETS → q + length ps ≤ PACKETS → each_ok s ps n q ≡ true
    → take (length (queued_of ps)) (drop q s.tx.resend_queue) ≡ queued_of ps
unfolding each_ok queued_of
each-queue s [] n q l w e = refl
each-queue s (p ∷ ps) n q l w e =
    let queue = s.tx.resend_queue in
    let next = get_or queue (q % PACKETS) (seq_of 0) in
    let both = split (packet_ok p (seq_of n) next (roster_of s.links) s.time) (each_ok s ps (plus n 1) (after p.status q)) e in
    cases (is_queued p.status)
    (λ u.
    let m : q % PACKETS ≡ q = omega arith in
    let a : after p.status q ≡ suc q = after-yes p.status q u (omega arith) in
    let here : get_or queue q (seq_of 0) ≡ p.seq = rw m at (packet-next s p n next both.0 u) in
    let rest = each-queue s ps (plus n 1) (suc q) l (omega arith) (ap (each_ok s ps (plus n 1)) (sym a) ∙ both.1) in
    queue-cons queue p ps q u (omega arith)
    ∙ ap (λ (x : Seq). x ∷ take (length (queued_of ps)) (drop (suc q) queue)) here
    ∙ ap (λ (r : List Seq). p.seq ∷ r) rest
    ∙ sym (queued-yes p ps u))
    (λ u.
    let a : after p.status q ≡ q = after-no p.status q u in
    let rest = each-queue s ps (plus n 1) q l (omega arith) (ap (each_ok s ps (plus n 1)) (sym a) ∙ both.1) in
    ap (λ (r : List Seq). take (length r) (drop q queue)) (queued-no p ps u) ∙ rest ∙ sym (queued-no p ps u))

-- packets are as the pass asks by both
pub good-each : (s : State) (ps : List SentReliable) (n q : ℕ) → n < 2 ^ 32 → length s.tx.resend_queue ≡ PACKETS → q + length ps ≤ PACKETS
    → ((i : ℕ) → i < length ps → Good s (slice_index_or ps i no_packet) (plus n i))
    → take (length (queued_of ps)) (drop q s.tx.resend_queue) ≡ queued_of ps → each_ok s ps n q ≡ true
unfolding each_ok
good-each s [] n q v l w f e = refl
good-each s (p ∷ ps) n q v l w f e =
    let queue = s.tx.resend_queue in
    let next = get_or queue (q % PACKETS) (seq_of 0) in
    let g : Good s p n = rw (plus-zero n v) at (f 0 (omega arith)) in
    let later : (i : ℕ) → i < length ps → Good s (slice_index_or ps i no_packet) (plus (plus n 1) i) =
    λ i h. let m : plus (plus n 1) i ≡ plus n (suc i) = plus-plus n 1 i ∙ ap (plus n) (omega arith) in rw m (f (suc i) (omega arith)) in
    cases (is_queued p.status)
    (λ u.
    let m : q % PACKETS ≡ q = omega arith in
    let a : after p.status q ≡ suc q = after-yes p.status q u (omega arith) in
    let c : get_or queue q (seq_of 0) ∷ take (length (queued_of ps)) (drop (suc q) queue) ≡ p.seq ∷ queued_of ps =
    sym (queue-cons queue p ps q u (omega arith)) ∙ e ∙ queued-yes p ps u in
    let head : get_or queue q (seq_of 0) ≡ p.seq = cc in
    let tail : take (length (queued_of ps)) (drop (suc q) queue) ≡ queued_of ps = cc in
    join (good-packet s p n next g (λ v. rw m head))
    (ap (each_ok s ps (plus n 1)) a ∙ good-each s ps (plus n 1) (suc q) (plus-lt n 1) l (omega arith) later tail))
    (λ u.
    let a : after p.status q ≡ q = after-no p.status q u in
    join (good-packet s p n next g (λ v. false-true (sym u ∙ v)))
    (ap (each_ok s ps (plus n 1)) a
    ∙ good-each s ps (plus n 1) q (plus-lt n 1) l (omega arith) later
    (ap (λ (r : List Seq). take (length r) (drop q queue)) (sym (queued-no p ps u)) ∙ e ∙ queued-no p ps u)))
