-- The code's passes find just what Sound says: `found-same`. Assumes nothing.
use Rattle.std.specs.Prelude.{◌≡◌, ℕ, ◌+◌, ◌*◌, ◌%◌, ◌<◌, ◌≤◌, true, false, not, ◌&&◌, length, get_or, take, ◌==◌, nat_eq, nat_le, nat_lt, slice_index, slice_index_or}
use Rattle.std.proofs.Math.Path.{refl, ap}
use Rattle.std.proofs.Common.{sym, ◌∙◌, arith, length-take-le}
use Rattle.std.proofs.Math.Decide.{ℕ_discrete}
use borrow.Author.Tests.{ltb-true, ltb-false, leb-true, eqb-true, eqb-false, not-true, le-leb, eq-eqb, ne_eqb}
use Rattle.std.proofs.lemmas.List.{get_or-replicate}
use borrow.Table.Steps.{cases}
use Rattle.seq.specs.Numbers.{plus}
use Rattle.seq.specs.Laws.{minus-lt}
use Rattle.engine.specs.declared.state.SentReliable.{SentReliable}
use Rattle.engine.specs.declared.state.State.{State}
use Rattle.engine.specs.declared.packets.Tally.{Tally}
use Rattle.engine.specs.Ring.{window-length, window-at}
use Rattle.engine.specs.Packets.{no_packet, first_of, packets, is_received, queued_of, Pick, SentOn, Outstanding, Settled, sum_of}
use Rattle.engine.specs.Received.{expected_at, in_use}
use Rattle.engine.specs.CellCount.{is_cell_count}
use Rattle.engine.specs.Roster.{roster_of}
use Rattle.engine.specs.Tally.{no_tally, tally_of}
use Rattle.engine.specs.Found.{first_ok, rows_from, distinct_below, sendingb, receivingb, linksb, found_sound}
use Rattle.engine.specs.Decide.{soundb, sound, sound-true}
use Rattle.engine.specs.Sound.{row_at, packet_at, Sound, Shaped}
use Rattle.engine.specs.DecidedTables.{distinct_apart, apart_distinct, rows-each, rows_all, RowFine, row_fine, fine-row, zero-plus}
use Rattle.engine.specs.DecidedPackets.{Good, each_ok, pass_of, each-tally, queued-tally, total, sum-tally, sum-le, each-good, each-queue, good-each}
use Rattle.engine.specs.Sizes.{PACKETS, SLOTS, DATA_BYTES}
use Rattle.refusal.specs.Tests.{split, join, same_test}
use Rattle.link.specs.Sizes.{MAX_TIME}

-- the state's pass
abbrev found : State → Tally
found s = tally_of s.tx (roster_of s.links) s.time

-- every packet of the table is as Sound asks
abbrev AllGood : State → Type 0
AllGood s = (i : ℕ) → i < s.tx.txed_count → Good s (packet_at s i) (plus (first_of s.tx) i)

-- the packet table has `txed_count` places
packets-length : (s : State) → length (packets s.tx) ≡ s.tx.txed_count
packets-length s = window-length PACKETS no_packet s.tx.txed_packets (first_of s.tx % PACKETS) s.tx.txed_count

module _ (s : State) (few : s.tx.txed_count ≤ PACKETS) where
  -- the packets' pass goes through the packet table
  found-pass : found s ≡ pass_of s (packets s.tx) (first_of s.tx) no_tally
  unfolding tally_of
  found-pass = refl

  -- it finds whether each is as it asks ..
  found_ok : (found s).ok ≡ each_ok s (packets s.tx) (first_of s.tx) 0
  found_ok = ap (λ (t : Tally). t.ok) found-pass ∙ each-tally s (packets s.tx) (first_of s.tx) no_tally

  -- .. how many are queued ..
  found-queued : (found s).queued ≡ length (queued_of (packets s.tx))
  found-queued =
      ap (λ (t : Tally). t.queued) found-pass
      ∙ queued-tally s (packets s.tx) (first_of s.tx) no_tally (omega (arith, packets-length s))
      ∙ omega arith

  -- .. and the sums, of which none wraps
  found-total : (k : Pick) → total k no_tally ≡ 0 → AllGood s → total k (found s) ≡ sum_of k (packets s.tx)
  found-total k z good =
      let ps = packets s.tx in
      let small : sum_of k ps ≤ DATA_BYTES * length ps = sum-le k ps (λ i h. (good i (omega (arith, packets-length s))).fits) in
      ap (total k) found-pass
      ∙ sum-tally s k ps (first_of s.tx) no_tally (λ i h. (good i (omega (arith, packets-length s))).here) refl (omega arith)
      ∙ ap (λ x. plus x (sum_of k ps)) z
      ∙ zero-plus (sum_of k ps) (omega (arith, packets-length s))

  -- .. that of each slot among them
  found-on : (j : ℕ) → j < SLOTS → AllGood s → slice_index (found s).on j ≡ sum_of (SentOn j) (packets s.tx)
  found-on j h good = found-total (SentOn j) (get_or-replicate SLOTS j 0 0 h) good

  -- the first packet is in the cell of the first number
  first-at : 0 < s.tx.txed_count
      → packet_at s 0 ≡ slice_index_or s.tx.txed_packets (first_of s.tx % PACKETS) no_packet
  first-at h =
      let at = first_of s.tx % PACKETS in
      let e : (at + 0) % PACKETS ≡ at = omega arith in
      window-at PACKETS no_packet s.tx.txed_packets at s.tx.txed_count 0 (omega arith) h
      ∙ ap (λ k. get_or s.tx.txed_packets k no_packet) e

  -- the test of the first packet says that it isn't Received
  first-sound : first_ok s.tx ≡ true → 0 < s.tx.txed_count → is_received (packet_at s 0).status ≡ false
  unfolding first_ok
  first-sound e h =
      let n : nat_eq s.tx.txed_count 0 ≡ false = ne_eqb s.tx.txed_count 0 (λ q. omega arith) in
      ap (λ (p : SentReliable). is_received p.status) (first-at h)
      ∙ not-true (is_received (get_or s.tx.txed_packets (first_of s.tx % PACKETS) no_packet).status) (simp n at e)

  -- .. and back
  sound-first : (0 < s.tx.txed_count → is_received (packet_at s 0).status ≡ false) → first_ok s.tx ≡ true
  unfolding first_ok
  sound-first f =
      cases (s.tx.txed_count == 0) (λ t. simp t)
      (λ t.
      let h : 0 < s.tx.txed_count = omega (arith, eqb-false s.tx.txed_count 0 t) in
      simp t (ap (λ (p : SentReliable). not (is_received p.status)) (sym (first-at h)) ∙ ap not (f h)))

-- ---- the decision

-- what the test says, taken apart
record FoundWhole (s : State) : Type 0 where
  few : s.tx.txed_count ≤ PACKETS
  each : (found s).ok ≡ true
  first : first_ok s.tx ≡ true
  queued : (found s).queued ≡ s.tx.resend_count
  queue-few : s.tx.resend_count ≤ PACKETS
  unacked : (found s).unacked ≡ s.tx.txed_unacked
  unconsumable : (found s).unconsumable ≡ s.tx.txed_unconsumable
  cell-count : is_cell_count s.rx.cells ≡ true
  near : expected_at s.rx ≤ in_use s.rx
  used : in_use s.rx ≤ s.rx.cells
  size-within : s.rx.rxed_reliable_size ≤ s.rx.recv_buffer
  buffer-set : 1 ≤ s.rx.recv_buffer
  buffer-within : s.rx.recv_buffer ≤ s.rx.cells * DATA_BYTES
  rows : rows_from s.links (found s).on s.time 0 SLOTS ≡ true
  distinct : distinct_below (roster_of s.links) SLOTS ≡ true
  time-within : s.time ≤ MAX_TIME

found-whole : (s : State) → found_sound s ≡ true → FoundWhole s
unfolding found_sound sendingb receivingb linksb
found-whole s e =
    let a = split (nat_le s.tx.txed_count PACKETS) (sendingb s && (receivingb s.rx && linksb s)) e in
    let b = split (sendingb s) (receivingb s.rx && linksb s) a.1 in
    let c = split (receivingb s.rx) (linksb s) b.1 in
    let s1 = split _ _ b.0 in
    let s2 = split _ _ s1.1 in
    let s3 = split _ _ s2.1 in
    let s4 = split _ _ s3.0 in
    let s5 = split _ _ s3.1 in
    let r1 = split _ _ c.0 in
    let r2 = split _ _ r1.1 in
    let r3 = split _ _ r2.0 in
    let r4 = split _ _ r2.1 in
    let r5 = split _ _ r4.1 in
    let l1 = split _ _ c.1 in
    let l2 = split _ _ l1.1 in
    record {
      few = leb-true _ _ a.0;
      each = s1.0;
      first = s2.0;
      queued = eqb-true _ _ s4.0;
      queue-few = leb-true _ _ s4.1;
      unacked = eqb-true _ _ s5.0;
      unconsumable = eqb-true _ _ s5.1;
      cell-count = r1.0;
      near = leb-true _ _ r3.0;
      used = leb-true _ _ r3.1;
      size-within = leb-true _ _ r4.0;
      buffer-set = leb-true _ _ r5.0;
      buffer-within = leb-true _ _ r5.1;
      rows = l1.0;
      distinct = l2.0;
      time-within = leb-true _ _ l2.1;
    }

-- a state that passes the test is sound
found-sound : (s : State) → Shaped s → found_sound s ≡ true → Sound s
found-sound s sh e =
    let t = found-whole s e in
    let ps = packets s.tx in
    let each : each_ok s ps (first_of s.tx) 0 ≡ true = sym (found_ok s t.few) ∙ t.each in
    let good : AllGood s = λ i h. each-good s ps (first_of s.tx) 0 (minus-lt s.tx.tx_seq.0 s.tx.txed_count) each i (omega (arith, packets-length s)) in
    let count : s.tx.resend_count ≡ length (queued_of ps) = sym t.queued ∙ found-queued s t.few in
    let apart = distinct_apart s SLOTS (omega arith) t.distinct in
    let row : (j : ℕ) → j < SLOTS → (row_at s j).live ≡ true → RowFine (row_at s j) (slice_index (found s).on j) s.time =
    λ j h. row_fine (row_at s j) (slice_index (found s).on j) s.time (rows-each s.links (found s).on s.time 0 SLOTS t.rows j (omega arith) (omega arith)) in
    record {
      consecutive = λ i h. (good i h).number;
      first = first-sound s t.few t.first;
      sent = λ i h. (good i h).here;
      queued = ap (λ n. take n s.tx.resend_queue) count ∙ each-queue s ps (first_of s.tx) 0 sh.queue-full (omega (arith, packets-length s, t.few)) each;
      link-unacked = λ j h l. (row j h l).sums ∙ found-on s t.few j h good;
      unacked = sym t.unacked ∙ found-total s t.few Outstanding refl good;
      unconsumable = sym t.unconsumable ∙ found-total s t.few Settled refl good;
      untaken-within = t.size-within;
      identities = λ i j hi hj li lj same. elim (ℕ_discrete i j) [
        | yes q ↦ q
        | no ne ↦ cases (nat_lt i j)
            (λ u. absurd (apart i j (ltb-true i j u) hj li lj same))
            (λ u. absurd (apart j i (omega (arith, ltb-false i j u)) hi lj li (sym same)))
      ];
      near = t.near;
      used = t.used;
      sent-by = λ i h. (good i h).timed;
      pinged-by = λ j h l. (row j h l).pinged;
      packet-count = t.few;
      queue-count = t.queue-few;
      ack-count = λ j h l. (row j h l).acks;
      packet-length = λ i h. (good i h).fits;
      cell-count = t.cell-count;
      buffer-set = t.buffer-set;
      buffer-within = t.buffer-within;
      time-within = t.time-within;
      trip-within = λ j h l. (row j h l).trip;
      max-ping-within = λ j h l. (row j h l).limit;
    }

-- a sound state passes the test
sound-found : (s : State) → Shaped s → Sound s → found_sound s ≡ true
unfolding found_sound sendingb receivingb linksb
sound-found s sh h =
    let few = h.packet-count in
    let ps = packets s.tx in
    let good : AllGood s = λ i l. record { number = h.consecutive i l; fits = h.packet-length i l; here = h.sent i l; timed = h.sent-by i l } in
    let count : length (queued_of ps) ≡ s.tx.resend_count =
    ap length (sym h.queued) ∙ length-take-le s.tx.resend_count s.tx.resend_queue (omega (arith, h.queue-count, sh.queue-full)) in
    let each : each_ok s ps (first_of s.tx) 0 ≡ true =
    good-each s ps (first_of s.tx) 0 (minus-lt s.tx.tx_seq.0 s.tx.txed_count) sh.queue-full (omega (arith, packets-length s, few))
    (λ i l. good i (omega (arith, packets-length s))) (ap (λ n. take n s.tx.resend_queue) count ∙ h.queued) in
    join (le-leb _ _ few)
    (join
    (join (found_ok s few ∙ each)
    (join (sound-first s few h.first)
    (join (join (eq-eqb _ _ (found-queued s few ∙ count)) (le-leb _ _ h.queue-count))
    (join (eq-eqb _ _ (found-total s few Outstanding refl good ∙ sym h.unacked)) (eq-eqb _ _ (found-total s few Settled refl good ∙ sym h.unconsumable))))))
    (join
    (join h.cell-count
    (join (join (le-leb _ _ h.near) (le-leb _ _ h.used))
    (join (le-leb _ _ h.untaken-within) (join (le-leb _ _ h.buffer-set) (le-leb _ _ h.buffer-within)))))
    (join
    (rows_all s.links (found s).on s.time 0 SLOTS
    (λ j p q.
    let l : j < SLOTS = omega arith in
    fine-row (row_at s j) (slice_index (found s).on j) s.time (λ live. record {
      sums = h.link-unacked j l live ∙ sym (found-on s few j l good);
      trip = h.trip-within j l live;
      limit = h.max-ping-within j l live;
      pinged = h.pinged-by j l live;
      acks = h.ack-count j l live;
    })))
    (join
    (apart_distinct s SLOTS (omega arith) (λ i j p q li lj same. omega (arith, h.identities i j (omega arith) q li lj same)))
    (le-leb _ _ h.time-within)))))

-- the test and the decision are one
pub found-same : (s : State) → Shaped s → found_sound s ≡ soundb s
found-same s sh = same_test (found_sound s) (soundb s) (λ e. sound-true s (found-sound s sh e)) (λ e. sound-found s sh (sound s e))
