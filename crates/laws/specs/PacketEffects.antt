-- What each call does to the packet table, as a list, oldest first: Send appends; Unconfirm, Flush and Resend change statuses in their places; Ack changes
-- one and drops a beginning. Assumes nothing.
use Rattle.std.specs.Prelude.{◌≡◌, true, false, cond, List, [], ◌∷◌, ◌++◌, map, ℕ, zero, suc, ◌+◌, ◌-◌, ◌%◌, ◌^◌, ◌≤◌, ◌<◌, eqb, get_or, set, drop}
use Rattle.std.proofs.Math.Path.{refl, sym, ap}
use Rattle.std.proofs.Common.{◌∙◌, arith, length-drop, get_or-set_same, eqb-true, eq-eqb, le-leb}
use Rattle.std.proofs.Math.Decide.{ℕ_discrete}
use Rattle.std.proofs.Math.Nat.{mod-add-mod}
use Rattle.std.proofs.Math.Numerals.{add-one}
use Rattle.std.proofs.Math.ListN.{length, length-set}
use Rattle.std.proofs.Math.Seq.{get_or-set_other, ext_get_or}
use borrow.Table.Steps.{cases}
use Rattle.seq.specs.declared.Seq.{Seq}
use Rattle.seq.specs.Numbers.{plus, minus}
use Rattle.seq.specs.Laws.{plus-minus, cell-counted}
use Rattle.seq.specs.Distance.{past}
use Rattle.msg.specs.declared.reliable.ReliableMsg.{ReliableMsg}
use Rattle.refusal.specs.Tests.{false-true, join}
use Rattle.engine.specs.declared.state.SentReliableStatus.{SentReliableStatus}
use Rattle.engine.specs.declared.state.SentReliableStatus.TheVariants.{Sent, Received, ResendQueued}
use Rattle.engine.specs.declared.state.SentReliable.{SentReliable}
use Rattle.engine.specs.declared.state.Sending.{Sending}
use Rattle.engine.specs.declared.state.State.{State}
use Rattle.engine.specs.Ring.{window-set-in, window-snoc, window-drop}
use Rattle.engine.specs.Packets.{no_packet, first_of, packets, is_received, is_queued, queued_of, Pick, weight, sum_of, restatused}
use Rattle.engine.specs.Queue.{requeued}
use Rattle.engine.specs.Rows.{row_of}
use Rattle.engine.specs.Table.{in_table, place, looked_at, with_packet, with_table}
use Rattle.engine.specs.InTable.{packet-back, cells-divide, number_past, placed, table-packets, looked-number}
use Rattle.engine.specs.Sound.{packet_at}
use Rattle.engine.specs.Unconfirming.{unconfirmed_packet, unconfirmed_state}
use Rattle.engine.specs.Flushing.{flushed_packet, flushed_state}
use Rattle.engine.specs.Sending.{sent_tx}
use Rattle.engine.specs.Resending.{resent_state}
use Rattle.engine.specs.Acking.{settled, received_tx, settled_tx_as, sweep_from, sweep_of, swept_tx, acked_tx, acked_state, acked-count}
use Rattle.engine.specs.Fields.{new_packet, new_flight, with_status}
use Rattle.engine.specs.Sizes.{PACKETS}
use Rattle.laws.specs.Good.{Good}
use Rattle.laws.specs.PacketsKept.{packets-count, map-length, map_at, sum-set, queued-set}

-- another status for each packet, by what it is
abbrev pub restated : (SentReliable → SentReliableStatus) → SentReliable → SentReliable
restated change p = with_status p (change p)

-- .. for the packet of a number
abbrev pub change_at : ℕ → (SentReliableStatus → SentReliableStatus) → SentReliable → SentReliableStatus
change_at n change p = cond (eqb p.seq.0 n) (change p.status) p.status

-- "Last, while packets remain: .. if Received it is dropped .., else stop."
unfoldable pub swept : List SentReliable → List SentReliable
swept [] = []
swept (p ∷ ps) = cond (is_received p.status) (swept ps) (p ∷ ps)

-- a beginning is dropped: those are Received, and the next isn't
pub record Swept (ps : List SentReliable) : Type 0 where
  pub gone : ℕ
  pub within : gone ≤ length ps
  pub left : swept ps ≡ drop gone ps
  pub dropped : (i : ℕ) → i < gone → is_received (get_or ps i no_packet).status ≡ true
  pub first : gone < length ps → is_received (get_or ps gone no_packet).status ≡ false

pub sweeps : (ps : List SentReliable) → Swept ps
unfolding swept
sweeps [] = record { gone = 0; within = omega arith; left = refl; dropped = λ i h. absurd (omega arith); first = λ h. absurd (omega arith) }
sweeps (p ∷ ps) =
    cases (is_received p.status)
    (λ t.
    let r = sweeps ps in
    let first : (i : ℕ) → i < suc r.gone → is_received (get_or (p ∷ ps) i no_packet).status ≡ true = λ i. elim i as (λ k. k < suc r.gone → is_received (get_or (p ∷ ps) k no_packet).status ≡ true) [ zero ↦ λ h. t | suc j ↦ λ h. r.dropped j (omega arith) ] in
    record { gone = suc r.gone; within = omega (arith, r.within); left = simp t r.left; dropped = first; first = λ h. r.first (omega arith) })
    (λ t. record { gone = 0; within = omega arith; left = simp t; dropped = λ i h. absurd (omega arith); first = λ h. t })

-- a Received status is just that
pub received_is : (st : SentReliableStatus) → is_received st ≡ true → st ≡ Received
received_is (Sent flight) e = false-true e
received_is Received e = refl
received_is (ResendQueued link) e = false-true e

-- what the sweep keeps is what a Received packet at the front doesn't change
pub sweep-keeps : (Q : List SentReliable → List SentReliable → Type 0) → ((ps : List SentReliable) → Q ps ps)
    → ((p : SentReliable) (ps qs : List SentReliable) → p.status ≡ Received → Q ps qs → Q (p ∷ ps) qs) → (ps : List SentReliable) → Q ps (swept ps)
unfolding swept
sweep-keeps Q stop on [] = stop []
sweep-keeps Q stop on (p ∷ ps) =
    cases (is_received p.status) (λ t. simp t (on p ps (swept ps) (received_is p.status t) (sweep-keeps Q stop on ps))) (λ t. simp t (stop (p ∷ ps)))

-- the status that resending gives
abbrev pub resent_status : State → ℕ → ℕ → SentReliableStatus → SentReliableStatus
resent_status s slot time st = Sent (new_flight time slot (row_of s slot).link_id true)

-- ---- over the cells of the table

-- the first number stays where one more is sent
pub first-same : (t count : ℕ) → t < 2 ^ 32 → count < PACKETS → minus (plus t 1) (count + 1) ≡ minus t count
unfolding plus minus
first-same t count ht hc = omega arith

-- the cell of the number i past the first
past-cell : (first i : ℕ) → plus first i % PACKETS ≡ (first % PACKETS + i) % PACKETS
past-cell first i = cell-counted PACKETS first i cells-divide ∙ sym (mod-add-mod first PACKETS i)

-- how many the sweep leaves
sweep-left : (ps : List SentReliable) (last : Seq) (held : ℕ) → (sweep_from ps last held).left ≡ length (swept ps)
unfolding sweep_from swept
sweep-left [] last held = refl
sweep-left (p ∷ ps) last held = cases (is_received p.status) (λ t. simp t (sweep-left ps p.seq (held - p.len))) (λ t. simp t)

-- the swept table has the packets that are left
pub sweep-packets : (tx : Sending) → tx.txed_count ≤ PACKETS → packets (swept_tx tx) ≡ swept (packets tx)
unfolding swept_tx sweep_of
sweep-packets tx few =
    let r = sweeps (packets tx) in
    let count = tx.txed_count in
    let n : (swept_tx tx).txed_count ≡ count - r.gone =
    sweep-left (packets tx) _ _ ∙ ap length r.left ∙ length-drop r.gone (packets tx) ∙ ap (λ k. k - r.gone) (packets-count tx) in
    let within : r.gone ≤ count = omega (arith, r.within, packets-count tx) in
    let off : count - (count - r.gone) ≡ r.gone = omega arith in
    let at : minus tx.tx_seq.0 (count - r.gone) % PACKETS ≡ (first_of tx % PACKETS + r.gone) % PACKETS =
    ap (λ k. k % PACKETS) (number_past tx.tx_seq.0 count (count - r.gone) few (omega arith) ∙ ap (plus (first_of tx)) off) ∙ past-cell (first_of tx) r.gone in
    rw (n, at, r.left) (sym (window-drop PACKETS no_packet tx.txed_packets (first_of tx % PACKETS) count r.gone (omega arith) within))

-- ---- the calls

module _ (s : State) (good : Good s) where
  -- the packet is added at the end
  pub sent-packets : (slot link time : ℕ) (msg : ReliableMsg) (len : ℕ) → s.tx.txed_count < PACKETS
      → packets (sent_tx s.tx slot link time msg len) ≡ packets s.tx ++ (new_packet s.tx.tx_seq msg len (Sent (new_flight time slot link false)) ∷ [])
  unfolding sent_tx
  sent-packets slot link time msg len room =
      let t = s.tx.tx_seq.0 in
      let count = s.tx.txed_count in
      let cell : t % PACKETS ≡ (first_of s.tx % PACKETS + count) % PACKETS =
      ap (λ n. n % PACKETS) (sym (plus-minus t count good.shaped.next-u32 (omega arith))) ∙ past-cell (first_of s.tx) count in
      rw (first-same t count good.shaped.next-u32 room, cell, add-one count)
      (window-snoc PACKETS no_packet s.tx.txed_packets (first_of s.tx % PACKETS) count _ (omega arith) good.shaped.packets-full room)

  -- every packet is changed in its place
  all_changed : (f : SentReliable → SentReliable) → packets (with_table s.tx (map f (packets s.tx))) ≡ map f (packets s.tx)
  all_changed f =
      table-packets s.tx (map f (packets s.tx)) (map-length f (packets s.tx) ∙ packets-count s.tx) good.sound.packet-count good.shaped.packets-full

  pub unconfirmed-packets : (slot : ℕ) → packets (unconfirmed_state s slot).tx ≡ map (unconfirmed_packet slot) (packets s.tx)
  unfolding unconfirmed_state requeued
  unconfirmed-packets slot = all_changed (unconfirmed_packet slot)

  pub flushed-packets : (slot time : ℕ) → packets (flushed_state s slot time).tx ≡ map (flushed_packet slot time) (packets s.tx)
  unfolding flushed_state
  flushed-packets slot time = all_changed (flushed_packet slot time)

  -- a packet's number is in the table, at its place
  number_at : (i n : ℕ) → i < length (packets s.tx) → eqb (packet_at s i).seq.0 n ≡ true → (in_table s.tx n ≡ true) × (place s.tx n ≡ i)
  unfolding in_table place
  number_at i n h e =
      let next = s.tx.tx_seq.0 in
      let count = s.tx.txed_count in
      let few : i < count = omega (arith, packets-count s.tx) in
      let back : past next n ≡ count - i = ap (past next) (sym (eqb-true _ _ e)) ∙ packet-back s good.shaped good.sound i few in
      (join (le-leb 1 (past next n) (omega (arith, back))) (le-leb (past next n) count (omega (arith, back))), omega (arith, back))

  module _ (n : ℕ) (u32 : n < 2 ^ 32) where
    -- where a change leaves the packet of a number, or the table doesn't hold the number, every packet stays
    none-changed : (change : SentReliableStatus → SentReliableStatus) → (in_table s.tx n ≡ true → change (looked_at s.tx n).status ≡ (looked_at s.tx n).status)
        → packets s.tx ≡ map (restated (change_at n change)) (packets s.tx)
    unfolding looked_at
    none-changed change same =
        let ps = packets s.tx in
        ext_get_or no_packet ps (map (restated (change_at n change)) ps) (sym (map-length _ ps))
        (λ i h.
        let status : (packet_at s i).status ≡ change_at n change (packet_at s i) =
        cases (eqb (packet_at s i).seq.0 n)
        (λ t. let here = number_at i n h t in simp t (sym (rw here.1 at (same here.0))))
        (λ t. simp t) in
        ap (with_status (packet_at s i)) status ∙ sym (map_at _ no_packet ps i h))

    module _ (held : in_table s.tx n ≡ true) where
      place_in : place s.tx n < length (packets s.tx)
      unfolding place
      place_in =
          let at = placed s.tx n good.shaped.next-u32 u32 good.sound.packet-count held in
          omega (arith, at.back_low, at.back-high, packets-count s.tx)

      -- where the table holds the number and its cell gets another packet, the packet at its place is replaced, and no other ..
      one-replaced : (p : SentReliable) → packets (with_packet s.tx n p) ≡ set (packets s.tx) (place s.tx n) p
      unfolding with_packet
      one-replaced p =
          let first = first_of s.tx in
          let cell : n % PACKETS ≡ (first % PACKETS + place s.tx n) % PACKETS =
          ap (λ k. k % PACKETS) (placed s.tx n good.shaped.next-u32 u32 good.sound.packet-count held).number ∙ past-cell first (place s.tx n) in
          rw cell (window-set-in PACKETS no_packet s.tx.txed_packets (first % PACKETS) s.tx.txed_count (place s.tx n) p (omega arith)
          good.shaped.packets-full (omega (arith, place_in, packets-count s.tx)) good.sound.packet-count)

      -- .. so that one weight leaves each sum and another joins it ..
      pub replaced-sum : (p : SentReliable) (k : Pick) → sum_of k (packets (with_packet s.tx n p)) + weight k (looked_at s.tx n) ≡ sum_of k (packets s.tx) + weight k p
      unfolding looked_at
      replaced-sum p k = rw (one-replaced p) (sum-set k (packets s.tx) (place s.tx n) p place_in)

      -- .. the queued numbers stay where the new packet is queued or not as the old was ..
      pub replaced-queued : (p : SentReliable) → p.seq ≡ (looked_at s.tx n).seq → is_queued p.status ≡ is_queued (looked_at s.tx n).status
          → queued_of (packets (with_packet s.tx n p)) ≡ queued_of (packets s.tx)
      unfolding looked_at
      replaced-queued p e u = ap queued_of (one-replaced p) ∙ queued-set (packets s.tx) (place s.tx n) p e u

      -- .. and a change by number is such
      one-changed : (change : SentReliableStatus → SentReliableStatus) (p : SentReliable) → p ≡ restatused change (looked_at s.tx n)
          → packets (with_packet s.tx n p) ≡ map (restated (change_at n change)) (packets s.tx)
      unfolding looked_at
      one-changed change p e =
          let ps = packets s.tx in
          let at = place s.tx n in
          let f = restated (change_at n change) in
          let number = ap (λ (x : Seq). x.0) (looked-number s good.shaped good.sound n u32 held) in
          one-replaced p
          ∙ ext_get_or no_packet (set ps at p) (map f ps) (length-set ps at p ∙ sym (map-length f ps))
          (λ i h.
          let l : i < length ps = omega (arith, length-set ps at p) in
          elim (ℕ_discrete i at) [
            | yes here ↦ rw here (get_or-set_same ps at p no_packet place_in ∙ e ∙ simp (eq-eqb _ _ number))
            | no there ↦ get_or-set_other ps at i p no_packet there ∙ cases (eqb (packet_at s i).seq.0 n)
                (λ t. absurd (there (sym (number_at i n l t).1)))
                (λ t. simp t)
          ]
          ∙ sym (map_at f no_packet ps i l))

  -- one packet is sent anew, in its place
  pub resent-packets : (slot time n : ℕ) → n < 2 ^ 32 → in_table s.tx n ≡ true
      → packets (resent_state s slot time n).tx ≡ map (restated (change_at n (resent_status s slot time))) (packets s.tx)
  unfolding resent_state requeued
  resent-packets slot time n number held = one-changed n number held (resent_status s slot time) _ refl

  module _ (slot a : ℕ) (number : a < 2 ^ 32) where
    -- what an ack does, by the status of the number's packet ..
    settled-packets : in_table s.tx a ≡ true → (st : SentReliableStatus) → (looked_at s.tx a).status ≡ st
        → packets (settled_tx_as st s.tx slot a (looked_at s.tx a)) ≡ map (restated (change_at a (settled slot))) (packets s.tx)
    unfolding settled settled_tx_as received_tx requeued with_packet
    settled-packets held (Sent flight) e =
        cases (eqb flight.slot slot)
        (λ t. simp t (one-changed a number held (settled slot) _ (ap (with_status (looked_at s.tx a)) (sym (ap (settled slot) e ∙ simp t)))))
        (λ t. simp t (none-changed a number (settled slot) (λ h. ap (settled slot) e ∙ simp t (sym e))))
    settled-packets held Received e = none-changed a number (settled slot) (λ h. ap (settled slot) e ∙ sym e)
    settled-packets held (ResendQueued link) e = one-changed a number held (settled slot) _ (ap (with_status (looked_at s.tx a)) (sym (ap (settled slot) e)))

    -- .. and by whether there is one, before the sweep
    pub ack-packets : packets (acked_tx s slot a) ≡ map (restated (change_at a (settled slot))) (packets s.tx)
    unfolding acked_tx
    ack-packets =
        cases (in_table s.tx a)
        (λ t. simp t (settled-packets t (looked_at s.tx a).status refl))
        (λ t. simp t (none-changed a number (settled slot) (λ held. false-true (sym t ∙ held))))

  -- .. and after it
  pub acked-packets : (slot time a : ℕ) → a < 2 ^ 32
      → packets (acked_state s slot time a).tx ≡ swept (map (restated (change_at a (settled slot))) (packets s.tx))
  unfolding acked_state
  acked-packets slot time a number =
      sweep-packets (acked_tx s slot a) (omega (arith, acked-count s slot a, good.sound.packet-count)) ∙ ap swept (ack-packets slot a number)
