-- `ack` keeps a sound state sound: the settled packet leaves the sums of what is unacked, and the sweep makes the first packet one
-- that isn't Received. Assumes nothing.
use Rattle.std.specs.Prelude.{◌≡◌, true, false, List, [], ◌∷◌, map, ℕ, suc, ◌+◌, ◌-◌, ◌^◌, ◌≤◌, ◌<◌, eqb, length, get_or, take}
use Rattle.std.proofs.Math.Path.{refl, sym}
use Rattle.std.proofs.Common.{ap, ◌∙◌, arith, length-set, eq-eqb, ne_eqb}
use Rattle.std.proofs.Math.Decide.{ℕ_discrete}
use borrow.Table.Steps.{cases}
use Rattle.seq.specs.declared.Seq.{Seq}
use Rattle.seq.specs.Laws.{plus-lt}
use Rattle.link.specs.declared.row.LinkRow.{LinkRow}
use Rattle.link.specs.Row.{with_unacked}
use Rattle.link.specs.Limit.{mark_acked}
use Rattle.link.specs.Roundtrip.{trip_moved}
use Rattle.engine.specs.declared.state.SentReliableStatus.{SentReliableStatus}
use Rattle.engine.specs.declared.state.SentReliableStatus.TheVariants.{Sent, Received, ResendQueued}
use Rattle.engine.specs.declared.state.SentReliable.{SentReliable}
use Rattle.engine.specs.declared.state.Sending.{Sending}
use Rattle.engine.specs.declared.state.State.{State}
use Rattle.engine.specs.Packets.{no_packet, first_of, packets, queue, is_received, is_queued, queued_of, Pick, SentOn, Outstanding, Settled, weight_as, sum_of}
use Rattle.engine.specs.Queue.{requeued}
use Rattle.engine.specs.Table.{in_table, looked_at, with_packet}
use Rattle.engine.specs.Rows.{row_of, row-of}
use Rattle.engine.specs.Sound.{row_at, packet_at}
use Rattle.engine.specs.DecidedTables.{RowFine}
use Rattle.engine.specs.Gates.{AtTime}
use Rattle.engine.specs.Acking.{settled, settled_row_as, received_tx, settled_tx_as, sweep_from, sweep_of, swept_tx, acked_row, acked_tx, acked_state, acked-count}
use Rattle.engine.specs.Fields.{with_status, with_queue}
use Rattle.engine.specs.Sizes.{PACKETS}
use Rattle.laws.specs.Good.{Good}
use Rattle.laws.specs.RowsKept.{rows_of, row-later}
use Rattle.laws.specs.RowAcks.{acked-acks, same_full}
use Rattle.laws.specs.RowChanged.{like-fine, mark-acked, bytes-fine, bytes-live, bytes-id, trip-fine, trip-live, trip-id}
use Rattle.laws.specs.Parts.{Sized, same-sizes, after-good, Fits, change-at, changed-sending, still}
use Rattle.laws.specs.PacketsKept.{packets-count, map-length, map_at, requeued-kept}
use Rattle.laws.specs.PacketEffects.{restated, change_at, swept, received_is, sweeps, sweep-keeps, sweep-packets, replaced-sum, replaced-queued, ack-packets}

-- ---- the sweep

-- it keeps the resend queue, and every sum but that of what is Received ..
sweep-queued : (ps : List SentReliable) → queued_of (swept ps) ≡ queued_of ps
unfolding queued_of
sweep-queued ps = sweep-keeps (λ ps qs. queued_of qs ≡ queued_of ps) (λ ps. refl) (λ p ps qs r e. e ∙ sym (simp r)) ps

sweep-sum : (k : Pick) → ((len : ℕ) → weight_as k Received len ≡ 0) → (ps : List SentReliable) → sum_of k (swept ps) ≡ sum_of k ps
unfolding sum_of
sweep-sum k none ps =
    sweep-keeps (λ ps qs. sum_of k qs ≡ sum_of k ps) (λ ps. refl)
    (λ p ps qs r e. omega (arith, e, none p.len, ap (λ st. weight_as k st p.len) r)) ps

-- .. which it reduces by what it drops; the number it ends at is a packet's, or the one before
sweep-front : (P : Seq → Type 0) (ps : List SentReliable) (last : Seq) (held : ℕ) → held ≡ sum_of Settled ps → P last → ((i : ℕ) → i < length ps → P (get_or ps i no_packet).seq)
    → ((sweep_from ps last held).held ≡ sum_of Settled (swept ps)) × P (sweep_from ps last held).last
unfolding sweep_from swept sum_of
sweep-front P [] last held e own each = (e, own)
sweep-front P (p ∷ ps) last held e own each =
    cases (is_received p.status)
    (λ t. simp t (sweep-front P ps p.seq (held - p.len) (omega (arith, e, ap (λ st. weight_as Settled st p.len) (received_is p.status t)))
    (each 0 (omega arith)) (λ i h. each (suc i) (omega arith))))
    (λ t. simp t (e, each 0 (omega arith)))

-- an ack makes Received of a status, or leaves it
settle-by : (P : SentReliableStatus → Type 0) (slot : ℕ) → P Received → (st : SentReliableStatus) → P st → P (settled slot st)
unfolding settled
settle-by P slot new (Sent flight) old = cases (eqb flight.slot slot) (λ t. simp t new) (λ t. simp t old)
settle-by P slot new Received old = new
settle-by P slot new (ResendQueued link) old = new

module _ (s : State) (good : Good s) (slot time a : ℕ) (number : a < 2 ^ 32) (ok : AtTime s slot time) where
  -- ---- before the sweep

  -- the row and the sending half are as Sound asks, but for "the first packet isn't Received"
  record Settles (row : LinkRow) (tx : Sending) : Type 0 where
    queued : queue tx ≡ queued_of (packets tx)
    room : tx.resend_count ≤ PACKETS
    unacked : tx.txed_unacked ≡ sum_of Outstanding (packets tx)
    unconsumable : tx.txed_unconsumable ≡ sum_of Settled (packets tx)
    live : row.live ≡ (row_at s slot).live
    id : row.link_id ≡ (row_at s slot).link_id
    fine : RowFine row (sum_of (SentOn slot) (packets tx)) time
    others : (j : ℕ) → (j ≡ slot → ⊥) → sum_of (SentOn j) (packets tx) ≡ sum_of (SentOn j) (packets s.tx)
    next : tx.tx_seq ≡ s.tx.tx_seq
    sized : Sized tx

  abbrev marked : LinkRow
  marked = mark_acked (row_of s slot) a

  -- the mark alone
  only-marked : Settles marked s.tx
  only-marked =
      let own = row-of s slot ok.at.small in
      let like = mark-acked _ (row_of s slot) a in
      record {
        queued = good.sound.queued;
        room = good.sound.queue-count;
        unacked = good.sound.unacked;
        unconsumable = good.sound.unconsumable;
        live = like.live ∙ ap (λ x. x.live) own;
        id = like.id ∙ ap (λ x. x.link_id) own;
        fine = like-fine marked (row_of s slot) _ time like (rw own (row-later _ _ s.time time ok.later (rows_of s good.sound slot ok.at.small ok.at.live)));
        others = λ j ne. refl;
        next = refl;
        sized = same-sizes s good s.tx good.shaped.packets-full good.shaped.queue-full refl refl refl;
      }

  module _ (held : in_table s.tx a ≡ true) where
    abbrev old : SentReliable
    old = looked_at s.tx a

    abbrev new : SentReliable
    new = with_status old Received

    abbrev after : List SentReliable
    after = packets (with_packet s.tx a new)

    sums : (k : Pick) (st : SentReliableStatus) → old.status ≡ st → sum_of k after + weight_as k st old.len ≡ sum_of k (packets s.tx) + weight_as k Received old.len
    sums k st e = rw e at (replaced-sum s good a number held new k)

    -- the packet becomes Received, whatever the row and the queue
    received : (st : SentReliableStatus) → old.status ≡ st → (row : LinkRow) (q : List Seq) (c : ℕ) → row.live ≡ marked.live → row.link_id ≡ marked.link_id
        → RowFine row (sum_of (SentOn slot) after) time → ((j : ℕ) → (j ≡ slot → ⊥) → weight_as (SentOn j) st old.len ≡ 0)
        → weight_as Outstanding st old.len ≡ old.len → weight_as Settled st old.len ≡ 0
        → take c q ≡ queued_of after → c ≤ PACKETS → length q ≡ PACKETS → Settles row (with_queue (received_tx s.tx a old) q c)
    unfolding received_tx with_packet
    received st e row q c live id fine none counted open-yet lists room places = record {
      queued = lists;
      room = room;
      unacked = omega (arith, good.sound.unacked, sums Outstanding st e, counted);
      unconsumable = omega (arith, good.sound.unconsumable, sums Settled st e, open-yet);
      live = live ∙ only-marked.live;
      id = id ∙ only-marked.id;
      fine = fine;
      others = λ j ne. omega (arith, sums (SentOn j) st e, none j ne);
      next = refl;
      sized = same-sizes s good _ (length-set s.tx.txed_packets _ new ∙ good.shaped.packets-full) places refl refl refl;
    }

    settles : (st : SentReliableStatus) → old.status ≡ st → Settles (settled_row_as st marked old.len slot time) (settled_tx_as st s.tx slot a old)
    unfolding settled_row_as settled_tx_as received_tx requeued with_packet
    -- "Sent on this slot, .. its size leaves the link's unacked bytes"
    settles (Sent flight) e =
        elim (ℕ_discrete flight.slot slot) [
          | yes q ↦
              let here : weight_as (SentOn slot) (Sent flight) old.len ≡ old.len = simp (eq-eqb flight.slot slot q) in
              let less = with_unacked marked (marked.txed_unacked_data - old.len) in
              simp (eq-eqb flight.slot slot q) (received (Sent flight) e (trip_moved less flight.sent time) s.tx.resend_queue s.tx.resend_count
              (trip-live less _ time ∙ bytes-live marked _) (trip-id less _ time ∙ bytes-id marked _)
              (trip-fine less _ flight.sent time ok.top
              (bytes-fine marked _ _ (sum_of (SentOn slot) after) time (omega (arith, only-marked.fine.sums, sums (SentOn slot) (Sent flight) e, here)) only-marked.fine))
              (λ j ne. simp (ne_eqb flight.slot j (λ f. ne (sym f ∙ q)))) refl refl
              (good.sound.queued ∙ sym (replaced-queued s good a number held new refl (sym (ap is_queued e)))) good.sound.queue-count good.shaped.queue-full)
          | no ne ↦ simp (ne_eqb flight.slot slot ne) only-marked
        ]
    settles Received e = only-marked
    -- "ResendQueued, the same without the link, and it leaves the queue"
    settles (ResendQueued link) e =
        let tx = received_tx s.tx a old in
        let same : sum_of (SentOn slot) (packets s.tx) ≡ sum_of (SentOn slot) after = omega (arith, sums (SentOn slot) (ResendQueued link) e) in
        let again = requeued-kept tx good.sound.packet-count good.shaped.queue-full in
        received (ResendQueued link) e marked (requeued tx).resend_queue (requeued tx).resend_count refl refl (rw same at only-marked.fine) (λ j ne. refl) refl refl
        again.0 again.1 again.2

  -- ---- the whole call

  ack-settles : Settles (acked_row s slot time a) (acked_tx s slot a)
  unfolding acked_row acked_tx
  ack-settles = cases (in_table s.tx a) (λ t. simp t (settles t (looked_at s.tx a).status refl)) (λ t. simp t only-marked)

-- what is settled is swept
pub acked-good : (s : State) → Good s → (slot time a : ℕ) → a < 2 ^ 32 → AtTime s slot time → Good (acked_state s slot time a)
unfolding acked_state swept_tx sweep_of
acked-good s good slot time a number ok =
    let t = acked_state s slot time a in
    let tx = acked_tx s slot a in
    let row = acked_row s slot time a in
    let p = ack-settles s good slot time a number ok in
    let z = p.sized in
    let change = change_at a (settled slot) in
    let ms = map (restated change) (packets s.tx) in
    let before = ack-packets s good slot a number in
    let r = sweeps ms in
    let now = sweep-packets tx (omega (arith, acked-count s slot a, good.sound.packet-count)) in
    let long = map-length (restated change) (packets s.tx) in
    let sums : (k : Pick) → ((len : ℕ) → weight_as k Received len ≡ 0) → sum_of k (packets t.tx) ≡ sum_of k (packets tx) =
    λ k none. ap (sum_of k) now ∙ sweep-sum k none (packets tx) in
    let numbers : (i : ℕ) → i < length ms → (get_or ms i no_packet).seq.0 < 2 ^ 32 =
    λ i h. rw (map_at (restated change) no_packet (packets s.tx) i (omega (arith, long)))
    (rw (good.sound.consecutive i (omega (arith, long, packets-count s.tx))) (plus-lt (first_of s.tx) i)) in
    let front = sweep-front (λ n. n.0 < 2 ^ 32) (packets tx) tx.txed_last_consumed tx.txed_unconsumable p.unconsumable z.last (rw before numbers) in
    let first : r.gone < s.tx.txed_count → is_received (change (packet_at s r.gone)) ≡ false =
    λ h. rw (map_at (restated change) no_packet (packets s.tx) r.gone (omega (arith, packets-count s.tx))) at (r.first (omega (arith, long, packets-count s.tx))) in
    after-good s t slot row good ok (record {
      sending =
          changed-sending s t good change r.gone (now ∙ ap swept before ∙ r.left) (omega (arith, r.within, long)) p.next
          (λ q h.
          let old = still s t good slot ok row refl p.live p.id q.status h in
          change-at (Fits t) a (settled slot) q old (settle-by (Fits t) slot (tt, tt) q.status old))
          first
          (p.queued ∙ sym (ap queued_of now ∙ sweep-queued (packets tx))) p.room
          (p.unacked ∙ sym (sums Outstanding (λ len. refl))) (front.0 ∙ ap (sum_of Settled) (sym now));
      links = refl;
      full = same_full s slot good.shaped row (acked-acks s slot time a);
      who = λ l. p.id;
      fine = λ l. rw (sums (SentOn slot) (λ len. refl)) p.fine;
      others = λ j ne. sums (SentOn j) (λ len. refl) ∙ p.others j ne;
      sized = record { cells = z.cells; places = z.places; next = z.next; unconsumed = z.unconsumed; last = front.1 };
      received = (_, omega arith, refl);
    })
