-- Sound in its parts: what it asks of the sending half, of the rows and of the receiving half; and what a call that changes the sending half, a row
-- and the time has to show. Assumes nothing.
use Rattle.std.specs.Prelude.{◌≡◌, refl, Bool, true, false, cond, List, map, ℕ, ◌+◌, ◌-◌, ◌*◌, ◌^◌, ◌≤◌, ◌<◌, eqb, length, get_or, set, drop}
use Rattle.std.proofs.Common.{sym, ap, ◌∙◌, arith, length-drop, get_or-drop, eqb-true, eq-eqb, ne_eqb}
use Rattle.std.proofs.lemmas.Bool.{eqb-false}
use borrow.Table.Steps.{cases}
use Rattle.seq.specs.declared.Seq.{Seq}
use Rattle.seq.specs.Numbers.{seq_of, plus, minus}
use Rattle.seq.specs.Laws.{plus-plus}
use Rattle.link.specs.declared.row.LinkRow.{LinkRow}
use Rattle.link.specs.Row.{with_unacked}
use Rattle.link.specs.Sizes.{MAX_TIME, ACKS}
use Rattle.engine.specs.declared.state.InFlight.{InFlight}
use Rattle.engine.specs.declared.state.SentReliableStatus.{SentReliableStatus}
use Rattle.engine.specs.declared.state.SentReliableStatus.TheVariants.{Sent, Received, ResendQueued}
use Rattle.engine.specs.declared.state.SentReliable.{SentReliable}
use Rattle.engine.specs.declared.state.Sending.{Sending}
use Rattle.engine.specs.declared.state.Receiving.{Receiving}
use Rattle.engine.specs.declared.state.State.{State}
use Rattle.engine.specs.Packets.{no_packet, first_of, packets, queue, is_received, restatused, queued_of, Pick, SentOn, Outstanding, Settled, weight_as, sum_of}
use Rattle.engine.specs.Received.{expected_at, in_use}
use Rattle.engine.specs.CellCount.{is_cell_count}
use Rattle.engine.specs.InTable.{number_past}
use Rattle.engine.specs.DecidedTables.{RowFine}
use Rattle.engine.specs.DecidedPackets as packet
use Rattle.engine.specs.Rows.{row_of, row-of}
use Rattle.engine.specs.Gates.{AtTime}
use Rattle.engine.specs.Sound.{Sound, packet_at, row_at, SentHere, SentBy}
use Rattle.engine.specs.Fields.{new_flight, with_bytes}
use Rattle.engine.specs.Sizes.{PACKETS, DATA_BYTES}
use Rattle.laws.specs.Good.{Good}
use Rattle.laws.specs.RowsKept.{RowsFine, Apart, Elsewhere, rows_of, row-later, rows-set, row_here, links-set, apart-set, here-same, sent-later}
use Rattle.laws.specs.RowAcks.{SameAcks, same_full}
use Rattle.laws.specs.RowChanged.{Like, like-fine, bytes-fine, bytes-live, bytes-id}
use Rattle.laws.specs.PacketsKept.{packets-count, map-length, map_at, sum-mapped}
use Rattle.laws.specs.PacketEffects.{restated, change_at}

-- the sending half: each packet's number, length, slot and times; the queue; the totals
pub record SendingSound (s : State) : Type 0 where
  pub each : (i : ℕ) → i < s.tx.txed_count → packet.Good s (packet_at s i) (plus (first_of s.tx) i)
  pub first : 0 < s.tx.txed_count → is_received (packet_at s 0).status ≡ false
  pub queued : queue s.tx ≡ queued_of (packets s.tx)
  pub unacked : s.tx.txed_unacked ≡ sum_of Outstanding (packets s.tx)
  pub unconsumable : s.tx.txed_unconsumable ≡ sum_of Settled (packets s.tx)
  pub packet-count : s.tx.txed_count ≤ PACKETS
  pub queue-count : s.tx.resend_count ≤ PACKETS

-- the receiving half, but for what the records hold
pub record ReceivingSound (rx : Receiving) : Type 0 where
  pub untaken-within : rx.rxed_reliable_size ≤ rx.recv_buffer
  pub near : expected_at rx ≤ in_use rx
  pub used : in_use rx ≤ rx.cells
  pub cell-count : is_cell_count rx.cells ≡ true
  pub buffer-set : 1 ≤ rx.recv_buffer
  pub buffer-within : rx.recv_buffer ≤ rx.cells * DATA_BYTES

module _ (s : State) where
  pub sending-of : Sound s → SendingSound s
  sending-of sound = record {
    each = λ i h. record { number = sound.consecutive i h; fits = sound.packet-length i h; here = sound.sent i h; timed = sound.sent-by i h };
    first = sound.first;
    queued = sound.queued;
    unacked = sound.unacked;
    unconsumable = sound.unconsumable;
    packet-count = sound.packet-count;
    queue-count = sound.queue-count;
  }

  -- whatever is taken and untold
  receiving-told : (untold : ℕ) → Sound s → ReceivingSound (with_bytes s.rx s.rx.rxed_reliable_size untold)
  receiving-told untold sound = record {
    untaken-within = sound.untaken-within;
    near = sound.near;
    used = sound.used;
    cell-count = sound.cell-count;
    buffer-set = sound.buffer-set;
    buffer-within = sound.buffer-within;
  }

  pub receiving-of : Sound s → ReceivingSound s.rx
  receiving-of sound = receiving-told s.rx.rxed_reliable_consumed sound

  -- the parts make the whole
  pub whole : SendingSound s → RowsFine s.links (λ j. sum_of (SentOn j) (packets s.tx)) s.time → Apart s.links → ReceivingSound s.rx → s.time ≤ MAX_TIME
      → Sound s
  whole sending rows apart receiving time = record {
    consecutive = λ i h. (sending.each i h).number;
    first = sending.first;
    sent = λ i h. (sending.each i h).here;
    queued = sending.queued;
    link-unacked = λ j h l. (rows j h l).sums;
    unacked = sending.unacked;
    unconsumable = sending.unconsumable;
    untaken-within = receiving.untaken-within;
    identities = apart;
    near = receiving.near;
    used = receiving.used;
    sent-by = λ i h. (sending.each i h).timed;
    pinged-by = λ j h l. (rows j h l).pinged;
    packet-count = sending.packet-count;
    queue-count = sending.queue-count;
    ack-count = λ j h l. (rows j h l).acks;
    packet-length = λ i h. (sending.each i h).fits;
    cell-count = receiving.cell-count;
    buffer-set = receiving.buffer-set;
    buffer-within = receiving.buffer-within;
    time-within = time;
    trip-within = λ j h l. (rows j h l).trip;
    max-ping-within = λ j h l. (rows j h l).limit;
  }

-- ---- another sending half, another row in a slot, and another time

-- the arrays keep their lengths, and the numbers that no sum bounds their ranges
pub record Sized (tx : Sending) : Type 0 where
  pub cells : length tx.txed_packets ≡ PACKETS
  pub places : length tx.resend_queue ≡ PACKETS
  pub next : tx.tx_seq.0 < 2 ^ 32
  pub unconsumed : tx.txed_unconsumed < 2 ^ 32
  pub last : tx.txed_last_consumed.0 < 2 ^ 32

-- as where only the arrays change
pub same-sizes : (s : State) → Good s → (tx : Sending) → length tx.txed_packets ≡ PACKETS → length tx.resend_queue ≡ PACKETS
    → tx.tx_seq ≡ s.tx.tx_seq → tx.txed_unconsumed ≡ s.tx.txed_unconsumed → tx.txed_last_consumed ≡ s.tx.txed_last_consumed → Sized tx
same-sizes s good tx cells places e f g =
    record { cells = cells; places = places; next = rw e good.shaped.next-u32; unconsumed = rw f good.shaped.unconsumed-u32; last = rw g good.shaped.last-u32 }

-- the receiving half stays, or says fewer bytes taken and untold
abbrev pub Told : State → State → Type 0
Told s t = (untold : ℕ) × (untold ≤ s.rx.rxed_reliable_consumed) × (t.rx ≡ with_bytes s.rx s.rx.rxed_reliable_size untold)

-- what such a call has to show of its new state
pub record After (s t : State) (slot : ℕ) (row : LinkRow) : Type 0 where
  pub sending : SendingSound t
  -- the slot's row is as Sound asks, with the link's identity or empty, and the Sent data of every other slot is as it was
  pub links : t.links ≡ set s.links slot row
  pub full : length row.tx_ack_queue ≡ ACKS
  pub who : row.live ≡ true → row.link_id ≡ (row_at s slot).link_id
  pub fine : row.live ≡ true → RowFine row (sum_of (SentOn slot) (packets t.tx)) t.time
  pub others : (j : ℕ) → (j ≡ slot → ⊥) → sum_of (SentOn j) (packets t.tx) ≡ sum_of (SentOn j) (packets s.tx)
  pub sized : Sized t.tx
  pub received : Told s t

pub after-good : (s t : State) (slot : ℕ) (row : LinkRow) → Good s → AtTime s slot t.time → After s t slot row → Good t
after-good s t slot row good ok a =
    let shaped = good.shaped in
    let rx = a.received.2 in
    let sends = a.sending in
    let small = ok.at.small in
    let inside : slot < length s.links = omega (arith, shaped.links-full) in
    let rows = links-set s slot row shaped a.full in
    let fit : (i : ℕ) → i < length (packets t.tx) → _ = λ i h. (sends.each i (omega (arith, packets-count t.tx))).fits in
    record {
      shaped = record {
        links-full = rw a.links rows.full;
        queues = rw a.links rows.queues;
        packets-full = a.sized.cells;
        queue-full = a.sized.places;
        next-u32 = a.sized.next;
        expected-u32 = rw rx shaped.expected-u32;
        oldest-u32 = rw rx shaped.oldest-u32;
        count-usize = omega (arith, sends.packet-count);
        queue-usize = omega (arith, sends.queue-count);
        unacked-u32 = omega (arith, sends.unacked, packet.sum-le Outstanding (packets t.tx) fit, packets-count t.tx, sends.packet-count);
        unconsumed-u32 = a.sized.unconsumed;
        unconsumable-u32 = omega (arith, sends.unconsumable, packet.sum-le Settled (packets t.tx) fit, packets-count t.tx, sends.packet-count);
        last-u32 = a.sized.last;
        size-u32 = rw rx shaped.size-u32;
        untold-u32 = rw rx (omega (arith, a.received.1, shaped.untold-u32));
        buffer-u32 = rw rx shaped.buffer-u32;
        cells-u32 = rw rx shaped.cells-u32;
        end-u32 = rw rx shaped.end-u32;
        time-u64 = omega (arith, ok.top);
      };
      sound = whole t sends
          (rw a.links (rows-set s.links slot row (λ j. sum_of (SentOn j) (packets s.tx)) (λ j. sum_of (SentOn j) (packets t.tx)) s.time t.time
          inside ok.later (rows_of s good.sound) a.fine (λ j l. a.others j)))
          (rw a.links (apart-set s.links slot row inside good.sound.identities
          (λ j l ne lives lj same. ne (good.sound.identities j slot l small lj ok.at.live (same ∙ a.who lives)))))
          (rw rx (receiving-told s a.received.0 good.sound)) ok.top;
    }

-- ---- packets get other statuses in their places, and perhaps the first ones go

-- what Sound asks of a status: its slot and its times
abbrev pub Fits : State → SentReliableStatus → Type 0
Fits s st = SentHere s st × SentBy s.time st

-- a change by number gives a packet the new status or leaves its own
pub change-at : (P : SentReliableStatus → Type 0) (n : ℕ) (change : SentReliableStatus → SentReliableStatus) (p : SentReliable) → P p.status → P (change p.status)
    → P (change_at n change p)
change-at P n change p old new = cases (eqb p.seq.0 n) (λ t. simp t new) (λ t. simp t old)

-- a change of what is Sent over a slot leaves every other status ..
pub record OnSlot (slot : ℕ) (change : SentReliableStatus → SentReliableStatus) (new : InFlight → SentReliableStatus) : Type 0 where
  pub sent : (flight : InFlight) → change (Sent flight) ≡ cond (eqb flight.slot slot) (new flight) (Sent flight)
  pub received : change Received ≡ Received
  pub queued : (link : ℕ) → change (ResendQueued link) ≡ ResendQueued link

module _ {slot : ℕ} {change : SentReliableStatus → SentReliableStatus} {new : InFlight → SentReliableStatus} (on : OnSlot slot change new) where
  pub slot-by : (P : SentReliableStatus → SentReliableStatus → Type 0) → ((st : SentReliableStatus) → Elsewhere slot st → P st st)
      → ((flight : InFlight) → flight.slot ≡ slot → P (Sent flight) (new flight)) → (st : SentReliableStatus) → P st (change st)
  slot-by P same moved (Sent flight) =
      rw (on.sent flight) (cases (eqb flight.slot slot) (λ t. simp t (moved flight (eqb-true _ _ t))) (λ t. simp t (same (Sent flight) (eqb-false _ _ t))))
  slot-by P same moved Received = rw on.received (same Received tt)
  slot-by P same moved (ResendQueued link) = rw (on.queued link) (same (ResendQueued link) tt)

  -- .. and a sum where it leaves the weights
  pub slot-sum : (k : Pick) → ((len : ℕ) (flight : InFlight) → flight.slot ≡ slot → weight_as k (new flight) len ≡ weight_as k (Sent flight) len) → (ps : List SentReliable)
      → sum_of k (map (restatused change) ps) ≡ sum_of k ps
  slot-sum k same ps =
      sum-mapped (restatused change) k (λ p. slot-by (λ st new. weight_as k new p.len ≡ weight_as k st p.len) (λ st e. refl) (same p.len) p.status) ps

-- the packets with other statuses, and without the first ones
module _ (s t : State) (good : Good s) (change : SentReliable → SentReliableStatus) (gone : ℕ)
    (now : packets t.tx ≡ drop gone (map (restated change) (packets s.tx))) (within : gone ≤ length (packets s.tx))
    (next : t.tx.tx_seq ≡ s.tx.tx_seq) where
  -- as many go as are dropped ..
  counts : s.tx.txed_count ≡ gone + t.tx.txed_count
  counts =
      let ms = map (restated change) (packets s.tx) in
      omega (arith, packets-count s.tx, packets-count t.tx, ap length now, length-drop gone ms, map-length (restated change) (packets s.tx))

  -- .. each packet that is left was that many places further on ..
  was : (i : ℕ) → i < t.tx.txed_count → packet_at t i ≡ restated change (packet_at s (gone + i))
  was i h =
      ap (λ qs. get_or qs i no_packet) now ∙ get_or-drop gone (map (restated change) (packets s.tx)) i no_packet
      ∙ map_at (restated change) no_packet (packets s.tx) (gone + i) (omega (arith, counts, packets-count s.tx))

  -- .. the first number moves on by them ..
  first : first_of t.tx ≡ plus (first_of s.tx) gone
  first =
      let off : s.tx.txed_count - t.tx.txed_count ≡ gone = omega (arith, counts) in
      ap (λ (n : Seq). minus n.0 t.tx.txed_count) next
      ∙ number_past s.tx.tx_seq.0 s.tx.txed_count t.tx.txed_count good.sound.packet-count (omega (arith, counts))
      ∙ ap (plus (first_of s.tx)) off

  -- .. and so each is as Sound asks, with the queue and the totals that the call shows
  pub changed-sending : ((p : SentReliable) → Fits s p.status → Fits t (change p)) → (gone < s.tx.txed_count → is_received (change (packet_at s gone)) ≡ false)
      → queue t.tx ≡ queued_of (packets t.tx) → t.tx.resend_count ≤ PACKETS
      → t.tx.txed_unacked ≡ sum_of Outstanding (packets t.tx) → t.tx.txed_unconsumable ≡ sum_of Settled (packets t.tx) → SendingSound t
  changed-sending fits stays lists room unacked unconsumable = record {
    each = λ i h.
        let inside : gone + i < s.tx.txed_count = omega (arith, counts) in
        let new = fits (packet_at s (gone + i)) (good.sound.sent (gone + i) inside, good.sound.sent-by (gone + i) inside) in
        rw (was i h) (record {
          number = good.sound.consecutive (gone + i) inside ∙ ap seq_of (sym (plus-plus (first_of s.tx) gone i) ∙ ap (λ n. plus n i) (sym first));
          fits = good.sound.packet-length (gone + i) inside;
          here = new.0;
          timed = new.1;
        });
    first = λ h.
        let same : gone + 0 ≡ gone = omega arith in
        ap (λ p. is_received p.status) (was 0 h) ∙ ap (λ k. is_received (change (packet_at s k))) same ∙ stays (omega (arith, counts));
    queued = lists;
    unacked = unacked;
    unconsumable = unconsumable;
    packet-count = omega (arith, counts, good.sound.packet-count);
    queue-count = room;
  }

-- ---- the slot's row keeps the link

-- a packet that named a live slot still does
pub still : (s t : State) → Good s → (slot : ℕ) → AtTime s slot t.time → (row : LinkRow) → t.links ≡ set s.links slot row → row.live ≡ (row_at s slot).live
    → row.link_id ≡ (row_at s slot).link_id → (st : SentReliableStatus) → Fits s st → Fits t st
still s t good slot ok row links live id st f =
    (here-same s t slot row links (omega (arith, good.shaped.links-full, ok.at.small)) live id st f.0, sent-later st s.time t.time ok.later f.1)

-- a packet is Sent over the link now: its bytes join the link's, and the row may have another mark
module _ (s t : State) (good : Good s) (slot : ℕ) (ok : AtTime s slot t.time) (m : LinkRow) (like : Like m (row_of s slot)) (len : ℕ) (again : Bool) where
  abbrev row : LinkRow
  row = with_unacked m ((row_of s slot).txed_unacked_data + len)

  abbrev status : SentReliableStatus
  status = Sent (new_flight t.time slot (row_of s slot).link_id again)

  pub over-good : t.links ≡ set s.links slot row → SameAcks row (row_of s slot)
      → ((j : ℕ) → sum_of (SentOn j) (packets t.tx) ≡ sum_of (SentOn j) (packets s.tx) + weight_as (SentOn j) status len)
      → (((st : SentReliableStatus) → Fits s st → Fits t st) → Fits t status → SendingSound t) → Sized t.tx → Told s t → Good t
  over-good links acks sums sending sized told =
      let own = row-of s slot ok.at.small in
      let live : row.live ≡ (row_at s slot).live = bytes-live m _ ∙ like.live ∙ ap (λ x. x.live) own in
      let id : row.link_id ≡ (row_of s slot).link_id = bytes-id m _ ∙ like.id in
      let here : row_at t slot ≡ row = rw links (row_here s.links slot row (omega (arith, good.shaped.links-full, ok.at.small))) in
      let mine : cond (eqb slot slot) len 0 ≡ len = simp (eq-eqb slot slot refl) in
      let none : (j : ℕ) → (j ≡ slot → ⊥) → cond (eqb slot j) len 0 ≡ 0 = λ j ne. simp (ne_eqb slot j (λ e. ne (sym e))) in
      let old = row-later _ _ s.time t.time ok.later (rows_of s good.sound slot ok.at.small ok.at.live) in
      after-good s t slot row good ok (record {
        sending = sending (still s t good slot ok row links live (id ∙ ap (λ x. x.link_id) own))
            ((ok.at.small, ap (λ x. x.live) here ∙ live ∙ ok.at.live, ap (λ x. x.link_id) here ∙ id), (omega arith, tt));
        links = links;
        full = same_full s slot good.shaped row acks;
        who = λ l. id ∙ ap (λ x. x.link_id) own;
        fine = λ l. bytes-fine m (sum_of (SentOn slot) (packets s.tx)) _ (sum_of (SentOn slot) (packets t.tx)) t.time
            (omega (arith, sums slot, mine, old.sums, ap (λ x. x.txed_unacked_data) own)) (like-fine m (row_of s slot) _ t.time like (rw own old));
        others = λ j ne. omega (arith, sums j, none j ne);
        sized = sized;
        received = told;
      })
