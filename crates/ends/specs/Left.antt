-- What a call leaves of what demand 3 speaks of. Most calls change statuses of packets and no more; none but Receive adds a waiting ack. And every call of the
-- list is one of the world's. Assumes nothing.
use Rattle.std.specs.Prelude.{◌≡◌, Bool, true, cond, ℕ, ◌+◌, ◌%◌, ◌^◌, ◌<◌, eqb, ltb, set, Some, None, Ok}
use Rattle.engine.specs.Held.{Held}
use Rattle.std.proofs.Math.Path.{refl, ap}
use Rattle.std.proofs.Common.{sym, subst, ◌∙◌, arith, get_or-set_same, set-set, eqb-true, lt-ltb}
use Rattle.std.proofs.Math.Bool.{false}
use mathlib.Core.List.Memᴰ
use mathlib.Core.List.{List, [], ◌∷◌, map, Memᴰ}
use Rattle.std.proofs.Math.Decide.{ℕ_discrete}
use Rattle.std.proofs.Math.ListN.{length, get_or}
use Rattle.std.proofs.Math.Seq.{get_or-set_other}
use borrow.Table.Steps.{cases}
use Rattle.seq.specs.declared.Seq.{Seq}
use Rattle.seq.specs.Distance.{past}
use Rattle.msg.specs.declared.reliable.ReliableMsg.{ReliableMsg}
use Rattle.refusal.specs.Tests.{false-true}
use Rattle.link.specs.declared.row.LinkRow.{LinkRow}
use Rattle.link.specs.Row.{empty_row, no_row, fresh_row, confirmed, blocked_row, unconfirmed_row, with_unacked}
use Rattle.link.specs.Limit.{marked_row, mark_resent}
use Rattle.link.specs.Roundtrip.{pinged, ponged}
use Rattle.link.specs.Acks.{waiting, ack_taken}
use Rattle.engine.specs.declared.state.SentReliableStatus.{SentReliableStatus}
use Rattle.engine.specs.declared.state.SentReliableStatus.TheVariants.{Sent, Received, ResendQueued}
use Rattle.engine.specs.declared.state.SentReliable.{SentReliable}
use Rattle.engine.specs.Records.{held_of}
use Rattle.engine.specs.declared.state.State.{State}
use Rattle.engine.specs.Packets.{no_packet, packets, is_received, is_queued}
use Rattle.engine.specs.Sound.{packet_at}
use Rattle.engine.specs.Received.{held_at, is_used, cell_of}
use Rattle.engine.specs.Queue.{requeued}
use Rattle.engine.specs.Table.{place, looked_at, with_packet, with_table}
use Rattle.engine.specs.Rows.{row_of}
use Rattle.engine.specs.Links.{lowest_in}
use Rattle.engine.specs.Unconfirming.{unconfirmed, unconfirmed_state, removed_state}
use Rattle.engine.specs.Flushing.{flushed, flushed_state}
use Rattle.engine.specs.Sending.{told_rx, sent_state}
use Rattle.engine.specs.InTable.{packet-back}
use Rattle.engine.specs.Resending.{resent_state, ResendPassed}
use Rattle.engine.specs.Acking.{acked_row, acked_state}
use Rattle.engine.specs.Receiving.{effect_tx, repeated_state, effect_state, received_state}
use Rattle.engine.specs.HandingOut.{taken_state, taken_ack_state}
use Rattle.engine.specs.Fields.{with_row, with_time, with_reader}
use Rattle.engine.specs.Sizes.{SLOTS}
use Rattle.laws.specs.Good.{Good}
use Rattle.laws.specs.Calls as calls
use Rattle.laws.specs.Calls.{Holding, with_state, next, done, verdict}
use Rattle.laws.specs.Passed.{next-keeps, passed}
use Rattle.laws.specs.PacketsKept.{packets-count}
use Rattle.laws.specs.PacketEffects.{restated, change_at, resent_status, unconfirmed-packets, flushed-packets, resent-packets}
use Rattle.ends.specs.World.{Msg, Packet, World, holds, called, send_at, resend_at, receive_at, take_at, take_ack_at, Brought, BroughtAck, Timely, TimelyAck, Call, Other, Send, Resend, Receive, Acked, Take, TakeAck}
use Rattle.laws.specs.RowAcks.{SameAcks, confirm-acks, block-acks, mark-acks, ping-acks, pong-acks, unconfirm-acks, unacked-acks, resent-acks, acked-acks}

-- every packet stays, with another status perhaps, and no other is Received
pub record Restated (ps ps' : List SentReliable) : Type 0 where
  pub change : SentReliable → SentReliableStatus
  pub is : ps' ≡ map (restated change) ps
  pub same : (i : ℕ) → i < length ps → is_received (change (get_or ps i no_packet)) ≡ is_received (get_or ps i no_packet).status

-- h became k: of the sending half ..
pub record TxLeft (h k : Holding) : Type 0 where
  pub next-same : k.state.tx.tx_seq ≡ h.state.tx.tx_seq
  pub sent-same : k.sent ≡ h.sent
  pub restates : Restated (packets h.state.tx) (packets k.state.tx)

-- .. of the receiving half ..
pub record RxLeft (h k : Holding) : Type 0 where
  pub seq-same : k.state.rx.rx_seq ≡ h.state.rx.rx_seq
  pub oldest-same : k.state.rx.rx_oldest ≡ h.state.rx.rx_oldest
  pub end_same : k.state.rx.rx_end ≡ h.state.rx.rx_end
  pub count_same : k.state.rx.cells ≡ h.state.rx.cells
  pub records-same : k.records ≡ h.records
  pub received-same : k.received ≡ h.received

-- .. and of the acks that wait
abbrev pub AcksLeft : Holding → Holding → Type 0
AcksLeft h k = (slot : ℕ) (seq : Seq) → Memᴰ seq (waiting (row_of k.state slot)) → Memᴰ seq (waiting (row_of h.state slot))

pub record Left (h k : Holding) : Type 0 where
  pub tx : TxLeft h k
  pub rx : RxLeft h k
  pub acks : AcksLeft h k

-- whatever is so of the receiving half stays so
pub rx-kept : (h k : Holding) → RxLeft h k → (P : ℕ → ℕ → ℕ → (ℕ → Held) → List ℕ → Type 0)
    → P h.state.rx.cells h.state.rx.rx_seq.0 h.state.rx.rx_oldest.0 (cell_of h.state.rx.cells (calls.table h)) h.received
    → P k.state.rx.cells k.state.rx.rx_seq.0 k.state.rx.rx_oldest.0 (cell_of k.state.rx.cells (calls.table k)) k.received
unfolding cell_of is_used held_at
rx-kept h k same P x =
    subst (λ (t : ℕ × ℕ × ℕ × (ℕ → Held) × List ℕ). P t.0 t.1 t.2 t.3 t.4)
    (λ d. (
      sym same.count_same d,
      (sym same.seq-same d).0,
      (sym same.oldest-same d).0,
      λ n. cond (ltb (past n (sym same.oldest-same d).0) (past (sym same.end_same d).0 (sym same.oldest-same d).0))
          (held_of (get_or (sym same.records-same d) (n % sym same.count_same d) 0)) None,
      sym same.received-same d,
    )) x

-- ---- nothing changes

map_same : {A : Type 0} (xs : List A) → map (λ x. x) xs ≡ xs
map_same [] = refl
map_same {A} (x ∷ xs) = ap (λ (l : List A). x ∷ l) (map_same xs)

pub unchanged : (ps : List SentReliable) → Restated ps ps
unchanged ps = record { change = λ p. p.status; is = sym (map_same ps); same = λ i l. refl }

pub tx-same : (h : Holding) → TxLeft h h
tx-same h = record { next-same = refl; sent-same = refl; restates = unchanged (packets h.state.tx) }

-- .. but for whether the reader is open
pub read_left : (h : Holding) (reads : Bool) → Left h (with_state h (with_reader h.state reads))
unfolding row_of
read_left h reads = record {
  tx = record { next-same = refl; sent-same = refl; restates = unchanged (packets h.state.tx) };
  rx = record { seq-same = refl; oldest-same = refl; end_same = refl; count_same = refl; records-same = refl; received-same = refl };
  acks = λ slot seq m. m;
}

pub left-same : (h : Holding) → Left h h
left-same h = read_left h h.state.read_open

-- ---- one row is replaced by one for which no ack waits that didn't

abbrev Fewer : LinkRow → LinkRow → Type 0
Fewer new old = (seq : Seq) → Memᴰ seq (waiting new) → Memᴰ seq (waiting old)

pub same-fewer : (new old : LinkRow) → SameAcks new old → Fewer new old
unfolding waiting
same-fewer new old same seq m = rw (same.queue, same.count) at m

none-fewer : (new old : LinkRow) → waiting new ≡ [] → Fewer new old
none-fewer new old none seq m = absurd (Memᴰ.not-nil (rw none at m))

module _ (s t : State) (slot : ℕ) (row : LinkRow) (eight : length s.links ≡ SLOTS) (small : slot < SLOTS) (at : t.links ≡ set s.links slot row) where
  pub row_new : row_of t slot ≡ row
  unfolding row_of
  row_new = rw (lt-ltb slot SLOTS small, at) (get_or-set_same s.links slot row no_row (omega (arith, eight)))

  pub row_old : (k : ℕ) → (k ≡ slot → ⊥) → row_of t k ≡ row_of s k
  unfolding row_of
  row_old k ne =
      let there : get_or t.links k no_row ≡ get_or s.links k no_row = ap (λ (l : List LinkRow). get_or l k no_row) at ∙ get_or-set_other s.links slot k row no_row ne in
      cases (ltb k SLOTS) (λ y. simp (y, there)) (λ y. simp y)

  pub rows_left : Fewer row (row_of s slot) → (k : ℕ) (seq : Seq) → Memᴰ seq (waiting (row_of t k)) → Memᴰ seq (waiting (row_of s k))
  rows_left fewer k seq m =
      elim (ℕ_discrete k slot) [
        | yes e ↦ rw e (fewer seq (rw (ap (row_of t) e ∙ row_new) at m))
        | no ne ↦ rw (row_old k ne) at m
      ]

-- .. and no more, at some time
pub row-left : (h : Holding) → Good h.state → (slot : ℕ) (row : LinkRow) (time : ℕ) → slot < SLOTS → Fewer row (row_of h.state slot) → Left h (with_state h (with_time (with_row h.state slot row) time))
row-left h good slot row time small fewer = record {
  tx = record { next-same = refl; sent-same = refl; restates = unchanged (packets h.state.tx) };
  rx = record { seq-same = refl; oldest-same = refl; end_same = refl; count_same = refl; records-same = refl; received-same = refl };
  acks = rows_left h.state (with_time (with_row h.state slot row) time) slot row good.shaped.links-full small refl fewer;
}

-- ---- the calls of which nothing is written down

unconfirmed-received : (slot : ℕ) (st : SentReliableStatus) → is_received (unconfirmed slot st) ≡ is_received st
unfolding unconfirmed
unconfirmed-received slot (Sent flight) = cases (eqb flight.slot slot) (λ t. simp t) (λ t. simp t)
unconfirmed-received slot Received = refl
unconfirmed-received slot (ResendQueued link) = refl

flushed-received : (slot time : ℕ) (st : SentReliableStatus) → is_received (flushed slot time st) ≡ is_received st
unfolding flushed
flushed-received slot time (Sent flight) = cases (eqb flight.slot slot) (λ t. simp t) (λ t. simp t)
flushed-received slot time Received = refl
flushed-received slot time (ResendQueued link) = refl

module _ (h : Holding) (good : Good h.state) where
  abbrev s : State
  s = h.state

  unconfirmed-tx : (slot : ℕ) → TxLeft h (with_state h (unconfirmed_state s slot))
  unfolding unconfirmed_state requeued with_table
  unconfirmed-tx slot = record {
    next-same = refl;
    sent-same = refl;
    restates = record {
      change = λ p. unconfirmed slot p.status;
      is = unconfirmed-packets s good slot;
      same = λ i l. unconfirmed-received slot (get_or (packets s.tx) i no_packet).status;
    };
  }

  unconfirmed-left : (slot : ℕ) → slot < SLOTS → Left h (with_state h (unconfirmed_state s slot))
  unfolding unconfirmed_state requeued
  unconfirmed-left slot small = record {
    tx = unconfirmed-tx slot;
    rx = record { seq-same = refl; oldest-same = refl; end_same = refl; count_same = refl; records-same = refl; received-same = refl };
    acks = rows_left s (unconfirmed_state s slot) slot (unconfirmed_row (row_of s slot)) good.shaped.links-full small refl (same-fewer _ _ (unconfirm-acks (row_of s slot)));
  }

  removed-left : (slot : ℕ) → slot < SLOTS → Left h (with_state h (removed_state s slot))
  unfolding removed_state unconfirmed_state requeued with_table waiting empty_row
  removed-left slot small =
      let tx = unconfirmed-tx slot in
      record {
        tx = record { next-same = tx.next-same; sent-same = tx.sent-same; restates = tx.restates };
        rx = record { seq-same = refl; oldest-same = refl; end_same = refl; count_same = refl; records-same = refl; received-same = refl };
        acks = rows_left s (removed_state s slot) slot empty_row good.shaped.links-full small (set-set s.links slot (unconfirmed_row (row_of s slot)) empty_row)
            (none-fewer empty_row (row_of s slot) refl);
      }

  flushed-left : (slot time : ℕ) → Left h (with_state h (flushed_state s slot time))
  unfolding flushed_state with_table row_of
  flushed-left slot time = record {
    tx = record {
      next-same = refl;
      sent-same = refl;
      restates = record {
        change = λ p. flushed slot time p.status;
        is = flushed-packets s good slot time;
        same = λ i l. flushed-received slot time (get_or (packets s.tx) i no_packet).status;
      };
    };
    rx = record { seq-same = refl; oldest-same = refl; end_same = refl; count_same = refl; records-same = refl; received-same = refl };
    acks = λ k seq m. m;
  }

  -- ---- the calls of which something is: what they leave besides

  -- a packet's number is the table's at its place
  pub number-place : (i n : ℕ) → i < s.tx.txed_count → (packet_at s i).seq.0 ≡ n → place s.tx n ≡ i
  unfolding place
  number-place i n l e =
      omega (arith, ap (past s.tx.tx_seq.0) (sym e) ∙ packet-back s good.shaped good.sound i l)

  -- a packet that is resent was queued, and so not Received
  queued-unreceived : (st : SentReliableStatus) → is_queued st ≡ true → is_received st ≡ false
  queued-unreceived (Sent flight) q = false-true q
  queued-unreceived Received q = false-true q
  queued-unreceived (ResendQueued link) q = refl

  pub resent-left : (slot time n : ℕ) → n < 2 ^ 32 → ResendPassed s slot time n → Left h (with_state h (resent_state s slot time n))
  unfolding resent_state requeued with_packet looked_at
  resent-left slot time n number p = record {
    tx = record {
      next-same = refl;
      sent-same = refl;
      restates = record {
        change = change_at n (resent_status s slot time);
        is = resent-packets s good slot time n number p.held;
        same = λ i l. cases (eqb (packet_at s i).seq.0 n) (λ t. simp t (sym (unreceived i (omega (arith, packets-count s.tx)) (eqb-true _ n t)))) (λ t. simp t);
      };
    };
    rx = record { seq-same = refl; oldest-same = refl; end_same = refl; count_same = refl; records-same = refl; received-same = refl };
    acks = rows_left s (resent_state s slot time n) slot (with_unacked (mark_resent (row_of s slot) n) ((row_of s slot).txed_unacked_data + (looked_at s.tx n).len)) good.shaped.links-full p.timed.at.small refl
        (same-fewer _ _ (resent-acks (row_of s slot) n _));
  }
    where
      unreceived : (i : ℕ) → i < s.tx.txed_count → (packet_at s i).seq.0 ≡ n → is_received (packet_at s i).status ≡ false
      unreceived i l e = queued-unreceived (packet_at s i).status (ap (λ k. is_queued (packet_at s k).status) (sym (number-place i n l e)) ∙ p.queued)

  pub sent-rx : (slot time : ℕ) (msg : ReliableMsg) (bytes : List ℕ) → RxLeft h (done (calls.Send slot time msg bytes) h)
  unfolding sent_state told_rx
  sent-rx slot time msg bytes = record { seq-same = refl; oldest-same = refl; end_same = refl; count_same = refl; records-same = refl; received-same = refl }

  pub sent-acks : (slot time : ℕ) (msg : ReliableMsg) (bytes : List ℕ) → slot < SLOTS → AcksLeft h (done (calls.Send slot time msg bytes) h)
  unfolding sent_state
  sent-acks slot time msg bytes small =
      rows_left s (sent_state s slot time msg (length bytes)) slot (with_unacked (row_of s slot) ((row_of s slot).txed_unacked_data + length bytes)) good.shaped.links-full small refl
      (same-fewer _ _ (unacked-acks (row_of s slot) _))

  pub acked-rx : (slot time n : ℕ) → RxLeft h (done (calls.Ack slot time n) h)
  unfolding acked_state
  acked-rx slot time n = record { seq-same = refl; oldest-same = refl; end_same = refl; count_same = refl; records-same = refl; received-same = refl }

  pub acked-acks-left : (slot time n : ℕ) → slot < SLOTS → AcksLeft h (done (calls.Ack slot time n) h)
  unfolding acked_state
  acked-acks-left slot time n small =
      rows_left s (acked_state s slot time n) slot (acked_row s slot time n) good.shaped.links-full small refl (same-fewer _ _ (acked-acks s slot time n))

  pub received-tx : (slot : ℕ) (msg : ReliableMsg) (n : ℕ) (bytes : List ℕ) → TxLeft h (done (calls.Receive slot msg n bytes) h)
  unfolding repeated_state effect_state received_state effect_tx
  received-tx slot msg n bytes =
      let same = unchanged (packets s.tx) in
      cases (calls.again h n)
      (λ t. simp t (record { next-same = refl; sent-same = refl; restates = same }))
      (λ t. simp t (record { next-same = refl; sent-same = refl; restates = same }))

  pub taken-tx : TxLeft h (done calls.Take h)
  unfolding taken_state
  taken-tx = record { next-same = refl; sent-same = refl; restates = unchanged (packets s.tx) }

  pub took-ack-tx : (slot : ℕ) → TxLeft h (done (calls.TakeAck slot) h)
  unfolding taken_ack_state
  took-ack-tx slot = record { next-same = refl; sent-same = refl; restates = unchanged (packets s.tx) }

  pub took-ack-left : (slot : ℕ) → slot < SLOTS → Fewer (ack_taken (row_of s slot)) (row_of s slot) → Left h (done (calls.TakeAck slot) h)
  unfolding taken_ack_state
  took-ack-left slot small fewer = row-left h good slot (ack_taken (row_of s slot)) s.time small fewer

-- a call of which nothing is written down leaves all of it
module _ (h : Holding) (good : Good h.state) where
  abbrev row : ℕ → LinkRow
  row slot = row_of h.state slot

  if-passed : (c : calls.Call) → (verdict c h ≡ Ok tt → Left h (done c h)) → Left h (next c h)
  if-passed c left = next-keeps c h (Left h) (left-same h) left

  pub other-left : (c : calls.Call) → calls.Unnoted c → calls.Typed c → Left h (next c h)
  unfolding fresh_row waiting
  other-left (calls.Add id roundtrip max blocked unconfirmed) u t =
      let new = fresh_row id roundtrip max blocked unconfirmed in
      let c = calls.Add id roundtrip max blocked unconfirmed in
      if-passed c (λ e. row-left h good (lowest_in h.state) new h.state.time (passed c h t good e).small (none-fewer new (row (lowest_in h.state)) refl))
  other-left (calls.Remove slot) u t = if-passed (calls.Remove slot) (λ e. removed-left h good slot (passed (calls.Remove slot) h t good e).small)
  other-left (calls.Confirm slot) u t =
      if-passed (calls.Confirm slot) (λ e. row-left h good slot (confirmed (row slot)) h.state.time (passed (calls.Confirm slot) h t good e).small (same-fewer _ _ (confirm-acks (row slot))))
  other-left (calls.Unconfirm slot) u t = if-passed (calls.Unconfirm slot) (λ e. unconfirmed-left h good slot (passed (calls.Unconfirm slot) h t good e).small)
  other-left (calls.Block slot blocked) u t =
      if-passed (calls.Block slot blocked)
      (λ e. row-left h good slot (blocked_row (row slot) blocked) h.state.time (passed (calls.Block slot blocked) h t good e).small (same-fewer _ _ (block-acks (row slot) blocked)))
  other-left (calls.Mark slot seq) u t =
      if-passed (calls.Mark slot seq)
      (λ e. row-left h good slot (marked_row (row slot) (Some seq)) h.state.time (passed (calls.Mark slot seq) h t good e).small (same-fewer _ _ (mark-acks (row slot) (Some seq))))
  other-left (calls.Ping slot time) u t =
      if-passed (calls.Ping slot time)
      (λ e. row-left h good slot (pinged (row slot) time) time (passed (calls.Ping slot time) h t good e).at.small (same-fewer _ _ (ping-acks (row slot) time)))
  other-left (calls.Pong slot time) u t =
      if-passed (calls.Pong slot time)
      (λ e. row-left h good slot (ponged (row slot) time) time (passed (calls.Pong slot time) h t good e).at.small (same-fewer _ _ (pong-acks (row slot) (row slot).current_ping_sent time)))
  other-left (calls.Flush slot time) u t = if-passed (calls.Flush slot time) (λ e. flushed-left h good slot time)
  other-left (calls.Send slot time msg bytes) u t = absurd u
  other-left (calls.Resend slot time n) u t = absurd u
  other-left (calls.Ack slot time n) u t = absurd u
  other-left (calls.Receive slot msg n bytes) u t = absurd u
  other-left calls.Show u t = left-same h
  other-left calls.Take u t = absurd u
  other-left calls.Due u t = left-same h
  other-left calls.Close u t = if-passed calls.Close (λ e. read_left h false)
  other-left (calls.TakeAck slot) u t = absurd u
  other-left (calls.EarliestConfirmTimeout timeout unreliable) u t = left-same h

-- ---- "whatever calls are made or refused": each call of the list is one of the world's, Receive and ack where a link brings in time what they are given, and
-- what it leaves is `next`

pub record Made (W : World) (c : calls.Call) : Type 0 where
  pub world : World
  pub call : Call W world
  pub leaves : holds world.a ≡ next c (holds W.a)

module _ (W : World) (c : calls.Call) where
  abbrev pub Arrives : Type 0
  Arrives = (slot : ℕ) (msg : ReliableMsg) (n : ℕ) (bytes : List ℕ) → c ≡ calls.Receive slot msg n bytes
      → (p : Packet) × (c ≡ calls.Receive slot p.msg.kind p.number p.msg.bytes) × Brought p W.ba × Timely p.index W.b

  abbrev pub ArrivesAck : Type 0
  ArrivesAck = (slot time n : ℕ) → c ≡ calls.Ack slot time n → BroughtAck n W.ba × TimelyAck n W.a W.b

  made_by : calls.Unnoted c → calls.Typed c → holds (called W c).a ≡ next c (holds W.a) → Made W c
  made_by u t left = record { world = called W c; call = Other c u t; leaves = left }

  other-made : calls.Unnoted c → calls.Typed c → Made W c
  other-made u t = record { world = called W c; call = Other c u t; leaves = refl }

pub every_call : (W : World) (c : calls.Call) → calls.Typed c → Arrives W c → ArrivesAck W c → Made W c
unfolding send_at resend_at receive_at take_at take_ack_at
every_call W (calls.Add id roundtrip max blocked unconfirmed) t m a = made_by W _ tt t refl
every_call W (calls.Remove slot) t m a = made_by W _ tt t refl
every_call W (calls.Confirm slot) t m a = made_by W _ tt t refl
every_call W (calls.Unconfirm slot) t m a = made_by W _ tt t refl
every_call W (calls.Block slot blocked) t m a = made_by W _ tt t refl
every_call W (calls.Mark slot seq) t m a = made_by W _ tt t refl
every_call W (calls.Ping slot time) t m a = made_by W _ tt t refl
every_call W (calls.Pong slot time) t m a = made_by W _ tt t refl
every_call W (calls.Flush slot time) t m a = made_by W _ tt t refl
every_call W (calls.Send slot time msg bytes) t m a = let p : Msg = record { kind = msg; bytes = bytes } in record { world = send_at W slot time p; call = Send slot time p; leaves = refl }
every_call W (calls.Resend slot time n) t m a = record { world = resend_at W slot time n; call = Resend slot time n t; leaves = refl }
every_call W (calls.Ack slot time n) t m a =
    let b = a slot time n refl in
    record { world = called W (calls.Ack slot time n); call = Acked slot time n b.0 b.1; leaves = refl }
every_call W (calls.Receive slot msg n bytes) t m a =
    let b = m slot msg n bytes refl in
    record { world = receive_at W slot b.0; call = Receive slot b.0 b.2 b.3; leaves = ap (λ c. next c (holds W.a)) (sym b.1) }
every_call W calls.Show t m a = made_by W _ tt t refl
every_call W calls.Take t m a = record { world = take_at W; call = Take; leaves = refl }
every_call W calls.Due t m a = made_by W _ tt t refl
every_call W calls.Close t m a = made_by W _ tt t refl
every_call W (calls.TakeAck slot) t m a = record { world = take_ack_at W slot; call = TakeAck slot; leaves = refl }
every_call W (calls.EarliestConfirmTimeout timeout unreliable) t m a = made_by W _ tt t refl
