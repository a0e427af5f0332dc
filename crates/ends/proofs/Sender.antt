-- Whatever a call at a does, the invariant of what a sends to b is kept. Assumes nothing.
use Rattle.std.specs.Prelude.{◌≡◌, true, ◌⊎◌, eqb, get_or, take, drop, Ok, Result}
use Rattle.refusal.specs.declared.Refusal.{Refusal}
use Rattle.std.proofs.Math.Path.{refl, sym, ap, subst}
use Rattle.std.proofs.Common.{◌∙◌, inl, inr, arith, eqb-true}
use mathlib.Core.List.Memᴰ
use mathlib.Core.List.{List, [], ◌∷◌, ◌++◌, map, Memᴰ}
use Prim.Native.Nat.{ℕ, ◌+◌, ◌-◌, ◌^◌, ◌≤◌, ◌<◌}
use Rattle.std.proofs.Math.Decide.{ℕ_discrete}
use Rattle.std.proofs.Math.ListN.{length}
use Rattle.std.proofs.lemmas.List.{take-append-le}
use borrow.Table.Steps.{cases}
use Rattle.seq.specs.declared.Seq.{Seq}
use Rattle.seq.specs.Numbers.{plus}
use Rattle.seq.specs.Laws.{plus-lt, minus-ahead}
use Rattle.refusal.specs.Tests.{false-true}
use Rattle.engine.specs.declared.state.SentReliableStatus.{SentReliableStatus}
use Rattle.engine.specs.declared.state.SentReliableStatus.TheVariants as statuses
use Rattle.engine.specs.declared.state.SentReliable.{SentReliable}
use Rattle.engine.specs.declared.state.Sending.{Sending}
use Rattle.engine.specs.declared.state.State.{State}
use Rattle.engine.specs.Packets.{no_packet, packets, is_received}
use Rattle.engine.specs.Records.{is_full}
use Rattle.engine.specs.Received.{table_of, expected_at, cell_of}
use Rattle.engine.specs.Queue.{requeued}
use Rattle.engine.specs.Rows.{row_of}
use Rattle.engine.specs.Stores.{cell_start, copied}
use Rattle.engine.specs.Table.{in_table, place, looked_at}
use Rattle.engine.specs.InTable.{Placed, placed, looked-number}
use Rattle.engine.specs.Sending.{sent_tx, sent_state, sent_by, send_of, SendPassed}
use Rattle.engine.specs.Resending.{resent_state, resent_by, resend_of, ResendPassed}
use Rattle.engine.specs.Acking.{settled, received_tx, settled_tx_as, swept_tx, acked_tx, acked_state}
use Rattle.engine.specs.Sizes.{PACKETS, DATA_BYTES}
use Rattle.laws.specs.Good.{Good}
use Rattle.laws.specs.Calls as calls
use Rattle.laws.specs.Calls.{Holding, next, done}
use Rattle.laws.specs.Passed.{next-keeps, answer_keeps, passed}
use Rattle.laws.specs.PacketsKept.{packets-count}
use Rattle.laws.specs.PacketEffects.{restated, change_at, sent-packets, acked-packets, sweeps}
use Rattle.engine.specs.CellCount.{cell-count}
use Rattle.engine.specs.Sound.{SoundRecords}
use Rattle.laws.specs.CellEffects.{table-of}
use Rattle.ends.specs.World.{Msg, Packet, World, holds, written, newest, TimelyAck, given_by, put_by, send_at, put_again_by, resend_at, receive_at, take_at, take_ack_at, Call, Other, Send, Resend, Receive, Acked, Take, TakeAck}
use Rattle.ends.specs.Demand.{handed, Labelled}
use Rattle.ends.specs.Inv.{at, Carries, TxI, HasAt, way, Inv}
use Rattle.ends.specs.TxSteps.{longer, at_old, at_new, tx-restated, tx-dropped, tx-sent}
use Rattle.ends.specs.RxSteps.{rx-grown, rx-ahead, rx-number}
use Rattle.ends.specs.Left.{TxLeft, tx-same, other-left, resent-left, received-tx, taken-tx, took-ack-tx}

-- ---- numbers

-- two counts less than 2^32 apart have numbers of their own
pub plus-apart : (s a b : ℕ) → a < b + 2 ^ 32 → b < a + 2 ^ 32 → plus s a ≡ plus s b → a ≡ b
unfolding plus
plus-apart s a b l u e = omega arith

-- the newest message of a number, where it is among the last 64
pub newest-of : (s given j : ℕ) → j < given → given ≤ j + PACKETS → newest s given (plus s j) ≡ j
newest-of s given j l u = omega (arith, minus-ahead s given j (omega arith) (omega arith))

-- an ack moves no next number
acked-next : (s : State) (slot a : ℕ) → (acked_tx s slot a).tx_seq ≡ s.tx.tx_seq
unfolding acked_tx settled_tx_as received_tx requeued
acked-next s slot a = cases (in_table s.tx a) (λ t. simp t (by (looked_at s.tx a).status s.tx (looked_at s.tx a))) (λ t. simp t)
  where
    by : (st : SentReliableStatus) (tx : Sending) (p : SentReliable) → (settled_tx_as st tx slot a p).tx_seq ≡ tx.tx_seq
    by (statuses.Sent flight) tx p = cases (eqb flight.slot slot) (λ t. simp t) (λ t. simp t)
    by statuses.Received tx p = refl
    by (statuses.ResendQueued link) tx p = refl

module _ (W : World) (i : Inv (way W)) (good : Good W.a.state) where
  abbrev h : Holding
  h = holds W.a

  abbrev G : List Msg
  G = W.a.given

  abbrev S : State
  S = W.a.state

  abbrev ps : List SentReliable
  ps = packets W.a.state.tx

  -- the world with what a call left of a
  abbrev then : Holding → World
  then k = written W k W.a.given W.a.out W.a.accepted W.ab.msgs W.ab.acks

  with-tx : (k : Holding) → TxI W.start G k.state.tx.tx_seq.0 (packets k.state.tx) k.sent i.e (HasAt W.b.state.rx.cells (way W) i.e i.o) → Inv (way (then k))
  with-tx k txi = record { e = i.e; o = i.o; small = i.small; txi = txi; rxi = i.rxi; links = i.links; out-is = i.out-is; acked = i.acked; waits = i.waits }

  -- statuses change, and no more is Received
  still-tx : (k : Holding) → TxLeft h k → TxI W.start G k.state.tx.tx_seq.0 (packets k.state.tx) k.sent i.e (HasAt W.b.state.rx.cells (way W) i.e i.o)
  still-tx k l =
      subst (λ (t : ℕ × List SentReliable × List ℕ). TxI W.start G t.0 t.1 t.2 i.e (HasAt W.b.state.rx.cells (way W) i.e i.o))
      (λ d. ((sym l.next-same d).0, sym l.restates.is d, sym l.sent-same d))
      (tx-restated W.start G _ ps W.a.sent i.e _ i.txi l.restates.change (λ k j in-ps q r. (i.txi.each k j in-ps q).received (sym (l.restates.same k in-ps) ∙ r)))

  pub still : (k : Holding) → TxLeft h k → Inv (way (then k))
  still k l = with-tx k (still-tx k l)

  -- ---- Send

  abbrev sent-world : Result Seq Refusal → Msg → Holding → World
  sent-world answer m k = written W k (given_by answer G m) W.a.out W.a.accepted (put_by answer W.ab.msgs (length G) m) W.ab.acks

  -- what was accepted was given
  has-inside : (j : ℕ) → HasAt W.b.state.rx.cells (way W) i.e i.o j → j < length G
  has-inside j (inl l) = omega (arith, i.rxi.en)
  has-inside j (inr x) = (i.rxi.held j (omega (arith, i.rxi.oe, x.0)) x.1 x.2).0

  send-inv : (slot time : ℕ) (m : Msg) → SendPassed S (length W.a.sent) slot time m.kind (length m.bytes)
      → Inv (way (sent-world (Ok S.tx.tx_seq) m (done (calls.Send slot time m.kind m.bytes) h)))
  unfolding sent_state sent_tx
  send-inv slot time m ok = record {
    e = i.e;
    o = i.o;
    small = λ j l. short j l (ℕ_discrete j (length G));
    txi = subst (λ (qs : List SentReliable). TxI W.start (G ++ (m ∷ [])) (plus S.tx.tx_seq.0 1) qs (copied W.a.sent (cell_start PACKETS S.tx.tx_seq.0) m.bytes) i.e (HasAt W.b.state.rx.cells (way W) i.e i.o))
        (sym (sent-packets S good slot (row_of S slot).link_id time m.kind (length m.bytes) ok.room.places))
        (tx-sent W.start G S.tx.tx_seq.0 ps W.a.sent i.e _ i.txi m _ i.small (omega (arith, packets-count S.tx, ok.room.places)) ok.short refl refl refl refl);
    rxi = rx-grown G m i.rxi;
    links = record {
      put = λ p x. down p (Memᴰ.cases_cons x);
      taken = λ p x. let old = i.links.taken p x in (older p old.0, old.1);
      had = λ j l x.
          let lt = has-inside j x in
          let old = i.links.had j lt x in
          (old.0, old.1, old.2, old.3 ∙ sym (at_old G m j lt));
    };
    out-is = i.out-is ∙ ap handed (sym (take-append-le i.o G (m ∷ []) (omega (arith, i.rxi.en, i.rxi.oe))));
    acked = i.acked;
    waits = i.waits;
  }
    where
      short : (j : ℕ) → j < length (G ++ (m ∷ [])) → Dec (j ≡ length G) → length (at (G ++ (m ∷ [])) j).bytes ≤ DATA_BYTES
      short j l (yes y) = rw (at_new G m j y) ok.short
      short j l (no y) = let lt : j < length G = omega (arith, longer G m) in rw (at_old G m j lt) (i.small j lt)

      older : (p : Packet) → Labelled W.start G p → Labelled W.start (G ++ (m ∷ [])) p
      older p x = record { inside = omega (arith, x.inside, longer G m); number_is = x.number_is; msg-is = x.msg-is ∙ sym (at_old G m p.index x.inside) }

      down : (p : Packet) → (p ≡ record { index = length G; number = S.tx.tx_seq.0; msg = m }) ⊎ Memᴰ p W.ab.msgs → Labelled W.start (G ++ (m ∷ [])) p
      down p (inl z) = rw z (record { inside = omega (arith, longer G m); number_is = i.txi.next-is; msg-is = sym (at_new G m (length G) refl) })
      down p (inr x) = older p (i.links.put p x)

  -- ---- Resend

  resend-inv : (slot time n : ℕ) → n < 2 ^ 32 → ResendPassed S slot time n
      → Inv (way (written W (done (calls.Resend slot time n) h) G W.a.out W.a.accepted (put_again_by (Ok ((looked_at S.tx n).msg, (looked_at S.tx n).len)) W n) W.ab.acks))
  unfolding looked_at place
  resend-inv slot time n number ok = record {
    e = i.e;
    o = i.o;
    small = i.small;
    txi = still-tx (done (calls.Resend slot time n) h) (resent-left h good slot time n number ok).tx;
    rxi = i.rxi;
    links = record { put = λ p x. down p (Memᴰ.cases_cons x); taken = i.links.taken; had = i.links.had };
    out-is = i.out-is;
    acked = i.acked;
    waits = i.waits;
  }
    where
      -- the packet that is resent carries message j
      k : ℕ
      k = place S.tx n

      j : ℕ
      j = length G - length ps + k

      spot : Placed S.tx n
      spot = placed S.tx n good.shaped.next-u32 number good.sound.packet-count ok.held

      inside : k < length ps
      inside = omega (arith, spot.back_low, spot.back-high, packets-count S.tx)

      carried : Carries W.start W.a.sent (HasAt W.b.state.rx.cells (way W) i.e i.o) j (get_or ps k no_packet) (at G j)
      carried = i.txi.each k j inside (omega (arith, i.txi.within))

      n-is : n ≡ plus W.start j
      n-is = sym (ap (λ (q : Seq). q.0) (looked-number S good.shaped good.sound n number ok.held)) ∙ carried.number_is

      index_is : newest W.start (length G) n ≡ j
      index_is = ap (newest W.start (length G)) n-is ∙ newest-of W.start (length G) j (omega (arith, inside, i.txi.within)) (omega (arith, i.txi.room, i.txi.within))

      bytes-is : take (looked_at S.tx n).len (drop (cell_start PACKETS n) W.a.sent) ≡ (at G j).bytes
      bytes-is =
          ap (λ l. take l (drop (cell_start PACKETS n) W.a.sent)) carried.len_is
          ∙ ap (λ x. take (length (at G j).bytes) (drop (cell_start PACKETS x) W.a.sent)) n-is ∙ carried.bytes-is

      down : (p : Packet)
          → (p ≡ record { index = newest W.start (length G) n; number = n; msg = record { kind = (looked_at S.tx n).msg; bytes = take (looked_at S.tx n).len (drop (cell_start PACKETS n) W.a.sent) } })
          ⊎ Memᴰ p W.ab.msgs → Labelled W.start G p
      down p (inl z) = rw z (record {
        inside = rw index_is (omega (arith, inside, i.txi.within));
        number_is = n-is ∙ ap (plus W.start) (sym index_is);
        msg-is = (λ d. record { kind = carried.kind-is d; bytes = bytes-is d }) ∙ ap (at G) (sym index_is);
      })
      down p (inr x) = i.links.put p x

  -- ---- Ack

  ack-inv : Good W.b.state → SoundRecords (calls.table (holds W.b)) → (slot time n : ℕ) → TimelyAck n W.a W.b → n < 2 ^ 32 → Inv (way (then (done (calls.Ack slot time n) h)))
  unfolding acked_state swept_tx
  ack-inv other recorded slot time n timely number =
      let change = change_at n (settled slot) in
      let qs = map (restated change) ps in
      let one : TxI W.start G S.tx.tx_seq.0 qs W.a.sent i.e H = tx-restated W.start G _ ps W.a.sent i.e H i.txi change had in
      let sw = sweeps qs in
      let two = tx-dropped W.start G _ qs W.a.sent i.e H one sw.gone sw.within sw.dropped lacks in
      with-tx (done (calls.Ack slot time n) h)
      (subst (λ (t : ℕ × List SentReliable). TxI W.start G t.0 t.1 W.a.sent i.e H)
      (λ d. ((sym (acked-next S slot n) d).0, sym (acked-packets S good slot time n number ∙ sw.left) d)) two)
    where
      H : ℕ → Type 0
      H = HasAt W.b.state.rx.cells (way W) i.e i.o

      -- who is Received then was so before, or has the number of a message that was accepted: its own, since that isn't late
      had : (k j : ℕ) → k < length ps → j + length ps ≡ length G + k → is_received (change_at n (settled slot) (get_or ps k no_packet)) ≡ true → H j
      had k j l q r =
          let c = i.txi.each k j l q in
          let m = timely.acked.message in
          let was = i.links.taken m timely.acked.member in
          cases (eqb (get_or ps k no_packet).seq.0 n)
          (λ t.
          let number : plus W.start j ≡ plus W.start m.index = sym c.number_is ∙ eqb-true _ n t ∙ sym timely.acked.numbered ∙ was.0.number_is in
          let same : m.index ≡ j =
          plus-apart W.start m.index j (omega (arith, was.0.inside, q, i.txi.room)) (omega (arith, timely.timely, q)) (sym number) in
          subst H same was.1)
          (λ t. c.received (simp t at r))

      -- the next expected message isn't there
      lacks : H i.e → ⊥
      lacks (inl l) = omega arith
      lacks (inr x) =
          let rx = W.b.state.rx in
          let table = table-of W.b.state other W.b.records recorded in
          let ahead : expected_at rx ≡ i.e - i.o = rx-ahead i.rxi (cell-count rx.cells other.sound.cell-count).few in
          let q : i.o + (i.e - i.o) ≡ i.e = omega (arith, i.rxi.oe) in
          let number : plus rx.rx_oldest.0 (expected_at rx) ≡ plus W.start i.e =
          ap (plus rx.rx_oldest.0) ahead ∙ rx-number i.rxi (i.e - i.o) ∙ ap (plus W.start) q in
          false-true (sym (ap is_full (sym (ap (cell_of rx.cells (table_of rx W.b.records)) number) ∙ table.held)) ∙ x.2)

  -- an ack's number is that of an accepted message
  pub ack-small : {n : ℕ} → TimelyAck n W.a W.b → n < 2 ^ 32
  ack-small timely =
      let was = (i.links.taken timely.acked.message timely.acked.member).0 in
      omega (arith, timely.acked.numbered, was.number_is, plus-lt W.start timely.acked.message.index)

  -- ---- every call

  pub sender : Good W.b.state → SoundRecords (calls.table (holds W.b)) → {X : World} → Call W X → Inv (way X)
  unfolding send_at send_of resend_at resend_of receive_at take_at take_ack_at
  sender other recorded (Other c u typed) = still (next c h) (other-left h good c u typed).tx
  sender other recorded (Send slot time m) =
      let c = calls.Send slot time m.kind m.bytes in
      answer_keeps c h (λ v. (sent_by v S (sent_state S slot time m.kind (length m.bytes))).answer) (λ a k. Inv (way (sent-world a m k)))
      (λ e. send-inv slot time m (passed c h tt good e)) (λ r. i)
  sender other recorded (Resend slot time n number) =
      let c = calls.Resend slot time n in
      answer_keeps c h (λ v. (resent_by v S n (resent_state S slot time n)).answer) (λ a k. Inv (way (written W k G W.a.out W.a.accepted (put_again_by a W n) W.ab.acks)))
      (λ e. resend-inv slot time n number (passed c h number good e)) (λ r. i)
  sender other recorded (Receive slot p brought timely) =
      let c = calls.Receive slot p.msg.kind p.number p.msg.bytes in
      still (next c h) (next-keeps c h (TxLeft h) (tx-same h) (λ e. received-tx h good slot p.msg.kind p.number p.msg.bytes))
  sender other recorded (Acked slot time n brought timely) = next-keeps (calls.Ack slot time n) h (λ k. Inv (way (then k))) i (λ e. ack-inv other recorded slot time n timely (ack-small timely))
  sender other recorded Take = still (next calls.Take h) (next-keeps calls.Take h (TxLeft h) (tx-same h) (λ e. taken-tx h good))
  sender other recorded (TakeAck slot) = still (next (calls.TakeAck slot) h) (next-keeps (calls.TakeAck slot) h (TxLeft h) (tx-same h) (λ e. took-ack-tx h good slot))
