-- Demand 3, proved: the statement of Demand holds of the engine's own definitions. Both directions of two ends keep the invariant along any run.
-- Assumes nothing.
use Rattle.std.specs.Prelude.{◌≡◌, refl, Bool, true, false, List, [], ◌++◌, ℕ, ◌+◌, ◌-◌, ◌*◌, ◌^◌, ◌≤◌, ◌<◌, ltb, length, get_or, take, drop, Ok, Err, Result}
use Rattle.refusal.specs.declared.Refusal.{Refusal}
use Rattle.seq.specs.declared.Seq.{Seq}
use Rattle.std.proofs.Common.{sym, ap, subst, ◌∙◌, inl, arith, take-append-drop, eq-eqb, ne_eqb, ltb-true, le-ltb}
use mathlib.Core.List.Memᴰ
use Rattle.std.proofs.Math.Decide.{dec_lt, dec_le}
use Rattle.std.proofs.lemmas.List.{get_or-replicate}
use Rattle.std.proofs.Math.Seq.{take-length}
use borrow.Table.Steps.{cases}
use Rattle.seq.specs.Numbers.{plus}
use Rattle.seq.specs.Distance.{past}
use Rattle.refusal.specs.Refusals.{refuse}
use Rattle.refusal.specs.Verdicts.{Verdict, gate}
use Rattle.refusal.specs.Tests.{false-true}
use Rattle.link.specs.declared.row.LinkRow.{LinkRow}
use Rattle.link.specs.Row.{empty_row, no_row}
use Rattle.link.specs.Acks.{waiting}
use Rattle.engine.specs.declared.state.SentReliable.{SentReliable}
use Rattle.engine.specs.declared.state.Receiving.{Receiving}
use Rattle.engine.specs.declared.state.State.{State}
use Rattle.engine.specs.Answer.{done-passed}
use Rattle.engine.specs.Starting.{fresh_tx, fresh_rx, fresh_state, fresh_verdict, fresh_of, fresh_records}
use Rattle.engine.specs.Packets.{no_packet, packets, is_received}
use Rattle.engine.specs.CellCount.{cell-count}
use Rattle.engine.specs.Records.{is_full}
use Rattle.engine.specs.Received.{RxTable, table_of, expected_at, in_use, held_at, is_used, cell_of, view-held}
use Rattle.engine.specs.DecidedTables.{plus-zero}
use Rattle.engine.specs.Sound.{SoundRecords}
use Rattle.engine.specs.Ring.{window}
use Rattle.engine.specs.Rows.{row_of}
use Rattle.engine.specs.Decide.{sound_withb, sound-true, records-true}
use Rattle.engine.specs.Sending.{send_of}
use Rattle.engine.specs.HandingOut.{ready_of, ready_bytes, hand_out_by, take_verdict, take_of}
use Rattle.engine.specs.Sizes.{SLOTS, DATA_BYTES, SENT_BYTES}
use Rattle.engine.specs.Totals.{fits, MAX_TOTAL}
use Rattle.laws.specs.Good.{Good}
use Rattle.laws.specs.Calls as calls
use Rattle.laws.specs.SoundKept.{kept, fresh-good}
use Rattle.laws.specs.RecordsKept.{records-kept, fresh-recorded}
use Rattle.laws.specs.LinksKept.{fresh-is, fresh-numbers}
use Rattle.laws.specs.PacketsKept.{packets-count}
use Rattle.ends.specs.World.{Msg, End, World, swap, holds, given_by, send_at, resend_at, receive_at, take_at, take_ack_at, Call, Other, Send, Resend, Receive, Acked, Take, TakeAck, Step, at_a, at_b, Run, here, ◌then◌, Fresh, fresh, fresh_end, fresh_world}
use Rattle.ends.specs.Demand.{handed, Safe, Complete, AllOut, Returned, now, earlier, Drains, Pinned, Demand3}
use Rattle.ends.specs.Inv.{way, Inv}
use Rattle.ends.specs.RxSteps.{handed-append, rx-ahead}
use Rattle.ends.specs.TxSteps.{longer}
use Rattle.ends.proofs.Sender.{sender, ack-small, newest-of, plus-apart}
use Rattle.ends.proofs.Receiver.{receiver}
use Rattle.ends.proofs.Drains.{Done, done-step, done-now, status-at, all_done}

-- both directions, and both states with their records
pub record Joined (W : World) : Type 0 where
  pub one : Inv (way W)
  pub two : Inv (way (swap W))
  pub good-a : Good W.a.state
  pub good-b : Good W.b.state
  pub recorded-a : SoundRecords (calls.table (holds W.a))
  pub recorded-b : SoundRecords (calls.table (holds W.b))

pub turned : {W : World} → Joined W → Joined (swap W)
turned j = record { one = j.two; two = j.one; good-a = j.good-b; good-b = j.good-a; recorded-a = j.recorded-b; recorded-b = j.recorded-a }

-- ---- a call at a: a holds `next` of what it held, and b is left alone

call_of : {W X : World} → Call W X → calls.Call
call_of (Other c u typed) = c
call_of (Send slot time m) = calls.Send slot time m.kind m.bytes
call_of (Resend slot time n number) = calls.Resend slot time n
call_of (Receive slot p brought timely) = calls.Receive slot p.msg.kind p.number p.msg.bytes
call_of (Acked slot time n brought timely) = calls.Ack slot time n
call_of Take = calls.Take
call_of (TakeAck slot) = calls.TakeAck slot

record Leaves (W X : World) (c : Call W X) : Type 0 where
  held-is : holds X.a ≡ calls.next (call_of c) (holds W.a)
  other-same : X.b ≡ W.b

leaves : {W X : World} (c : Call W X) → Leaves W X c
unfolding call_of send_at resend_at receive_at take_at take_ack_at
leaves (Other c u typed) = record { held-is = refl; other-same = refl }
leaves (Send slot time m) = record { held-is = refl; other-same = refl }
leaves (Resend slot time n number) = record { held-is = refl; other-same = refl }
leaves (Receive slot p brought timely) = record { held-is = refl; other-same = refl }
leaves (Acked slot time n brought timely) = record { held-is = refl; other-same = refl }
leaves Take = record { held-is = refl; other-same = refl }
leaves (TakeAck slot) = record { held-is = refl; other-same = refl }

-- no message is taken back
given-more : (a : Result Seq Refusal) (given : List Msg) (m : Msg) → length given ≤ length (given_by a given m)
given-more (Ok seq) given m = omega (arith, longer given m)
given-more (Err r) given m = omega arith

call-grows : {W X : World} → Call W X → length W.a.given ≤ length X.a.given
unfolding send_at resend_at receive_at take_at take_ack_at
call-grows (Other c u typed) = omega arith
call-grows {W} (Send slot time m) = given-more (send_of W.a.state (length W.a.sent) slot time m.kind (length m.bytes)).answer W.a.given m
call-grows (Resend slot time n number) = omega arith
call-grows (Receive slot p brought timely) = omega arith
call-grows (Acked slot time n brought timely) = omega arith
call-grows Take = omega arith
call-grows (TakeAck slot) = omega arith

module _ {W : World} (j : Joined W) where
  typed : {X : World} (c : Call W X) → calls.Typed (call_of c)
  unfolding call_of
  typed (Other c u t) = t
  typed (Send slot time m) = tt
  typed (Resend slot time n number) = number
  typed (Receive slot p brought timely) = tt
  typed (Acked slot time n brought timely) = ack-small W j.one j.good-a timely
  typed Take = tt
  typed (TakeAck slot) = tt

  next-a : {X : World} → Call W X → Joined X
  next-a c = record {
    one = sender W j.one j.good-a j.good-b j.recorded-b c;
    two = receiver W j.two j.good-a c;
    good-a = subst (λ (h : calls.Holding). Good h.state) (sym (leaves c).held-is) (kept (call_of c) (holds W.a) (typed c) j.good-a);
    good-b = subst (λ (x : End). Good x.state) (sym (leaves c).other-same) j.good-b;
    recorded-a = subst (λ (h : calls.Holding). SoundRecords (calls.table h)) (sym (leaves c).held-is) (records-kept (call_of c) (holds W.a) (typed c) j.good-a j.recorded-a);
    recorded-b = subst (λ (x : End). SoundRecords (calls.table (holds x))) (sym (leaves c).other-same) j.recorded-b;
  }

next : {W X : World} → Step W X → Joined W → Joined X
next (at_a c) j = next-a j c
next (at_b c) j = turned (next-a (turned j) c)

pub joined-after : {U W : World} → Run U W → Joined U → Joined W
joined-after here j = j
joined-after (◌then◌ r x) j = next x (joined-after r j)

-- ---- fresh ends

-- no cell is in use
fresh-cell : (start buffer cells : ℕ) → start < 2 ^ 32 → (records : List ℕ) (n : ℕ) → is_full (cell_of cells (table_of (fresh_state start buffer cells).rx records) n) ≡ false
unfolding cell_of is_used
fresh-cell start buffer cells s32 records n =
    simp (le-ltb (past n (fresh_state start buffer cells).rx.rx_oldest.0) (in_use (fresh_state start buffer cells).rx) (omega (arith, (fresh-numbers start buffer cells s32).1)))

-- for no slot an ack waits
fresh-row : (start buffer cells : ℕ) (k : ℕ) → waiting (row_of (fresh_state start buffer cells) k) ≡ []
unfolding fresh_state row_of waiting empty_row
fresh-row start buffer cells k = cases (ltb k SLOTS) (λ t. simp t (ap (λ (r : LinkRow). waiting r) (get_or-replicate SLOTS k empty_row no_row (ltb-true k SLOTS t)))) (λ t. simp t)

fresh-inv : (s x m y n : ℕ) (sa rb kb : List ℕ) → s < 2 ^ 32 → length sa ≡ SENT_BYTES → length rb ≡ n * DATA_BYTES
    → Inv (record { start = s; sender = fresh_state s x m; sent = sa; given = []; msgs = []; receiver = fresh_state s y n; received = rb; records = kb; out = []; accepted = []; acks = [] })
unfolding fresh_state fresh_tx fresh_rx window handed plus
fresh-inv s x m y n sa rb kb s32 la lb =
    let zero : s ≡ plus s 0 = omega arith in
    record {
      e = 0;
      o = 0;
      small = λ j l. absurd (omega arith);
      txi = record { next-is = zero; room = omega arith; within = omega arith; tight = omega arith; store_long = la; each = λ i j l q. absurd (omega arith) };
      rxi = record {
        exp-is = zero;
        old-is = zero;
        oe = omega arith;
        eo = omega arith;
        en = omega arith;
        store_long = lb;
        held = λ j l u f. false-true (sym (fresh-cell s y n s32 kb (plus s j)) ∙ f);
        ready = λ j l u. absurd (omega arith);
      };
      links = record { put = λ p m. absurd (Memᴰ.not-nil m); taken = λ p m. absurd (Memᴰ.not-nil m); had = λ j l m. absurd (omega arith) };
      out-is = refl;
      acked = λ n m. absurd (Memᴰ.not-nil m);
      waits = λ k seq m. absurd (Memᴰ.not-nil (rw (fresh-row s y n k) at m));
    }

-- what is given to a fresh end
record Starts (s buffer cells : ℕ) (records : List ℕ) : Type 0 where
  number : s < 2 ^ 32
  passed : fresh_verdict buffer cells (length records) ≡ Ok tt

starts : (s buffer cells : ℕ) (records : List ℕ) → s < 2 ^ 32 → (fresh_of s buffer cells (length records)).outcome ≡ Ok tt → Starts s buffer cells records
unfolding fresh_of
starts s buffer cells records s32 done = record { number = s32; passed = done-passed (fresh_verdict buffer cells (length records)) _ _ done }

fresh-side : (s x m y n : ℕ) (sa ra ka sb rb kb : List ℕ) → Starts s x m ka → Starts s y n kb → length sa ≡ SENT_BYTES → length rb ≡ n * DATA_BYTES
    → Inv (way (fresh_world s (fresh_end s x m sa ra ka) (fresh_end s y n sb rb kb)))
fresh-side s x m y n sa ra ka sb rb kb a b la lb =
    subst Inv (λ d. record {
      start = s;
      sender = sym (fresh-is s x m a.number ka a.passed) d;
      sent = sa;
      given = [];
      msgs = [];
      receiver = sym (fresh-is s y n b.number kb b.passed) d;
      received = rb;
      records = fresh_records y n kb;
      out = [];
      accepted = [];
      acks = [];
    }) (fresh-inv s x m y n sa rb (fresh_records y n kb) a.number la lb)

pub joined-fresh : {U : World} → Fresh U → Joined U
joined-fresh (fresh s x m y n sa ra ka sb rb kb s32 hx hy l₁ l₂ l₃ l₄) =
    let a = starts s x m ka s32 hx in
    let b = starts s y n kb s32 hy in
    record {
      one = fresh-side s x m y n sa ra ka sb rb kb a b l₁ l₄;
      two = fresh-side s y n x m sb rb kb sa ra ka b a l₃ l₂;
      good-a = fresh-good s x m s32 ka a.passed;
      good-b = fresh-good s y n s32 kb b.passed;
      recorded-a = fresh-recorded s x m s32 ka a.passed;
      recorded-b = fresh-recorded s y n s32 kb b.passed;
    }

-- ---- nothing to take

-- an answer is a refusal just if the verdict is
full-verdict : (v : Verdict) (t : RxTable) → hand_out_by v t ≡ Err (refuse 19 tt) → v ≡ Err (refuse 19 tt)
unfolding hand_out_by
full-verdict (Ok tt) t e = let z : ◌≡◌ {A = ℕ} 0 1 = cc in absurd (omega arith)
full-verdict (Err r) t e = cc

-- with a message ready, the verdict of taking is not 19
nothing-refused : {X : Type 0} (s : State) (records : List ℕ) → Good s → SoundRecords (table_of s.rx records) → is_full (ready_of (table_of s.rx records)) ≡ true
    → take_verdict s records ≡ Err (refuse 19 tt) → X
unfolding take_verdict sound_withb
nothing-refused s records good recorded ready v =
    let t = table_of s.rx records in
    not-nothing (fits s.rx.rxed_reliable_consumed (ready_bytes (ready_of t)) MAX_TOTAL)
    (simp (eq-eqb (length records) s.rx.cells recorded.long, sound-true s good.sound, records-true t recorded, ready) at v)
  where
    not-nothing : {X : Type 0} (b : Bool) → gate b 9 (Ok tt) ≡ Err (refuse 19 tt) → X
    not-nothing true e = let z : ◌≡◌ {A = ℕ} 0 1 = cc in absurd (omega arith)
    not-nothing false e = let z : ◌≡◌ {A = ℕ} 0 1 = cc in absurd (omega arith)

-- ---- what was handed out, and what was accepted

module _ (W : World) (i : Inv (way W)) where
  -- what was handed out is a beginning of the data and finish marks that were given
  safe : Safe W
  safe =
      let G = W.a.given in (
        handed (drop i.o G),
        ap handed (sym (take-append-drop i.o G)) ∙ handed-append (take i.o G) (drop i.o G) ∙ ap (λ (l : List Msg). l ++ handed (drop i.o G)) (sym i.out-is),
      )

  -- with an empty table all of it is before the next expected number
  complete : Complete W
  complete emptied j l = i.links.had j l (inl (omega (arith, i.txi.tight, packets-count W.a.state.tx)))

  -- .. and with nothing ready too, all of it was handed out
  all-out : Good W.b.state → SoundRecords (calls.table (holds W.b)) → AllOut W
  unfolding take_of ready_of held_at
  all-out good recorded emptied nothing = go (dec_lt i.o i.e)
    where
      rx : Receiving
      rx = W.b.state.rx

      N : ℕ
      N = W.b.state.rx.cells

      t : RxTable
      t = table_of W.b.state.rx W.b.records

      -- the oldest number, before the next expected, holds a message
      full : i.o < i.e → is_full (ready_of t) ≡ true
      full l =
          let count = cell-count N good.sound.cell-count in
          let few = count.few in
          let differ : rx.rx_oldest.0 ≡ rx.rx_seq.0 → ⊥ =
          λ q. let same = plus-apart W.start i.o i.e (omega arith) (omega (arith, i.rxi.eo, few)) (sym i.rxi.old-is ∙ q ∙ i.rxi.exp-is) in omega (arith, same) in
          let ahead : 0 < expected_at rx = omega (arith, rx-ahead i.rxi few) in
          let first = view-held N count t 0 (omega (arith, ahead, good.sound.near)) ∙ ap (held_at N W.b.records) (plus-zero rx.rx_oldest.0 good.shaped.oldest-u32) in
          simp (ne_eqb _ _ differ) (ap is_full (sym first) ∙ recorded.oldest ahead)

      go : Dec (i.o < i.e) → W.b.out ≡ handed W.a.given
      go (yes l) = nothing-refused W.b.state W.b.records good recorded (full l) (full-verdict (take_verdict W.b.state W.b.records) t nothing)
      go (no l) =
          let all : i.o ≡ length W.a.given = omega (arith, i.rxi.oe, i.rxi.en, i.txi.tight, packets-count W.a.state.tx) in
          i.out-is ∙ ap (λ (n : ℕ). handed (take n W.a.given)) all ∙ ap handed (take-length W.a.given)

  pinned : Pinned W
  pinned = record {
    next-is = i.txi.next-is;
    put = i.links.put;
    accepted = λ p m. (i.links.taken p m).0;
    resent = λ j l u. newest-of W.start (length W.a.given) j l (omega (arith, i.txi.room, packets-count W.a.state.tx));
    acks = i.acked;
  }

-- ---- a packet that is done stays done while nothing is sent

step-grows : {W X : World} → Step W X → length W.a.given ≤ length X.a.given
step-grows (at_a c) = call-grows c
step-grows (at_b c) = rw (ap (λ (x : End). length x.given) (leaves c).other-same) (omega arith)

grows : {U W : World} → Run U W → length U.a.given ≤ length W.a.given
grows here = omega arith
grows (◌then◌ r x) = omega (arith, grows r, step-grows x)

done_next : {W X : World} (x : Step W X) → Joined W → length X.a.given ≡ length W.a.given → (i : ℕ) → Done W.a i → Done X.a i
done_next (at_a c) j q i d = done-step _ j.one j.good-a i c q d
done_next (at_b c) j q i d = subst (λ (x : End). Done x i) (sym (leaves c).other-same) d

done_all : {U W : World} (r : Run U W) → Joined U → length W.a.given ≡ length U.a.given → (i : ℕ) → Done U.a i → Done W.a i
done_all here j q i d = d
done_all (◌then◌ r x) j q i d =
    let l = grows r in let m = step-grows x in
    done_next x (joined-after r j) (omega (arith, q, l, m)) i (done_all r j (omega (arith, q, l, m)) i d)

done-returned : {U : World} (i : ℕ) {W : World} {r : Run U W} → Joined U → length W.a.given ≡ length U.a.given → Returned U i W r → Done W.a i
done-returned i j q (now {W} r slot time n brought timely e over ok) = let k = joined-after r j in done-now W k.one k.good-a i slot time n timely e over ok
done-returned i j q (earlier {W} {X} {r} x h) =
    let l = grows r in let m = step-grows x in
    done_next x (joined-after r j) (omega (arith, q, l, m)) i (done-returned i j (omega (arith, q, l, m)) h)

-- the table empties
drains-from : (U : World) → Joined U → Drains U
drains-from U j W r q returned = let k = joined-after r j in all_done W k.one k.good-a (λ i l. each i l (dec_le (length U.a.given) (i + length ps)))
  where
    ps : List SentReliable
    ps = packets U.a.state.tx

    each : (i : ℕ) → i < length W.a.given → Dec (length U.a.given ≤ i + length ps) → Done W.a i
    each i l (no y) = done_all r j q i (λ k u e. absurd (y (omega arith)))
    each i l (yes y) = look (is_received (get_or ps k no_packet).status) refl
      where
        k : ℕ
        k = i + length ps - length U.a.given

        here : k < length ps
        here = omega (arith, q, l)

        place : i + length ps ≡ length U.a.given + k
        place = omega arith

        look : (b : Bool) → is_received (get_or ps k no_packet).status ≡ b → Done W.a i
        look true b = done_all r j q i (λ n u e. let same : n ≡ k = omega (arith, place) in rw same b)
        look false b = done-returned i j q (returned i (record {
          given = omega (arith, q, l);
          in-table = omega (arith, packets-count U.a.state.tx);
          unreceived = λ z. false-true (sym b ∙ ap is_received (sym (status-at U j.one j.good-a i k here place) ∙ z));
        }))

-- ---- Demand 3

pub demand3 : Demand3
demand3 = record {
  safe = λ U W f r. let j = joined-after r (joined-fresh f) in (safe W j.one, safe (swap W) j.two);
  complete = λ U W f r. let j = joined-after r (joined-fresh f) in (complete W j.one, complete (swap W) j.two);
  all-out = λ U W f r. let j = joined-after r (joined-fresh f) in (all-out W j.one j.good-b j.recorded-b, all-out (swap W) j.two j.good-a j.recorded-a);
  drains = λ U W f r. let j = joined-after r (joined-fresh f) in (drains-from W j, drains-from (swap W) (turned j));
  pinned = λ U W f r. let j = joined-after r (joined-fresh f) in (pinned W j.one, pinned (swap W) j.two);
}
