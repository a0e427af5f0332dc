-- Whatever a call at a does, the invariant of what b sends to a is kept. Assumes nothing.
use Rattle.std.specs.Prelude.{◌≡◌, refl, false, ◌⊎◌, ℕ, ◌+◌, ◌-◌, ◌*◌, ◌%◌, ◌≤◌, ◌<◌, ltb, set, drop, Some, None, Ok, Result}
use Rattle.refusal.specs.declared.Refusal.{Refusal}
use Rattle.engine.specs.Held.{HandOut, Held}
use Rattle.refusal.specs.Verdicts.{Verdict}
use Rattle.std.proofs.Math.Path.{sym, ap, subst}
use Rattle.std.proofs.Common.{ap₂, ◌∙◌}
use Rattle.std.proofs.Math.Bool.{true}
use Rattle.std.proofs.Math.Logic.{inl, inr}
use mathlib.Core.List.Memᴰ
use mathlib.Core.List.{List, [], ◌∷◌, ◌++◌, Memᴰ}
use Rattle.std.proofs.Math.Decide.{ℕ_discrete, dec_lt}
use native.Mathlib.Omega.{arith}
use Rattle.std.proofs.Math.ListN.{length, take}
use borrow.Author.Tests.{eq-eqb, ne_eqb, ltb-true, lt-ltb}
use borrow.Table.Steps.{cases}
use Rattle.seq.specs.declared.Seq.{Seq}
use Rattle.seq.specs.Numbers.{seq_of, plus}
use Rattle.seq.specs.Laws.{cell-counted}
use Rattle.seq.specs.Distance.{before, past, past-counted, before-counted, not-before-counted}
use Rattle.msg.specs.declared.reliable.ReliableMsg.{ReliableMsg}
use Rattle.refusal.specs.Tests.{false-true}
use Rattle.link.specs.Acks.{waiting, oldest_ack, ack_queued, ack_taken}
use Rattle.link.specs.Sizes.{ACKS}
use Rattle.engine.specs.declared.state.Receiving.{Receiving}
use Rattle.engine.specs.declared.state.State.{State}
use Rattle.engine.specs.Answer.{changed_by}
use Rattle.engine.specs.Packets.{packets}
use Rattle.engine.specs.CellCount.{CellCount, cell-count}
use Rattle.engine.specs.Records.{is_full, is_ready_kind, held_bytes}
use Rattle.engine.specs.Received.{RxTable, table_of, in_use, is_used, cell_of}
use Rattle.engine.specs.Decide.{sound_withb, sound-true, records-true}
use Rattle.engine.specs.Cells.{near_oldest, is_repeat, can_advance, passed_over, put_in}
use Rattle.engine.specs.Turns.{turns_same}
use Rattle.engine.specs.Ring.{cells-apart}
use Rattle.engine.specs.Acking.{ack-passed}
use Rattle.engine.specs.Rows.{row_of, row-of}
use Rattle.engine.specs.Stores.{cell_start, copied}
use Rattle.engine.specs.Receiving.{repeated_state, stored_table, effect_state, received_state, receive_of, ReceivePassed}
use Rattle.engine.specs.HandingOut.{msg_in, data_length, can_skip, passed_by, taken_in, show_verdict, showing_of, part_as, shown_of, hand_out_by, taken_table, taken_state, take_of, Taking, ack_in, ack_as, ack_answer, take_ack_of, TakeAckPassed}
use Rattle.engine.specs.Sizes.{SLOTS, DATA_BYTES}
use Rattle.laws.specs.Good.{Good}
use Rattle.laws.specs.Calls as calls
use Rattle.laws.specs.Calls.{Holding, next, done}
use Rattle.laws.specs.Passed.{next-keeps, answer_keeps, passed}
use Rattle.laws.specs.CellEffects.{Passes, held_past, held_but}
use Rattle.laws.specs.RowAcks.{row-full}
use Rattle.laws.specs.ReceiveKept.{received-passes}
use Rattle.laws.specs.TakeKept.{taken-table-passes, ready-past, ready-here, ready-data}
use Rattle.ends.specs.World.{Msg, Packet, World, swap, holds, written, AckFor, Brought, Timely, send_at, resend_at, accepted_by, receive_at, out_by, take_at, put_ack_by, take_ack_at, Call, Other, Send, Resend, Receive, Acked, Take, TakeAck}
use Rattle.ends.specs.Demand.{handed, IsAccepted, Labelled}
use Rattle.ends.specs.Store.{cell_bytes, copied-here, copied-there, copied-long}
use Rattle.ends.specs.Inv.{at, TxI, Holds, RxI, Has, HasAt, LinkI, way, InvAt, Inv}
use Rattle.ends.specs.TxSteps.{tx-had}
use Rattle.ends.specs.RxSteps.{handed-more, rx-ahead, rx-number, passes-rx, has-full, has-then, had-before, gone-unready}
use Rattle.ends.specs.Left.{RxLeft, rx-kept, AcksLeft, other-left, resent-left, sent-rx, sent-acks, acked-rx, acked-acks-left, row_new, row_old, took-ack-left}
use Rattle.ends.specs.Queued.{queued-waiting, taken-waiting}

-- one more was accepted
more : {n : ℕ} {ps : List Packet} (p : Packet) → AckFor n ps → AckFor n (p ∷ ps)
more p x = record { message = x.message; member = Memᴰ.tail x.member; numbered = x.numbered }

module _ (W : World) (i : Inv (way (swap W))) (good : Good W.a.state) where
  abbrev h : Holding
  h = holds W.a

  abbrev s : ℕ
  s = W.start

  abbrev G : List Msg
  G = W.b.given

  abbrev S : State
  S = W.a.state

  abbrev rx : Receiving
  rx = W.a.state.rx

  abbrev N : ℕ
  N = W.a.state.rx.cells

  abbrev t : RxTable
  t = table_of W.a.state.rx W.a.records

  count : CellCount N
  count = cell-count N good.sound.cell-count

  abbrev e : ℕ
  e = i.e

  abbrev o : ℕ
  o = i.o

  -- the world with what a call left of a
  abbrev then : Holding → World
  then k = written W k W.a.given W.a.out W.a.accepted W.ab.msgs W.ab.acks

  -- the receiving half is left alone
  pub still : (k : Holding) → RxLeft h k → AcksLeft h k → Inv (way (swap (then k)))
  still k same fewer =
      let three = rx-kept h k same
      (λ n x y c store. RxI n s G x y c store e o × TxI s G W.b.state.tx.tx_seq.0 (packets W.b.state.tx) W.b.sent e (Has n s c e o) × LinkI s G (Has n s c e o) W.ba.msgs W.a.accepted)
      (i.rxi, i.txi, i.links) in
      record { e = e; o = o; small = i.small; txi = three.1; rxi = three.0; links = three.2; out-is = i.out-is; acked = i.acked; waits = λ slot seq m. i.waits slot seq (fewer slot seq m) }

  -- ---- Receive

  abbrev received-world : Result Unit Refusal → Packet → Holding → World
  received-world outcome p k = written W k W.a.given W.a.out (accepted_by outcome W.a.accepted p) W.ab.msgs W.ab.acks

  module _ (slot : ℕ) (p : Packet) (brought : Brought p W.ba) (timely : Timely p.index W.b) where
    abbrev n : ℕ
    n = p.number

    abbrev x : ℕ
    x = p.index

    label : Labelled s G p
    label = i.links.put p brought

    -- the sending end is at most 64 ahead of the next expected number
    few : length G ≤ e + 64
    few = omega (arith, i.txi.tight, i.txi.room)

    -- "A number before the next expected": the comparison of wrapped numbers tells old from new
    old-is : before n rx.rx_seq.0 ≡ true → x < e
    old-is b = go (dec_lt x e)
      where
        go : Dec (x < e) → x < e
        go (yes y) = y
        go (no y) = false-true (sym (not-before-counted s x e (omega arith) (omega (arith, label.inside, few))) ∙ (rw (label.number_is, i.rxi.exp-is) at b))

    new_is : before n rx.rx_seq.0 ≡ false → e ≤ x
    new_is b = go (dec_lt x e)
      where
        go : Dec (x < e) → e ≤ x
        go (yes y) = false-true (sym b ∙ rw (label.number_is, i.rxi.exp-is) (before-counted s x e y (omega (arith, timely, i.rxi.en))))
        go (no y) = omega arith

    past_is : e ≤ x → past n rx.rx_oldest.0 ≡ x - o
    past_is l = ap₂ (λ a b. past a b) label.number_is i.rxi.old-is ∙ past-counted s x o (omega (arith, i.rxi.oe)) (omega (arith, label.inside, few, i.rxi.eo, count.few))

    near-is : e ≤ x → near_oldest N rx n ≡ true → x < o + N
    unfolding near_oldest
    near-is l t = omega (arith, ltb-true (past n rx.rx_oldest.0) N t, past_is l, i.rxi.oe)

    -- a full cell is one of those in use, which are no more than there are
    full-near : is_full (cell_of N t n) ≡ true → near_oldest N rx n ≡ true
    unfolding cell_of is_used near_oldest
    full-near f =
        cases (ltb (past n rx.rx_oldest.0) (in_use rx))
        (λ b. lt-ltb _ N (omega (arith, ltb-true (past n rx.rx_oldest.0) (in_use rx) b, good.sound.used)))
        (λ b. false-true (simp b at f))

    has-it : is_repeat N t n ≡ true → HasAt N (way (swap W)) e o x
    unfolding is_repeat
    has-it r =
        cases (before n rx.rx_seq.0) (λ b. inl (old-is b))
        (λ b.
        let full : is_full (cell_of N t n) ≡ true = simp b at r in
        let l = new_is b in
        inr (l, near-is l (full-near full), ap (λ m. is_full (cell_of N t m)) (sym label.number_is) ∙ full))

    -- the ack that it queues is for itself
    acks-then : (t : State) → slot < SLOTS → (row_of S slot).ack_count < ACKS → t.links ≡ set S.links slot (ack_queued (row_of S slot) (seq_of n))
        → (k : ℕ) (seq : Seq) → Memᴰ seq (waiting (row_of t k)) → AckFor seq.0 (p ∷ W.a.accepted)
    acks-then t small room at k seq m = go (ℕ_discrete k slot)
      where
        queued : Memᴰ seq (waiting (row_of S slot)) ⊎ Memᴰ seq (seq_of n ∷ []) → AckFor seq.0 (p ∷ W.a.accepted)
        queued (inl y) = more p (i.waits slot seq y)
        queued (inr y) = record { message = p; member = Memᴰ.head refl; numbered = sym (ap (λ (q : Seq). q.0) (Memᴰ.eq_of_singleton y)) }

        go : Dec (k ≡ slot) → AckFor seq.0 (p ∷ W.a.accepted)
        go (yes y) =
            queued (Memᴰ.append_cases (waiting (row_of S slot))
            (rw (ap (λ j. waiting (row_of t j)) y ∙ ap waiting (row_new S t slot _ good.shaped.links-full small at) ∙ queued-waiting (row_of S slot) (row-full S slot good.shaped) (seq_of n) room) at m))
        go (no y) = more p (i.waits k seq (rw (row_old S t slot _ good.shaped.links-full small at k y) at m))

    -- ---- a repeat: it is accepted once more

    again-inv : slot < SLOTS → (row_of S slot).ack_count < ACKS → is_repeat N t n ≡ true
        → Inv (way (swap (received-world (Ok tt) p (record { state = repeated_state S slot n; sent = W.a.sent; received = W.a.received; records = W.a.records }))))
    unfolding repeated_state
    again-inv small room again = record {
      e = e;
      o = o;
      small = i.small;
      txi = i.txi;
      rxi = i.rxi;
      links = record {
        put = i.links.put;
        taken = λ q m. up q (Memᴰ.cases_cons m);
        had = λ j l m. let old = i.links.had j l m in (old.0, Memᴰ.tail old.1, old.2, old.3);
      };
      out-is = i.out-is;
      acked = λ m y. more p (i.acked m y);
      waits = acks-then (repeated_state S slot n) small room refl;
    }
      where
        up : (q : Packet) → (q ≡ p) ⊎ Memᴰ q W.a.accepted → Labelled s G q × HasAt N (way (swap W)) e o q.index
        up q (inl z) = rw z (label, has-it again)
        up q (inr m) = i.links.taken q m

    -- ---- a new one: it is stored in its cell

    module _ (ok : ReceivePassed S (length W.a.received) W.a.records slot p.msg.kind n (length p.msg.bytes)) (new : is_repeat N t n ≡ false) where
      abbrev c : ℕ → Held
      c = held_but N t (past n rx.rx_oldest.0) (Some (p.msg.kind, (length p.msg.bytes)))

      abbrev t' : RxTable
      t' = stored_table S W.a.records p.msg.kind n (length p.msg.bytes)

      abbrev store' : List ℕ
      store' = copied W.a.received (cell_start N n) p.msg.bytes

      passes : Passes N t t' c
      passes = received-passes S good (length W.a.received) W.a.records slot p.msg.kind n (length p.msg.bytes) ok new

      ex : e ≤ x
      unfolding is_repeat
      ex = new_is (cases (before n rx.rx_seq.0) (λ b. false-true (sym new ∙ simp b)) (λ b. b))

      xo : x < o + N
      xo = near-is ex (ok.new new).near

      offset : past n rx.rx_oldest.0 ≡ x - o
      offset = past_is ex

      -- its own cell, and every other
      here : (k : ℕ) → o + k ≡ x → c k ≡ Some (p.msg.kind, (length p.msg.bytes))
      here k q = rw (eq-eqb k (past n rx.rx_oldest.0) (omega (arith, offset, q))) refl

      there : (k : ℕ) → (o + k ≡ x → ⊥) → c k ≡ cell_of N t (plus s (o + k))
      there k ne =
          let no : k ≡ past n rx.rx_oldest.0 → ⊥ = λ q. ne (omega (arith, offset, q, i.rxi.oe, ex)) in
          rw (ne_eqb k (past n rx.rx_oldest.0) no) (ap (cell_of N t) (rx-number i.rxi k))

      long : length W.a.received ≡ N * DATA_BYTES
      long = i.rxi.store_long

      apart : (k : ℕ) → k < N → plus s (o + k) % N ≡ n % N → o + k ≡ x
      apart k l same =
          let a : s + o + k ≡ s + (o + k) = omega arith in
          let b : s + x ≡ s + o + (x - o) = omega (arith, ex, i.rxi.oe) in
          let cells : (s + o + k) % N ≡ (s + o + (x - o)) % N =
          ap (λ m. m % N) a ∙ sym (cell-counted N s (o + k) count.round) ∙ same ∙ ap (λ m. m % N) label.number_is
          ∙ cell-counted N s x count.round ∙ ap (λ m. m % N) b in
          omega (arith, cells-apart N (s + o) k (x - o) l (omega (arith, xo)) cells, ex, i.rxi.oe)

      right : (k : ℕ) → k < N → is_full (c k) ≡ true → (o + k < length G) × Holds N s store' (o + k) (c k) (at G (o + k))
      right k l f = go (ℕ_discrete (o + k) x)
        where
          go : Dec (o + k ≡ x) → (o + k < length G) × Holds N s store' (o + k) (c k) (at G (o + k))
          go (yes q) =
              let msg : p.msg ≡ at G (o + k) = label.msg-is ∙ ap (at G) (sym q) in
              let n-is : plus s (o + k) ≡ n = ap (plus s) q ∙ sym label.number_is in (
                omega (arith, label.inside),
                record {
                  cell-is = here k q ∙ ap (λ (m : Msg). Some (m.kind, (length m.bytes))) msg;
                  bytes-is = subst (λ (m : Msg). cell_bytes N store' (plus s (o + k)) (length m.bytes) ≡ m.bytes) msg
                      (rw n-is (copied-here N count.some W.a.received long n p.msg.bytes ok.short));
                },
              )
          go (no ne) =
              let old = i.rxi.held (o + k) (omega arith) (omega arith) (ap is_full (sym (there k ne)) ∙ f) in (
                old.0,
                record {
                  cell-is = there k ne ∙ old.1.cell-is;
                  bytes-is = copied-there N count.some W.a.received long n p.msg.bytes ok.short (plus s (o + k)) (length (at G (o + k)).bytes) (i.small (o + k) old.0)
                      (λ same. ne (apart k l same)) ∙ old.1.bytes-is;
                },
              )

      lawful : (k : ℕ) → 0 ≤ k → o + k < e → is_full (c k) ≡ is_ready_kind (at G (o + k)).kind
      lawful k z l = ap is_full (there k (λ q. omega (arith, ex))) ∙ i.rxi.ready (o + k) (omega arith) l

      grows : (k : ℕ) → e ≤ o + k → k < N → is_full (cell_of N t (plus s (o + k))) ≡ true → is_full (c k) ≡ true
      grows k l u f =
          elim (ℕ_discrete (o + k) x) [
            | yes q ↦ ap is_full (here k q)
            | no ne ↦ ap is_full (there k ne) ∙ f
          ]

      was : (k : ℕ) → e ≤ o + k → k < N → is_full (c k) ≡ true → (is_full (cell_of N t (plus s (o + k))) ≡ true) ⊎ (o + k ≡ x)
      was k l u f =
          elim (ℕ_discrete (o + k) x) [
            | yes q ↦ inr q
            | no ne ↦ inl (ap is_full (sym (there k ne)) ∙ f)
          ]

      abbrev e' : ℕ
      e' = e + passes.passed

      abbrev o' : ℕ
      o' = o + passes.gone

      abbrev H' : ℕ → Type 0
      H' = Has N s (cell_of N t') e' o'

      has_new : H' x
      has_new =
          let q : o + (x - o) ≡ x = omega (arith, ex, i.rxi.oe) in
          subst H' q (has-full N count s G t t' W.a.received store' e o i.rxi c passes (copied-long N count.some W.a.received long n p.msg.bytes ok.short) 0 (omega arith) right lawful
          (x - o) (omega (arith, ex, q)) (omega (arith, xo)) (ap is_full (here (x - o) q)))

      new-inv : Inv (way (swap (received-world (Ok tt) p (record {
        state = received_state S W.a.records slot p.msg.kind n (length p.msg.bytes);
        sent = W.a.sent;
        received = store';
        records = t'.records;
      }))))
      unfolding received_state effect_state passed_over put_in
      new-inv =
          let same : t'.rx.cells ≡ N = turns_same (can_advance N) (passed_over N) (λ (x : RxTable). x.rx.cells) (λ x. refl) N _ in
          subst (InvAt (way (swap (received-world (Ok tt) p (record {
            state = effect_state S slot p.msg.kind n t'.rx;
            sent = W.a.sent;
            received = store';
            records = t'.records;
          }))))) (sym same) (
          let wide = copied-long N count.some W.a.received long n p.msg.bytes ok.short in
          let mono = has-then N count s G t t' W.a.received store' e o i.rxi c passes wide 0 (omega arith) right lawful grows in
          let back = had-before N count s G t t' W.a.received store' e o i.rxi c passes wide 0 (omega arith) right lawful (λ j. j ≡ x) was in
          let unready = gone-unready N count s G t t' W.a.received store' e o i.rxi c passes wide 0 (omega arith) right lawful in
          let zero : o + 0 ≡ o = omega arith in
          record {
            e = e';
            o = o';
            small = i.small;
            txi = tx-had s G _ _ W.b.sent e _ i.txi e' H' (omega arith) mono;
            rxi = passes-rx N count s G t t' W.a.received store' e o i.rxi c passes wide 0 (omega arith) right lawful;
            links = record {
              put = i.links.put;
              taken = λ q m. up mono q (Memᴰ.cases_cons m);
              had = λ j l m. acc j l (back j m);
            };
            out-is = i.out-is ∙ sym (unready ∙ ap (λ m. handed (take m G)) zero);
            acked = λ m y. more p (i.acked m y);
            waits = acks-then (effect_state S slot p.msg.kind n t'.rx) ok.at.small ok.room refl;
          })
        where
          up : ((j : ℕ) → HasAt N (way (swap W)) e o j → H' j) → (q : Packet) → (q ≡ p) ⊎ Memᴰ q W.a.accepted → Labelled s G q × H' q.index
          up mono q (inl z) = rw z (label, has_new)
          up mono q (inr m) = let old = i.links.taken q m in (old.0, mono q.index old.1)

          acc : (j : ℕ) → j < length G → HasAt N (way (swap W)) e o j ⊎ (j ≡ x) → IsAccepted (p ∷ W.a.accepted) G j
          acc j l (inl y) = let old = i.links.had j l y in (old.0, Memᴰ.tail old.1, old.2, old.3)
          acc j l (inr y) = (p, Memᴰ.head refl, sym y, label.msg-is ∙ ap (at G) (sym y))

  -- ---- taking a message

  abbrev taken-world : HandOut → Holding → World
  taken-world answer k = written W k W.a.given (out_by answer W.a.out (shown_of S W.a.received W.a.records)) W.a.accepted W.ab.msgs W.ab.acks

  module _ (msg : ReliableMsg) (seq : Seq) (len : ℕ) (ok : Taking S W.a.records msg seq len) where
    abbrev c₂ : ℕ → Held
    c₂ = held_but N t 0 None

    abbrev t₂ : RxTable
    t₂ = taken_table S W.a.records (data_length msg len)

    passes₂ : Passes N t t₂ c₂
    passes₂ = taken-table-passes S good W.a.records msg seq len ok

    oe : o < e
    oe = omega (arith, rx-ahead i.rxi count.few, ready-past S good W.a.records msg seq len ok)

    -- the oldest message is message o
    first : cell_of N t (plus s o) ≡ Some (msg, len)
    first = let none : o + 0 ≡ o = omega arith in ap (λ k. cell_of N t (plus s k)) (sym none) ∙ ap (cell_of N t) (sym (rx-number i.rxi 0)) ∙ ready-here S good W.a.records msg seq len ok

    holds-o : (o < length G) × Holds N s W.a.received o (cell_of N t (plus s o)) (at G o)
    holds-o = i.rxi.held o (omega arith) (omega arith) (ap is_full first)

    is-first : ◌≡◌ {A = Held} (Some (msg, len)) (Some ((at G o).kind, length (at G o).bytes))
    is-first = sym first ∙ holds-o.1.cell-is

    both-are : ◌≡◌ {A = ReliableMsg × ℕ} (msg, len) ((at G o).kind, length (at G o).bytes)
    both-are = let z = is-first in cc

    kind-is : msg ≡ (at G o).kind
    kind-is = ap (λ x. x.0) both-are

    len_is : len ≡ length (at G o).bytes
    len_is = ap (λ x. x.1) both-are

    ready-o : is_ready_kind (at G o).kind ≡ true
    ready-o = sym (i.rxi.ready o (omega arith) oe) ∙ ap is_full first

    -- "the part of the received store that holds its bytes"
    shown : shown_of S W.a.received W.a.records ≡ (at G o).bytes
    unfolding shown_of showing_of show_verdict hand_out_by sound_withb
    shown =
        let pass : show_verdict S (length W.a.received) W.a.records ≡ Ok tt =
        simp (
          eq-eqb (length W.a.received) (N * DATA_BYTES) i.rxi.store_long,
          eq-eqb (length W.a.records) N ok.recorded.long,
          sound-true S good.sound,
          records-true t ok.recorded,
          ap is_full ok.ready,
        ) in
        ap (λ (v : Verdict). part_as N (hand_out_by v t) W.a.received) pass
        ∙ ap (λ (x : Held). part_as N (Ok ((msg_in x), rx.rx_oldest, (held_bytes x))) W.a.received) ok.ready
        ∙ ap (λ (k : ℕ). take k (drop (cell_start N rx.rx_oldest.0) W.a.received)) (ready-data S good W.a.records msg seq len ok ∙ len_is)
        ∙ ap (λ m. cell_bytes N W.a.received m (length (at G o).bytes)) i.rxi.old-is ∙ holds-o.1.bytes-is

    other : (k : ℕ) → 0 < k → c₂ k ≡ cell_of N t (plus s (o + k))
    other k l = rw (ne_eqb k 0 (λ q. omega arith)) (ap (cell_of N t) (rx-number i.rxi k))

    -- a cell that is full then isn't the emptied one
    past-0 : (k : ℕ) → is_full (c₂ k) ≡ true → 0 < k
    past-0 k f = go (ℕ_discrete k 0)
      where
        go : Dec (k ≡ 0) → 0 < k
        go (yes q) = false-true (sym (ap (λ j. is_full (c₂ j)) q) ∙ f)
        go (no ne) = omega arith

    some-gone : 1 ≤ passes₂.gone
    some-gone = go (ℕ_discrete passes₂.gone 0)
      where
        go : Dec (passes₂.gone ≡ 0) → 1 ≤ passes₂.gone
        go (yes q) =
            let past = ready-past S good W.a.records msg seq len ok in
            false-true (sym (ap is_full (passes₂.ready-were 0 past))
            ∙ subst (λ (k : ℕ). is_full (held_past N t₂ rx.rx_oldest.0 k) ≡ true) q (passes₂.stands (omega (arith, past))))
        go (no ne) = omega arith

    right₂ : (k : ℕ) → k < N → is_full (c₂ k) ≡ true → (o + k < length G) × Holds N s W.a.received (o + k) (c₂ k) (at G (o + k))
    right₂ k l f = let same = other k (past-0 k f) in rw same (i.rxi.held (o + k) (omega arith) (omega arith) (ap is_full (sym same) ∙ f))

    lawful₂ : (k : ℕ) → 1 ≤ k → o + k < e → is_full (c₂ k) ≡ is_ready_kind (at G (o + k)).kind
    lawful₂ k l u = ap is_full (other k l) ∙ i.rxi.ready (o + k) (omega arith) u

    take-inv : Inv (way (swap (taken-world (Ok (msg, seq, len)) (record { state = taken_state S W.a.records (data_length msg len); sent = W.a.sent; received = W.a.received; records = t₂.records }))))
    unfolding taken_state taken_in passed_by row_of
    take-inv =
        let same : t₂.rx.cells ≡ N = turns_same (can_skip N t₂.records) passed_by (λ (x : Receiving). x.cells) (λ x. refl) N _ in
        let long = i.rxi.store_long in
        let grows : (k : ℕ) → e ≤ o + k → k < N → is_full (cell_of N t (plus s (o + k))) ≡ true → is_full (c₂ k) ≡ true = λ k l u f. ap is_full (other k (omega (arith, oe))) ∙ f in
        let mono = has-then N count s G t t₂ W.a.received W.a.received e o i.rxi c₂ passes₂ long 1 some-gone right₂ lawful₂ grows in
        let back = had-before N count s G t t₂ W.a.received W.a.received e o i.rxi c₂ passes₂ long 1 some-gone right₂ lawful₂ (λ j. ⊥)
        (λ k l u f. inl (ap is_full (sym (other k (omega (arith, oe)))) ∙ f)) in
        let unready = gone-unready N count s G t t₂ W.a.received W.a.received e o i.rxi c₂ passes₂ long 1 some-gone right₂ lawful₂ in
        subst (InvAt (way (swap (taken-world (Ok (msg, seq, len)) (record { state = taken_state S W.a.records (data_length msg len); sent = W.a.sent; received = W.a.received; records = t₂.records })))))
        (sym same) (record {
          e = e + passes₂.passed;
          o = o + passes₂.gone;
          small = i.small;
          txi = tx-had s G _ _ W.b.sent e _ i.txi (e + passes₂.passed) _ (omega arith) mono;
          rxi = passes-rx N count s G t t₂ W.a.received W.a.received e o i.rxi c₂ passes₂ long 1 some-gone right₂ lawful₂;
          links = record {
            put = i.links.put;
            taken = λ q m. let old = i.links.taken q m in (old.0, mono q.index old.1);
            had = λ j l m. acc j l (back j m);
          };
          out-is = (λ d. i.out-is d ++ (record { kind = kind-is d; bytes = shown d } ∷ [])) ∙ sym (unready ∙ handed-more G o holds-o.0 ready-o);
          acked = i.acked;
          waits = i.waits;
        })
      where
        acc : (j : ℕ) → j < length G → HasAt N (way (swap W)) e o j ⊎ ⊥ → IsAccepted W.a.accepted G j
        acc j l (inl y) = i.links.had j l y
        acc j l (inr y) = absurd y

  -- ---- taking an ack: it was waiting

  abbrev acked-world : Result Seq Refusal → Holding → World
  acked-world answer k = written W k W.a.given W.a.out W.a.accepted W.ab.msgs (put_ack_by answer W.ab.acks)

  take-ack-inv : (slot : ℕ) → TakeAckPassed S slot → Inv (way (swap (acked-world (Ok (ack_in (oldest_ack (row_of S slot)))) (done (calls.TakeAck slot) h))))
  take-ack-inv slot ok =
      let r = row_of S slot in
      let count : r.ack_count ≤ ACKS = rw (row-of S slot ok.at.small) (good.sound.ack-count slot ok.at.small ok.at.live) in
      let queue : waiting r ≡ ack_in (oldest_ack r) ∷ waiting (ack_taken r) = taken-waiting r (row-full S slot good.shaped) ok.waits count in
      let all = took-ack-left h good slot ok.at.small (λ q m. rw queue (Memᴰ.tail m)) in
      let base = still (done (calls.TakeAck slot) h) all.rx all.acks in
      record {
        e = base.e;
        o = base.o;
        small = base.small;
        txi = base.txi;
        rxi = base.rxi;
        links = base.links;
        out-is = base.out-is;
        acked = λ n m. wire (i.waits slot (ack_in (oldest_ack r)) (rw queue (Memᴰ.head refl))) n (Memᴰ.cases_cons m);
        waits = base.waits;
      }
    where
      wire : {first : ℕ} → AckFor first W.a.accepted → (n : ℕ) → (n ≡ first) ⊎ Memᴰ n W.ab.acks → AckFor n W.a.accepted
      wire x n (inl z) = rw z x
      wire x n (inr m) = i.acked n m

  -- ---- every call

  pub receiver : {X : World} → Call W X → Inv (way (swap X))
  unfolding send_at resend_at receive_at receive_of take_at hand_out_by take_of take_ack_at ack_answer take_ack_of
  receiver (Other c u typed) = let all = other-left h good c u typed in still (next c h) all.rx all.acks
  receiver (Send slot time m) =
      let c = calls.Send slot time m.kind m.bytes in
      next-keeps c h (λ k. Inv (way (swap (then k)))) i
      (λ q. still (done c h) (sent-rx h good slot time m.kind m.bytes) (sent-acks h good slot time m.kind m.bytes (passed c h tt good q).timed.at.small))
  receiver (Resend slot time n number) =
      let c = calls.Resend slot time n in
      next-keeps c h (λ k. Inv (way (swap (then k)))) i
      (λ q. let all = resent-left h good slot time n number (passed c h number good q) in still (done c h) all.rx all.acks)
  receiver (Receive slot p brought timely) =
      let c = calls.Receive slot p.msg.kind p.number p.msg.bytes in
      answer_keeps c h (λ v. (changed_by v S (done c h).state).outcome) (λ a k. Inv (way (swap (received-world a p k))))
      (λ q.
      let ok = passed c h tt good q in
      cases (is_repeat N t p.number)
      (λ b. simp b (again-inv slot p brought timely ok.at.small ok.room b))
      (λ b. simp b (new-inv slot p brought timely ok b)))
      (λ r. i)
  receiver (Acked slot time n brought timely) =
      let c = calls.Ack slot time n in
      next-keeps c h (λ k. Inv (way (swap (then k)))) i
      (λ q. still (done c h) (acked-rx h good slot time n) (acked-acks-left h good slot time n (ack-passed S slot time n q).timed.at.small))
  receiver Take = answer_keeps calls.Take h (λ v. hand_out_by v t) (λ a k. Inv (way (swap (taken-world a k)))) (λ q. take-inv _ _ _ (passed calls.Take h tt good q)) (λ r. i)
  receiver (TakeAck slot) =
      let c = calls.TakeAck slot in
      answer_keeps c h (λ v. ack_as v (oldest_ack (row_of S slot))) (λ a k. Inv (way (swap (acked-world a k)))) (λ q. take-ack-inv slot (passed c h tt good q)) (λ r. i)
