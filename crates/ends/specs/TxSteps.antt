-- What the sending half's part of the invariant keeps, over lists: Send appends, statuses change in their places, an ack drops a beginning. Assumes nothing.
use Rattle.std.specs.Prelude.{◌≡◌, true, false, List, [], ◌∷◌, ◌++◌, map, ℕ, ◌+◌, ◌-◌, ◌%◌, ◌≤◌, ◌<◌, length, get_or, drop}
use Rattle.std.proofs.Common.{sym, ◌∙◌, ap, arith, length-append, length-drop, get_or-drop}
use Rattle.std.proofs.Math.Decide.{ℕ_discrete, dec_le}
use Rattle.std.proofs.lemmas.List.{length-map}
use Rattle.std.proofs.Math.ListN.{get_or-append}
use Rattle.std.proofs.Math.Seq.{get_or-append_seam}
use Rattle.seq.specs.Numbers.{plus}
use Rattle.seq.specs.Laws.{plus-plus, cell-counted}
use Rattle.refusal.specs.Tests.{false-true}
use Rattle.engine.specs.declared.state.SentReliableStatus.{SentReliableStatus}
use Rattle.engine.specs.declared.state.SentReliable.{SentReliable}
use Rattle.engine.specs.Packets.{no_packet, is_received}
use Rattle.engine.specs.InTable.{cells-divide}
use Rattle.engine.specs.Stores.{cell_start, copied}
use Rattle.engine.specs.Sizes.{PACKETS, DATA_BYTES}
use Rattle.laws.specs.PacketsKept.{map_at}
use Rattle.laws.specs.PacketEffects.{restated}
use Rattle.ends.specs.World.{Msg}
use Rattle.ends.specs.Demand.{no_msg}
use Rattle.ends.specs.Store.{copied-here, copied-there, copied-long}
use Rattle.ends.specs.Inv.{at, Carries, TxI}

-- ---- one more was given

module _ (G : List Msg) (m : Msg) where
  pub longer : length (G ++ (m ∷ [])) ≡ length G + 1
  longer = length-append G (m ∷ [])

  pub at_old : (j : ℕ) → j < length G → at (G ++ (m ∷ [])) j ≡ at G j
  at_old j h = get_or-append G (m ∷ []) no_msg j h

  pub at_new : (j : ℕ) → j ≡ length G → at (G ++ (m ∷ [])) j ≡ m
  at_new j e = ap (at (G ++ (m ∷ []))) e ∙ get_or-append_seam G m [] no_msg

-- numbers less than 64 apart have cells of their own
cells-differ : (s j k : ℕ) → j < k → k < j + PACKETS → plus s j % PACKETS ≡ plus s k % PACKETS → ⊥
cells-differ s j k p q e =
    let same : (s + j) % PACKETS ≡ (s + k) % PACKETS = sym (cell-counted PACKETS s j cells-divide) ∙ e ∙ cell-counted PACKETS s k cells-divide in
    omega arith

module _ (s : ℕ) (G : List Msg) (next : ℕ) (ps : List SentReliable) (store : List ℕ) (e : ℕ) (H : ℕ → Type 0) (i : TxI s G next ps store e H) where
  -- statuses change: who is Received then, the other end has
  pub tx-restated : (change : SentReliable → SentReliableStatus)
      → ((k j : ℕ) → k < length ps → j + length ps ≡ length G + k → is_received (change (get_or ps k no_packet)) ≡ true → H j)
      → TxI s G next (map (restated change) ps) store e H
  tx-restated change had =
      let long : length (map (restated change) ps) ≡ length ps = length-map ps (restated change) in
      record {
        next-is = i.next-is;
        room = omega (arith, long, i.room);
        within = omega (arith, long, i.within);
        tight = omega (arith, long, i.tight);
        store_long = i.store_long;
        each = λ k j l q.
            let l' : k < length ps = omega (arith, long) in
            let q' : j + length ps ≡ length G + k = omega (arith, long) in
            let old = i.each k j l' q' in
            rw (map_at (restated change) no_packet ps k l')
            (record { number_is = old.number_is; kind-is = old.kind-is; len_is = old.len_is; bytes-is = old.bytes-is; received = had k j l' q' });
      }

  -- Received packets are dropped from the front: the other end has those, and lacks message e, so e isn't among them
  pub tx-dropped : (gone : ℕ) → gone ≤ length ps → ((k : ℕ) → k < gone → is_received (get_or ps k no_packet).status ≡ true) → (H e → ⊥) → TxI s G next (drop gone ps) store e H
  tx-dropped gone few dropped lacks =
      let long : length (drop gone ps) ≡ length ps - gone = length-drop gone ps in
      record {
        next-is = i.next-is;
        room = omega (arith, long, i.room);
        within = omega (arith, long, i.within);
        tight = up (dec_le (length G) (e + length (drop gone ps)));
        store_long = i.store_long;
        each = λ k j l q. rw (get_or-drop gone ps k no_packet) (i.each (gone + k) j (omega (arith, long)) (omega (arith, long)));
      }
    where
      up : Dec (length G ≤ e + length (drop gone ps)) → length G ≤ e + length (drop gone ps)
      up (yes y) = y
      up (no y) =
          let long : length (drop gone ps) ≡ length ps - gone = length-drop gone ps in
          let k = e + length ps - length G in
          absurd (lacks ((i.each k e (omega (arith, long, i.tight)) (omega (arith, i.tight))).received (dropped k (omega (arith, long, i.tight)))))

  -- a message is sent
  pub tx-sent : (m : Msg) (p : SentReliable) → ((j : ℕ) → j < length G → length (at G j).bytes ≤ DATA_BYTES) → length ps < PACKETS → length m.bytes ≤ DATA_BYTES
      → p.seq.0 ≡ next → p.msg ≡ m.kind → p.len ≡ length m.bytes → is_received p.status ≡ false
      → TxI s (G ++ (m ∷ [])) (plus next 1) (ps ++ (p ∷ [])) (copied store (cell_start PACKETS next) m.bytes) e H
  tx-sent m p small free fits number kind len fresh =
      let more : length (ps ++ (p ∷ [])) ≡ length ps + 1 = length-append ps (p ∷ []) in
      let given = longer G m in
      record {
        next-is = ap (λ n. plus n 1) i.next-is ∙ plus-plus s (length G) 1 ∙ ap (plus s) (sym given);
        room = omega (arith, more);
        within = omega (arith, more, given, i.within);
        tight = omega (arith, more, given, i.tight);
        store_long = copied-long PACKETS (omega arith) store i.store_long next m.bytes fits;
        each = λ k j l q. carried k j l q (ℕ_discrete k (length ps));
      }
    where
      carried : (k j : ℕ) → k < length (ps ++ (p ∷ [])) → j + length (ps ++ (p ∷ [])) ≡ length (G ++ (m ∷ [])) + k → Dec (k ≡ length ps)
          → Carries s (copied store (cell_start PACKETS next) m.bytes) H j (get_or (ps ++ (p ∷ [])) k no_packet) (at (G ++ (m ∷ [])) j)
      carried k j l q (yes y) =
          let last : j ≡ length G = omega (arith, q, y, longer G m, length-append ps (p ∷ [])) in
          let here : plus s j ≡ next = ap (plus s) last ∙ sym i.next-is in
          rw (y, get_or-append_seam ps p [] no_packet, at_new G m j last)
          (record {
            number_is = number ∙ sym here;
            kind-is = kind;
            len_is = len;
            bytes-is = rw here (copied-here PACKETS (omega arith) store i.store_long next m.bytes fits);
            received = λ r. false-true (sym fresh ∙ r);
          })
      carried k j l q (no y) =
          let l' : k < length ps = omega (arith, length-append ps (p ∷ [])) in
          let q' : j + length ps ≡ length G + k = omega (arith, q, longer G m, length-append ps (p ∷ [])) in
          let old = i.each k j l' q' in
          let lt : j < length G = omega arith in
          rw (get_or-append ps (p ∷ []) no_packet k l', at_old G m j lt)
          (record {
            number_is = old.number_is;
            kind-is = old.kind-is;
            len_is = old.len_is;
            bytes-is =
                copied-there PACKETS (omega arith) store i.store_long next m.bytes fits (plus s j) (length (at G j).bytes) (small j lt)
                (λ same. cells-differ s j (length G) lt (omega arith) (same ∙ ap (λ n. n % PACKETS) i.next-is)) ∙ old.bytes-is;
            received = old.received;
          })

  -- the other end has more
  pub tx-had : (e' : ℕ) (H' : ℕ → Type 0) → e ≤ e' → ((j : ℕ) → H j → H' j) → TxI s G next ps store e' H'
  tx-had e' H' later more = record {
    next-is = i.next-is;
    room = i.room;
    within = i.within;
    tight = omega (arith, i.tight);
    store_long = i.store_long;
    each = λ k j l q.
        let old = i.each k j l q in
        record { number_is = old.number_is; kind-is = old.kind-is; len_is = old.len_is; bytes-is = old.bytes-is; received = λ r. more j (old.received r) };
  }
