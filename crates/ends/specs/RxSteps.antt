-- What the receiving half's part of the invariant keeps where a cell is changed, the next expected number moves on and the oldest with it (`Passes` of the
-- crate `laws`): Receive and taking a message are such. Over any cell count N. Assumes nothing.
use Rattle.std.specs.Prelude.{◌≡◌, refl, true, false, cond, ◌⊎◌, List, [], ◌∷◌, ◌++◌, ℕ, zero, suc, ◌+◌, ◌-◌, ◌*◌, ◌≤◌, ◌<◌, length, take, Some, None}
use Rattle.engine.specs.Held.{Held}
use Rattle.std.proofs.Common.{sym, ◌∙◌, ap, ap₂, subst, inl, inr, append-nil, arith, add-one}
use Rattle.std.proofs.Math.Decide.{dec_lt}
use Rattle.std.proofs.Math.Seq.{take-suc}
use borrow.Table.Steps.{cases}
use Rattle.seq.specs.declared.Seq.{Seq}
use Rattle.seq.specs.Numbers.{plus}
use Rattle.seq.specs.Laws.{plus-plus}
use Rattle.seq.specs.Distance.{past, past-counted}
use Rattle.msg.specs.declared.reliable.ReliableMsg.{ReliableMsg}
use Rattle.refusal.specs.Tests.{false-true}
use Rattle.engine.specs.CellCount.{CellCount}
use Rattle.engine.specs.Records.{is_full, is_ready_kind, kept_of}
use Rattle.engine.specs.Received.{RxTable, expected_at, cell_of}
use Rattle.engine.specs.Sizes.{DATA_BYTES}
use Rattle.laws.specs.CellEffects.{Passes}
use Rattle.ends.specs.World.{Msg}
use Rattle.ends.specs.Demand.{no_msg, handed}
use Rattle.ends.specs.Inv.{at, Holds, RxI, Has}
use Rattle.ends.specs.TxSteps.{longer, at_old}

-- ---- what is handed out of a beginning of the messages

pub handed-append : (xs ys : List Msg) → handed (xs ++ ys) ≡ handed xs ++ handed ys
unfolding handed
handed-append [] ys = refl
handed-append (x ∷ xs) ys = let rest = handed-append xs ys in cases (is_ready_kind x.kind) (λ t. simp (t, rest)) (λ t. simp (t, rest))

module _ (G : List Msg) where
  handed-suc : (o : ℕ) → o < length G → handed (take (o + 1) G) ≡ handed (take o G) ++ cond (is_ready_kind (at G o).kind) (at G o ∷ []) []
  unfolding handed
  handed-suc o h = rw (add-one, take-suc G o no_msg) (handed-append (take o G) (at G o ∷ []))

  pub handed-more : (o : ℕ) → o < length G → is_ready_kind (at G o).kind ≡ true → handed (take (o + 1) G) ≡ handed (take o G) ++ (at G o ∷ [])
  handed-more o h e = handed-suc o h ∙ rw e refl

  -- over messages that aren't handed out
  handed-gap : (o d : ℕ) → o + d ≤ length G → ((k : ℕ) → k < d → is_ready_kind (at G (o + k)).kind ≡ false) → handed (take (o + d) G) ≡ handed (take o G)
  handed-gap o zero h none = let z : o + 0 ≡ o = omega arith in ap (λ n. handed (take n G)) z
  handed-gap o (suc d) h none =
      let n : o + suc d ≡ o + d + 1 = omega arith in
      ap (λ m. handed (take m G)) n ∙ handed-suc (o + d) (omega arith) ∙ rw (none d (omega arith)) (append-nil (handed (take (o + d) G)))
      ∙ handed-gap o d (omega arith) (λ k l. none k (omega arith))

-- more was given
pub rx-grown : {N s expected oldest e o : ℕ} {c : ℕ → Held} {store : List ℕ} (G : List Msg) (m : Msg) → RxI N s G expected oldest c store e o → RxI N s (G ++ (m ∷ [])) expected oldest c store e o
rx-grown G m i = record {
  exp-is = i.exp-is;
  old-is = i.old-is;
  oe = i.oe;
  eo = i.eo;
  en = omega (arith, i.en, longer G m);
  store_long = i.store_long;
  held = λ j l u f. let old = i.held j l u f in (omega (arith, old.0, longer G m), rw (at_old G m j old.0) old.1);
  ready = λ j l u. rw (at_old G m j (omega (arith, i.en))) (i.ready j l u);
}

-- how far the next expected number is past the oldest, and the numbers past that
module _ {N s expected oldest e o : ℕ} {G : List Msg} {c : ℕ → Held} {store : List ℕ} (i : RxI N s G expected oldest c store e o) where
  pub rx-ahead : N ≤ 65536 → past expected oldest ≡ e - o
  rx-ahead few = ap₂ (λ a b. past a b) i.exp-is i.old-is ∙ past-counted s e o i.oe (omega (arith, i.eo))

  pub rx-number : (k : ℕ) → plus oldest k ≡ plus s (o + k)
  rx-number k = ap (λ n. plus n k) i.old-is ∙ plus-plus s o k

-- ---- what is kept of a passed message

kept_full : (h : Held) → is_full (kept_of h) ≡ true → kept_of h ≡ h
kept_full None f = refl
kept_full (Some (msg, len)) f = cases (is_ready_kind msg) (λ t. simp t) (λ t. false-true (simp t at f))

kept-ready : (h : Held) (msg : ReliableMsg) (len : ℕ) → h ≡ Some (msg, len) → is_full (kept_of h) ≡ is_ready_kind msg
kept-ready h msg len e = ap (λ x. is_full (kept_of x)) e ∙ cases (is_ready_kind msg) (λ t. simp t) (λ t. simp t)

-- ---- a cell is changed, and the numbers move on

-- c is what the cells hold after the change, by how far they are past the oldest: each holds its message, and from `from` on just those that are handed out are ready
module _ (N : ℕ) (count : CellCount N) (s : ℕ) (G : List Msg) (rx rx' : RxTable) (store store' : List ℕ) (e o : ℕ)
    (i : RxI N s G rx.rx.rx_seq.0 rx.rx.rx_oldest.0 (cell_of N rx) store e o) (c : ℕ → Held) (p : Passes N rx rx' c) (long : length store' ≡ N * DATA_BYTES)
    (from : ℕ) (within : from ≤ p.gone)
    (right : (k : ℕ) → k < N → is_full (c k) ≡ true → (o + k < length G) × Holds N s store' (o + k) (c k) (at G (o + k)))
    (lawful : (k : ℕ) → from ≤ k → o + k < e → is_full (c k) ≡ is_ready_kind (at G (o + k)).kind) where
  abbrev e' : ℕ
  e' = e + p.passed

  abbrev o' : ℕ
  o' = o + p.gone

  -- what the cell of the number k past the old oldest holds then
  abbrev then : ℕ → Held
  then k = cell_of N rx' (plus s (o + k))

  ahead : expected_at rx.rx ≡ e - o
  ahead = rx-ahead i count.few

  then_ready : (k : ℕ) → o + k < e → then k ≡ c k
  then_ready k l = ap (cell_of N rx') (sym (rx-number i k)) ∙ p.ready-were k (omega (arith, ahead))

  then-kept : (k : ℕ) → e ≤ o + k → o + k < e' → then k ≡ kept_of (c k)
  then-kept k l u = ap (cell_of N rx') (sym (rx-number i k)) ∙ p.kept k (omega (arith, ahead)) (omega (arith, ahead, i.oe))

  then-ahead : (k : ℕ) → e' ≤ o + k → k < N → then k ≡ c k
  then-ahead k l u = ap (cell_of N rx') (sym (rx-number i k)) ∙ p.ahead k (omega (arith, ahead, i.oe)) u

  passed-full : (k : ℕ) → e ≤ o + k → o + k < e' → is_full (c k) ≡ true
  passed-full k l u = p.full k (omega (arith, ahead)) (omega (arith, ahead, i.oe))

  passed-in : (k : ℕ) → o + k < e' → k < N
  passed-in k u = omega (arith, ahead, p.within, p.used, i.oe)

  -- nothing stands before the oldest, nor from the end on
  gone-empty : (k : ℕ) → k < p.gone → is_full (then k) ≡ false
  gone-empty k l = ap (λ n. is_full (cell_of N rx' n)) (sym (rx-number i k)) ∙ ap is_full (p.emptied k l)

  wrapped : {X : Type 0} (j : ℕ) → o + N ≤ j → j < o' + N → is_full (cell_of N rx' (plus s j)) ≡ true → X
  wrapped j l u f =
      let same : o + (j - o) ≡ j = omega arith in
      false-true (sym (ap is_full (p.beyond (j - o) (omega (arith, p.used)) (omega (arith, count.few)))) ∙ ap (λ n. is_full (cell_of N rx' n)) (rx-number i (j - o)) ∙ ap (λ n. is_full (cell_of N rx' (plus s n))) same ∙ f)

  -- a number from the old oldest on, by how far it is past it
  offset : (P : ℕ → Type 0) (j : ℕ) → o ≤ j → ((k : ℕ) → P (o + k)) → P j
  offset P j l f = let same : o + (j - o) ≡ j = omega arith in subst P same (f (j - o))

  full-was : (k : ℕ) → k < N → is_full (then k) ≡ true → then k ≡ c k
  full-was k l f = go (dec_lt (o + k) e) (dec_lt (o + k) e')
    where
      go : Dec (o + k < e) → Dec (o + k < e') → then k ≡ c k
      go (yes y) z = then_ready k y
      go (no y) (yes z) = let kept = then-kept k (omega arith) z in kept ∙ kept_full (c k) (ap is_full (sym kept) ∙ f)
      go (no y) (no z) = then-ahead k (omega arith) l

  then-lawful : (k : ℕ) → from ≤ k → o + k < e' → is_full (then k) ≡ is_ready_kind (at G (o + k)).kind
  then-lawful k l u = go (dec_lt (o + k) e)
    where
      go : Dec (o + k < e) → is_full (then k) ≡ is_ready_kind (at G (o + k)).kind
      go (yes y) = ap is_full (then_ready k y) ∙ lawful k l y
      go (no y) =
          let ge : e ≤ o + k = omega arith in
          ap is_full (then-kept k ge u) ∙ kept-ready (c k) _ _ (right k (passed-in k u) (passed-full k ge u)).1.cell-is

  given-all : e' ≤ length G
  given-all = go (dec_lt 0 p.passed)
    where
      go : Dec (0 < p.passed) → e' ≤ length G
      go (yes y) =
          let k = e - o + p.passed - 1 in
          omega (arith, (right k (passed-in k (omega (arith, i.oe))) (passed-full k (omega (arith, i.oe)) (omega (arith, i.oe)))).0, i.oe)
      go (no y) = omega (arith, i.en)

  pub passes-rx : RxI N s G rx'.rx.rx_seq.0 rx'.rx.rx_oldest.0 (cell_of N rx') store' e' o'
  passes-rx = record {
    exp-is = ap (λ (q : Seq). q.0) p.expected-is ∙ ap (λ n. plus n p.passed) i.exp-is ∙ plus-plus s e p.passed;
    old-is = ap (λ (q : Seq). q.0) p.oldest-is ∙ rx-number i p.gone;
    oe = omega (arith, ahead, p.behind, i.oe);
    eo = omega (arith, ahead, p.within, p.used, i.oe);
    en = given-all;
    store_long = long;
    held = λ j l u f. stands j l u f (dec_lt j (o + N));
    ready = λ j l u.
        offset (λ n. o' ≤ n → n < e' → is_full (cell_of N rx' (plus s n)) ≡ is_ready_kind (at G n).kind) j (omega arith)
        (λ k lo hi. then-lawful k (omega arith) hi) l u;
  }
    where
      stands : (j : ℕ) → o' ≤ j → j < o' + N → is_full (cell_of N rx' (plus s j)) ≡ true → Dec (j < o + N)
          → (j < length G) × Holds N s store' j (cell_of N rx' (plus s j)) (at G j)
      stands j l u f (yes y) =
          offset (λ n. n < o + N → is_full (cell_of N rx' (plus s n)) ≡ true → (n < length G) × Holds N s store' n (cell_of N rx' (plus s n)) (at G n)) j (omega arith)
          (λ k lk fk. let same = full-was k (omega arith) fk in rw same (right k (omega arith) (ap is_full (sym same) ∙ fk))) y f
      stands j l u f (no y) = wrapped j (omega arith) u f

  -- what stands in a cell has been accepted then ..
  pub has-full : (k : ℕ) → e ≤ o + k → k < N → is_full (c k) ≡ true → Has N s (cell_of N rx') e' o' (o + k)
  has-full k l u f = go (dec_lt (o + k) e')
    where
      go : Dec (o + k < e') → Has N s (cell_of N rx') e' o' (o + k)
      go (yes y) = inl y
      go (no y) = inr (omega arith, omega arith, ap is_full (then-ahead k (omega arith) u) ∙ f)

  -- .. what had been still has ..
  pub has-then : ((k : ℕ) → e ≤ o + k → k < N → is_full (cell_of N rx (plus s (o + k))) ≡ true → is_full (c k) ≡ true)
      → (j : ℕ) → Has N s (cell_of N rx) e o j → Has N s (cell_of N rx') e' o' j
  has-then grows j (inl l) = inl (omega arith)
  has-then grows j (inr h) =
      offset (λ n. e ≤ n → n < o + N → is_full (cell_of N rx (plus s n)) ≡ true → Has N s (cell_of N rx') e' o' n) j (omega (arith, i.oe, h.0))
      (λ k lk uk f. has-full k lk (omega arith) (grows k lk (omega arith) f)) h.0 h.1 h.2

  -- .. and nothing else but what the call brought (X)
  pub had-before : (X : ℕ → Type 0) → ((k : ℕ) → e ≤ o + k → k < N → is_full (c k) ≡ true → (is_full (cell_of N rx (plus s (o + k))) ≡ true) ⊎ X (o + k))
      → (j : ℕ) → Has N s (cell_of N rx') e' o' j → Has N s (cell_of N rx) e o j ⊎ X j
  had-before X was j h = go (dec_lt j e) (dec_lt j e') (dec_lt j (o + N)) h
    where
      told : (k : ℕ) → e ≤ o + k → k < N → is_full (c k) ≡ true → Has N s (cell_of N rx) e o (o + k) ⊎ X (o + k)
      told k l u f = by (was k l u f)
        where
          by : (is_full (cell_of N rx (plus s (o + k))) ≡ true) ⊎ X (o + k) → Has N s (cell_of N rx) e o (o + k) ⊎ X (o + k)
          by (inl y) = inl (inr (l, omega arith, y))
          by (inr x) = inr x

      go : Dec (j < e) → Dec (j < e') → Dec (j < o + N) → Has N s (cell_of N rx') e' o' j → Has N s (cell_of N rx) e o j ⊎ X j
      go (yes y) z w h' = inl (inl y)
      go (no y) (yes z) w h' =
          offset (λ n. e ≤ n → n < e' → Has N s (cell_of N rx) e o n ⊎ X n) j (omega (arith, i.oe)) (λ k lk uk. told k lk (passed-in k uk) (passed-full k lk uk)) (omega arith) z
      go (no y) (no z) w (inl l) = absurd (z l)
      go (no y) (no z) (yes w) (inr h') =
          offset (λ n. e' ≤ n → n < o + N → is_full (cell_of N rx' (plus s n)) ≡ true → Has N s (cell_of N rx) e o n ⊎ X n) j (omega (arith, i.oe))
          (λ k lk uk f. told k (omega arith) (omega arith) (ap is_full (sym (then-ahead k lk (omega arith))) ∙ f)) h'.0 w h'.2
      go (no y) (no z) (no w) (inr h') = wrapped j (omega arith) h'.1 h'.2

  -- no message is passed by that would be handed out
  pub gone-unready : handed (take o' G) ≡ handed (take (o + from) G)
  gone-unready =
      let d = p.gone - from in
      let same : o + from + d ≡ o' = omega arith in
      ap (λ n. handed (take n G)) (sym same) ∙ handed-gap G (o + from) d (omega (arith, ahead, p.behind, given-all, i.oe))
      (λ k l.
      let q : o + (from + k) ≡ o + from + k = omega arith in
      ap (λ n. is_ready_kind (at G n).kind) (sym q)
      ∙ sym (then-lawful (from + k) (omega arith) (omega (arith, ahead, p.behind, i.oe))) ∙ gone-empty (from + k) (omega arith))
