-- A link's waiting acks: one more behind the others, or one less in front. Assumes nothing.
use Rattle.std.specs.Prelude.{◌≡◌, true, List, [], ◌∷◌, ◌++◌, eqb, length, get_or, set, drop}
use Rattle.std.proofs.Common.{sym, ap, ◌∙◌}
use Prim.Native.Nat.{ℕ, suc, ◌+◌, ◌-◌, ◌≤◌, ◌<◌}
use native.Mathlib.Omega.{arith}
use Rattle.std.proofs.Math.ListN.{take}
use Rattle.std.proofs.lemmas.List.{take-append-le}
use Rattle.std.proofs.Math.Seq.{take-suc-set}
use borrow.Author.Tests.{lt-ltb, eqb-false}
use borrow.Table.Steps.{cases}
use Rattle.seq.specs.declared.Seq.{Seq}
use Rattle.seq.specs.Numbers.{seq_of}
use Rattle.refusal.specs.Tests.{false-true}
use Rattle.link.specs.declared.row.LinkRow.{LinkRow}
use Rattle.link.specs.Acks.{waiting, oldest_ack, ack_queued, shifted, ack_taken}
use Rattle.link.specs.Sizes.{ACKS}
use Rattle.engine.specs.HandingOut.{is_waiting, ack_in}

-- the first of so many, and the others moved one to the front
shifted-tail : (acks : List Seq) (c : ℕ) → length acks ≡ ACKS → c < ACKS → take (suc c) acks ≡ get_or acks 0 (seq_of 0) ∷ take c (shifted acks)
unfolding shifted
shifted-tail [] c full h = absurd (omega arith)
shifted-tail (x ∷ xs) c full h = ap (λ (ys : List Seq). x ∷ ys) (sym (take-append-le c xs (drop 63 (x ∷ xs)) (omega arith)))

module _ (r : LinkRow) (full : length r.tx_ack_queue ≡ ACKS) where
  -- an ack more
  pub queued-waiting : (seq : Seq) → r.ack_count < ACKS → waiting (ack_queued r seq) ≡ waiting r ++ (seq ∷ [])
  unfolding waiting ack_queued
  queued-waiting seq room =
      let one : r.ack_count + 1 ≡ suc r.ack_count = omega arith in
      simp (lt-ltb r.ack_count ACKS room)
      (ap (λ (c : ℕ). take c (set r.tx_ack_queue r.ack_count seq)) one
      ∙ take-suc-set r.tx_ack_queue r.ack_count seq (omega (arith, full, room)))

  -- the oldest less
  pub taken-waiting : is_waiting (oldest_ack r) ≡ true → r.ack_count ≤ ACKS → waiting r ≡ ack_in (oldest_ack r) ∷ waiting (ack_taken r)
  unfolding waiting oldest_ack ack_taken
  taken-waiting waits few =
      cases (eqb r.ack_count 0) (λ t. false-true (simp t at waits))
      (λ t.
      let c = r.ack_count - 1 in
      let some : r.ack_count ≡ 0 → ⊥ = eqb-false r.ack_count 0 t in
      let one : r.ack_count ≡ suc c = above some in
      simp t (ap (λ (k : ℕ). take k r.tx_ack_queue) one ∙ shifted-tail r.tx_ack_queue c full (omega arith)))
    where
      above : {k : ℕ} → (k ≡ 0 → ⊥) → k ≡ suc (k - 1)
      above {k} ne = omega arith
