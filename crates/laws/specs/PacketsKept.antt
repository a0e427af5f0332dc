-- Lists of packets that are changed in their places, get one more at the end or lose their first ones: the places, the sums, the resend queue.
-- Assumes nothing.
use Rattle.std.specs.Prelude.{◌≡◌, false, ℕ, zero, suc, ◌+◌, ◌%◌, ◌≤◌, ◌<◌, length, get_or, set, drop}
use Rattle.std.proofs.Math.Path.{refl, ap₂}
use Rattle.std.proofs.Common.{ap, ◌∙◌, length-append, length-drop}
use mathlib.Core.List.{List, [], ◌∷◌, ◌++◌, map}
use Rattle.std.proofs.Math.Decide.{ℕ_discrete}
use native.Mathlib.Omega.{arith}
use Rattle.std.proofs.Math.ListN.{get_or-append}
use Rattle.std.proofs.lemmas.List.{get_or_at}
use borrow.Table.Steps.{cases}
use Rattle.engine.specs.declared.state.SentReliable.{SentReliable}
use Rattle.engine.specs.declared.state.Sending.{Sending}
use Rattle.engine.specs.Ring.{window-length}
use Rattle.engine.specs.Packets.{no_packet, first_of, packets, queue, is_queued, queued_of, Pick, weight, sum_of}
use Rattle.engine.specs.Queue.{requeued, requeued-queue}
use Rattle.engine.specs.Sizes.{PACKETS}

-- the table has as many packets as it counts
pub packets-count : (tx : Sending) → length (packets tx) ≡ tx.txed_count
packets-count tx = window-length PACKETS no_packet tx.txed_packets (first_of tx % PACKETS) tx.txed_count

-- ---- every packet is changed in its place

pub map-length : {A : Type 0} (f : A → A) (xs : List A) → length (map f xs) ≡ length xs
map-length f [] = refl
map-length f (x ∷ xs) = ap suc (map-length f xs)

module _ {A : Type 0} (f : A → A) (d : A) where
  pub map_at : (xs : List A) (i : ℕ) → i < length xs → get_or (map f xs) i d ≡ f (get_or xs i d)
  map_at [] i h = absurd (omega arith)
  map_at (x ∷ xs) zero h = refl
  map_at (x ∷ xs) (suc i) h = map_at xs i (omega arith)

module _ (f : SentReliable → SentReliable) where
  -- a sum stays where every packet keeps its weight
  pub sum-mapped : (k : Pick) → ((p : SentReliable) → weight k (f p) ≡ weight k p) → (ps : List SentReliable) → sum_of k (map f ps) ≡ sum_of k ps
  unfolding sum_of
  sum-mapped k e [] = refl
  sum-mapped k e (p ∷ ps) = ap₂ (λ a b. a + b) (e p) (sum-mapped k e ps)

  -- the queued packets stay where every packet keeps its number and whether it is queued
  pub queued-mapped : ((p : SentReliable) → (f p).seq ≡ p.seq) → ((p : SentReliable) → is_queued (f p).status ≡ is_queued p.status)
      → (ps : List SentReliable) → queued_of (map f ps) ≡ queued_of ps
  unfolding queued_of
  queued-mapped n q [] = refl
  queued-mapped n q (p ∷ ps) = simp (n p, q p, queued-mapped n q ps)

  -- what holds of each packet, place by place
  pub each-mapped : (P Q : ℕ → SentReliable → Type 0) (ps : List SentReliable) (count : ℕ) → length ps ≡ count
      → ((i : ℕ) (p : SentReliable) → P i p → Q i (f p))
      → ((i : ℕ) → i < count → P i (get_or ps i no_packet)) → (i : ℕ) → i < count → Q i (get_or (map f ps) i no_packet)
  each-mapped P Q ps count l step h i g = rw (map_at f no_packet ps i (omega arith)) (step i (get_or ps i no_packet) (h i g))

-- ---- one packet is replaced

-- one weight out, another in
pub sum-set : (k : Pick) (ps : List SentReliable) (i : ℕ) (p : SentReliable) → i < length ps
    → sum_of k (set ps i p) + weight k (get_or ps i no_packet) ≡ sum_of k ps + weight k p
unfolding sum_of
sum-set k [] i p h = absurd (omega arith)
sum-set k (q ∷ ps) zero p h = omega arith
sum-set k (q ∷ ps) (suc i) p h = omega (arith, sum-set k ps i p (omega arith))

-- the queued numbers, where the new packet is queued or not as the old was
pub queued-set : (ps : List SentReliable) (i : ℕ) (p : SentReliable) → p.seq ≡ (get_or ps i no_packet).seq
    → is_queued p.status ≡ is_queued (get_or ps i no_packet).status → queued_of (set ps i p) ≡ queued_of ps
unfolding queued_of
queued-set [] i p e u = refl
queued-set (q ∷ ps) zero p e u = simp (e, u)
queued-set (q ∷ ps) (suc i) p e u = simp (queued-set ps i p e u)

-- ---- one packet is added at the end

module _ (p : SentReliable) where
  -- it adds its weight to each sum
  pub sum_added : (k : Pick) (ps : List SentReliable) → sum_of k (ps ++ (p ∷ [])) ≡ sum_of k ps + weight k p
  unfolding sum_of
  sum_added k [] = omega arith
  sum_added k (q ∷ qs) = omega (arith, sum_added k qs)

  -- the queued packets stay where it isn't one
  pub queued-added : is_queued p.status ≡ false → (ps : List SentReliable) → queued_of (ps ++ (p ∷ [])) ≡ queued_of ps
  unfolding queued_of
  queued-added e [] = simp e
  queued-added e (q ∷ qs) = simp (queued-added e qs)

  -- what holds of each packet, place by place
  pub each-added : (P : ℕ → SentReliable → Type 0) (ps : List SentReliable) (count : ℕ) → length ps ≡ count
      → ((i : ℕ) → i < count → P i (get_or ps i no_packet)) → P count p → (i : ℕ) → i < count + 1 → P i (get_or (ps ++ (p ∷ [])) i no_packet)
  each-added P ps count l h last i g =
      elim (ℕ_discrete i count) [
        | yes e ↦ rw e (rw (get_or_at ps p [] no_packet count l) last)
        | no ne ↦ rw (get_or-append ps (p ∷ []) no_packet i (omega arith)) (h i (omega arith))
      ]

-- ---- the resend queue is made anew

-- no more are queued than there are
queued-le : (ps : List SentReliable) → length (queued_of ps) ≤ length ps
unfolding queued_of
queued-le [] = omega arith
queued-le (p ∷ ps) = cases (is_queued p.status) (λ q. simp q (omega (arith, queued-le ps))) (λ q. simp q (omega (arith, queued-le ps)))

-- a queue made anew lists just the queued packets, and has the same places
pub requeued-kept : (tx : Sending) → tx.txed_count ≤ PACKETS → length tx.resend_queue ≡ PACKETS
    → (queue (requeued tx) ≡ queued_of (packets tx)) × ((requeued tx).resend_count ≤ PACKETS) × (length (requeued tx).resend_queue ≡ PACKETS)
unfolding requeued
requeued-kept tx few long =
    let numbers = queued_of (packets tx) in
    let room = queued-le (packets tx) in (
      requeued-queue tx,
      omega (arith, packets-count tx),
      length-append numbers (drop (length numbers) tx.resend_queue)
          ∙ omega (arith, length-drop (length numbers) tx.resend_queue, packets-count tx),
    )
