-- What writing over one part of a state's words does to the state: that part says something else, and every other what it said. Assumes nothing.
use Rattle.std.specs.Prelude.{◌≡◌, ◌⊎◌, Bool, ℕ, ◌+◌, ◌≤◌, ◌<◌, ltb}
use Rattle.std.proofs.Common.{sym, ◌∙◌, ⊎_elim, eq-or-lt_of_le, ltb-true, ltb-false}
use Rattle.std.proofs.Math.Path.{ap, ap₂}
use Rattle.std.proofs.Math.Logic.{inl, inr}
use mathlib.Core.List.{List, [], ◌∷◌, map}
use native.Mathlib.Omega.{arith}
use borrow.Table.Steps.{cases}
use Rattle.std.proofs.Math.ListN.{length, get_or, set}
use Rattle.link.specs.declared.row.LinkRow.{LinkRow}
use Rattle.engine.specs.Stores.{copied}
use Rattle.engine.specs.Fields.{with_row, with_tx, with_rx, with_time, with_reader, with_packets, with_queue}
use Rattle.engine.specs.declared.state.State.{State}
use Rattle.engine.specs.declared.state.Sending.{Sending}
use Rattle.engine.specs.declared.state.Receiving.{Receiving}
use Rattle.words.specs.Parts.{part, part_at, part_in, part_out, copied-length, same_entries, put-entry}
use Rattle.words.specs.Layout.{WORDS, TX, RX, TIME, READER, row_start, acks_start, packet_start, QUEUE}
use Rattle.words.specs.Meaning.{seq_word, is_set, row_of, packet_of, acks_in, links_in, packets_in, queue_in, tx_of, rx_of, decoded, state_of, stated}

abbrev state_from : List LinkRow → Sending → Receiving → ℕ → Bool → State
state_from links tx rx time reads = record { links = links; tx = tx; rx = rx; time = time; read_open = reads }

same-state : {l l2 : List LinkRow} {t t2 : Sending} {r r2 : Receiving} {n n2 : ℕ} {b b2 : Bool} → l2 ≡ l → t2 ≡ t → r2 ≡ r → n2 ≡ n → b2 ≡ b → state_from l2 t2 r2 n2 b2 ≡ state_from l t r n b
same-state el et er en eb = λ i. state_from (el i) (et i) (er i) (en i) (eb i)

-- numbers that are not equal are before or after each other
unequal : (m n : ℕ) → (m ≡ n → ⊥) → (m < n) ⊎ (n < m)
unequal m n ne = cases (ltb m n) (λ t. inl (ltb-true m n t)) (λ t. ⊎_elim (λ e. absurd (ne (sym e))) (λ l. inr l) (eq-or-lt_of_le (ltb-false m n t)))

-- ---- each part, where another is written over

module _ (w vs : List ℕ) (a : ℕ) (fits : a + length vs ≤ length w) where
  word_out : (i : ℕ) → (i < a) ⊎ (a + length vs ≤ i) → get_or (copied w a vs) i 0 ≡ get_or w i 0
  word_out i h =
      let z : i + 0 ≡ i = omega arith in
      ap (λ n. get_or (copied w a vs) n 0) (sym z)
      ∙ sym (part_at i 1 0 (copied w a vs) (omega arith))
      ∙ ap (λ l. get_or l 0 0) (part_out w vs a fits i 1 (⊎_elim (λ l. inl (omega arith)) (λ r. inr r) h))
      ∙ part_at i 1 0 w (omega arith)
      ∙ ap (λ n. get_or w n 0) z

  acks-out : (j : ℕ) → (acks_start j + 64 ≤ a) ⊎ (a + length vs ≤ acks_start j) → acks_in (copied w a vs) j ≡ acks_in w j
  unfolding acks_in
  acks-out j h = ap (map seq_word) (part_out w vs a fits (acks_start j) 64 h)

  links-out : (a + length vs ≤ 32) ⊎ (672 ≤ a) → links_in (copied w a vs) ≡ links_in w
  unfolding links_in
  links-out h =
      same_entries (λ j. row_of (part (row_start j) 14 w) (acks_in w j)) (λ j. row_of (part (row_start j) 14 (copied w a vs)) (acks_in (copied w a vs) j)) 8
      (λ j lt. ap₂ row_of (part_out w vs a fits (row_start j) 14 (⊎_elim (λ l. inr (omega arith)) (λ r. inl (omega arith)) h)) (acks-out j (⊎_elim (λ l. inr (omega arith)) (λ r. inl (omega arith)) h)))

  packets-out : (a + length vs ≤ 672) ⊎ (1184 ≤ a) → packets_in (copied w a vs) ≡ packets_in w
  unfolding packets_in
  packets-out h =
      same_entries (λ k. packet_of (part (packet_start k) 8 w)) (λ k. packet_of (part (packet_start k) 8 (copied w a vs))) 64
      (λ k lt. ap packet_of (part_out w vs a fits (packet_start k) 8 (⊎_elim (λ l. inr (omega arith)) (λ r. inl (omega arith)) h)))

  queue-out : a + length vs ≤ QUEUE → queue_in (copied w a vs) ≡ queue_in w
  unfolding queue_in
  queue-out h = ap (map seq_word) (part_out w vs a fits QUEUE 64 (inr h))

  tx-out : 9 ≤ a → part TX 9 (copied w a vs) ≡ part TX 9 w
  tx-out h = part_out w vs a fits TX 9 (inl h)

  rx-out : (a + length vs ≤ 16) ⊎ (23 ≤ a) → part RX 7 (copied w a vs) ≡ part RX 7 w
  rx-out h = part_out w vs a fits RX 7 (⊎_elim (λ l. inr l) (λ r. inl r) h)

  reads-out : (a + length vs ≤ READER) ⊎ (READER < a) → is_set (get_or (copied w a vs) READER 0) ≡ is_set (get_or w READER 0)
  reads-out h = ap is_set (word_out READER (⊎_elim (λ l. inr l) (λ r. inl r) h))

-- ---- the state

module _ (w : List ℕ) (long : length w ≡ WORDS) (vs : List ℕ) where
  -- the state's parts after a write, one by one
  after : (a : ℕ) → a + length vs ≤ length w → {links : List LinkRow} {tx : Sending} {rx : Receiving} {time : ℕ} {reads : Bool}
      → links_in (copied w a vs) ≡ links → tx_of (part TX 9 (copied w a vs)) (packets_in (copied w a vs)) (queue_in (copied w a vs)) ≡ tx
      → rx_of (part RX 7 (copied w a vs)) ≡ rx → get_or (copied w a vs) TIME 0 ≡ time → is_set (get_or (copied w a vs) READER 0) ≡ reads
      → state_of (copied w a vs) ≡ state_from links tx rx time reads
  unfolding decoded
  after a fits el et er en eb = stated (copied w a vs) (copied-length w vs a fits ∙ long) ∙ same-state el et er en eb

  -- what a write from the rows on leaves
  module _ (a : ℕ) (fits : a + length vs ≤ length w) (low : 32 ≤ a) where
    rx-left : rx_of (part RX 7 (copied w a vs)) ≡ rx_of (part RX 7 w)
    rx-left = ap rx_of (rx-out w vs a fits (inr (omega arith)))

    time-left : get_or (copied w a vs) TIME 0 ≡ get_or w TIME 0
    time-left = word_out w vs a fits TIME (inl (omega arith))

    reads-left : is_set (get_or (copied w a vs) READER 0) ≡ is_set (get_or w READER 0)
    reads-left = reads-out w vs a fits (inr (omega arith))

    -- .. and one that ends before the packets
    tx-left : a + length vs ≤ 672 → tx_of (part TX 9 (copied w a vs)) (packets_in (copied w a vs)) (queue_in (copied w a vs)) ≡ tx_of (part TX 9 w) (packets_in w) (queue_in w)
    tx-left high = λ i. tx_of (tx-out w vs a fits (omega arith) i) (packets-out w vs a fits (inl high) i) (queue-out w vs a fits (omega arith) i)

  -- a slot's row
  pub row_written : (j : ℕ) → j < 8 → length vs ≡ 14 → state_of (copied w (row_start j) vs) ≡ with_row (state_of w) j (row_of vs (acks_in w j))
  unfolding decoded links_in
  row_written j lt e =
      let a = row_start j in
      let fits : a + length vs ≤ length w = omega arith in
      let others : (k : ℕ) → k < 8 → (k ≡ j → ⊥) → row_of (part (row_start k) 14 (copied w a vs)) (acks_in (copied w a vs) k) ≡ row_of (part (row_start k) 14 w) (acks_in w k) =
      λ k l ne. ap₂ row_of (part_out w vs a fits (row_start k) 14 (⊎_elim (λ h. inl (omega arith)) (λ h. inr (omega arith)) (unequal k j ne))) (acks-out w vs a fits k (inr (omega arith))) in
      let mine : row_of (part a 14 (copied w a vs)) (acks_in (copied w a vs) j) ≡ row_of vs (acks_in w j) =
      ap₂ row_of (ap (λ n. part a n (copied w a vs)) (sym e) ∙ part_in w vs a fits) (acks-out w vs a fits j (inr (omega arith))) in
      after a fits
      (put-entry (λ k. row_of (part (row_start k) 14 w) (acks_in w k)) (λ k. row_of (part (row_start k) 14 (copied w a vs)) (acks_in (copied w a vs) k)) 8 j (row_of vs (acks_in w j)) lt others mine)
      (tx-left a fits (omega arith) (omega arith)) (rx-left a fits (omega arith)) (time-left a fits (omega arith)) (reads-left a fits (omega arith))
      ∙ ap (λ s. with_row s j (row_of vs (acks_in w j))) (sym (stated w long))

  -- its acks
  pub acks-written : (j : ℕ) → j < 8 → length vs ≡ 64 → state_of (copied w (acks_start j) vs) ≡ with_row (state_of w) j (row_of (part (row_start j) 14 w) (map seq_word vs))
  unfolding decoded links_in acks_in
  acks-written j lt e =
      let a = acks_start j in
      let fits : a + length vs ≤ length w = omega arith in
      let others : (k : ℕ) → k < 8 → (k ≡ j → ⊥) → row_of (part (row_start k) 14 (copied w a vs)) (acks_in (copied w a vs) k) ≡ row_of (part (row_start k) 14 w) (acks_in w k) =
      λ k l ne. ap₂ row_of (part_out w vs a fits (row_start k) 14 (inl (omega arith))) (acks-out w vs a fits k (⊎_elim (λ h. inl (omega arith)) (λ h. inr (omega arith)) (unequal k j ne))) in
      let mine : row_of (part (row_start j) 14 (copied w a vs)) (acks_in (copied w a vs) j) ≡ row_of (part (row_start j) 14 w) (map seq_word vs) =
      ap₂ row_of (part_out w vs a fits (row_start j) 14 (inl (omega arith))) (ap (map seq_word) (ap (λ n. part a n (copied w a vs)) (sym e) ∙ part_in w vs a fits)) in
      after a fits
      (put-entry (λ k. row_of (part (row_start k) 14 w) (acks_in w k)) (λ k. row_of (part (row_start k) 14 (copied w a vs)) (acks_in (copied w a vs) k)) 8 j (row_of (part (row_start j) 14 w) (map seq_word vs)) lt others mine)
      (tx-left a fits (omega arith) (omega arith)) (rx-left a fits (omega arith)) (time-left a fits (omega arith)) (reads-left a fits (omega arith))
      ∙ ap (λ s. with_row s j (row_of (part (row_start j) 14 w) (map seq_word vs))) (sym (stated w long))

  -- a cell of the packet table
  pub packet-written : (k : ℕ) → k < 64 → length vs ≡ 8 → state_of (copied w (packet_start k) vs) ≡ with_tx (state_of w) (with_packets (state_of w).tx (set (state_of w).tx.txed_packets k (packet_of vs)))
  unfolding decoded packets_in tx_of
  packet-written k lt e =
      let a = packet_start k in
      let fits : a + length vs ≤ length w = omega arith in
      let others : (i : ℕ) → i < 64 → (i ≡ k → ⊥) → packet_of (part (packet_start i) 8 (copied w a vs)) ≡ packet_of (part (packet_start i) 8 w) =
      λ i l ne. ap packet_of (part_out w vs a fits (packet_start i) 8 (⊎_elim (λ h. inl (omega arith)) (λ h. inr (omega arith)) (unequal i k ne))) in
      let mine : packet_of (part a 8 (copied w a vs)) ≡ packet_of vs = ap packet_of (ap (λ n. part a n (copied w a vs)) (sym e) ∙ part_in w vs a fits) in
      let table : packets_in (copied w a vs) ≡ set (packets_in w) k (packet_of vs) =
      put-entry (λ i. packet_of (part (packet_start i) 8 w)) (λ i. packet_of (part (packet_start i) 8 (copied w a vs))) 64 k (packet_of vs) lt others mine in
      after a fits (links-out w vs a fits (inr (omega arith)))
      (λ i. tx_of (tx-out w vs a fits (omega arith) i) (table i) (queue-out w vs a fits (omega arith) i))
      (rx-left a fits (omega arith)) (time-left a fits (omega arith)) (reads-left a fits (omega arith))
      ∙ ap (λ (s : State). with_tx s (with_packets s.tx (set s.tx.txed_packets k (packet_of vs)))) (sym (stated w long))

  -- the resend queue, whose count stands elsewhere
  pub queue-written : length vs ≡ 64 → state_of (copied w QUEUE vs) ≡ with_tx (state_of w) (with_queue (state_of w).tx (map seq_word vs) (state_of w).tx.resend_count)
  unfolding decoded queue_in tx_of
  queue-written e =
      let fits : QUEUE + length vs ≤ length w = omega arith in
      let mine : queue_in (copied w QUEUE vs) ≡ map seq_word vs = ap (map seq_word) (ap (λ n. part QUEUE n (copied w QUEUE vs)) (sym e) ∙ part_in w vs QUEUE fits) in
      after QUEUE fits (links-out w vs QUEUE fits (inr (omega arith)))
      (λ i. tx_of (tx-out w vs QUEUE fits (omega arith) i) (packets-out w vs QUEUE fits (inr (omega arith)) i) (mine i))
      (rx-left QUEUE fits (omega arith)) (time-left QUEUE fits (omega arith)) (reads-left QUEUE fits (omega arith))
      ∙ ap (λ (s : State). with_tx s (with_queue s.tx (map seq_word vs) s.tx.resend_count)) (sym (stated w long))

  -- the sending half's numbers
  pub tx-written : length vs ≡ 9 → state_of (copied w TX vs) ≡ with_tx (state_of w) (tx_of vs (state_of w).tx.txed_packets (state_of w).tx.resend_queue)
  unfolding decoded tx_of
  tx-written e =
      let fits : TX + length vs ≤ length w = omega arith in
      let mine : part TX 9 (copied w TX vs) ≡ vs = ap (λ n. part TX n (copied w TX vs)) (sym e) ∙ part_in w vs TX fits in
      after TX fits (links-out w vs TX fits (inl (omega arith)))
      (λ i. tx_of (mine i) (packets-out w vs TX fits (inl (omega arith)) i) (queue-out w vs TX fits (omega arith) i))
      (ap rx_of (rx-out w vs TX fits (inl (omega arith)))) (word_out w vs TX fits TIME (inr (omega arith))) (reads-out w vs TX fits (inl (omega arith)))
      ∙ ap (λ (s : State). with_tx s (tx_of vs s.tx.txed_packets s.tx.resend_queue)) (sym (stated w long))

  -- the receiving half
  pub rx-written : length vs ≡ 7 → state_of (copied w RX vs) ≡ with_rx (state_of w) (rx_of vs)
  unfolding decoded
  rx-written e =
      let fits : RX + length vs ≤ length w = omega arith in
      let mine : part RX 7 (copied w RX vs) ≡ vs = ap (λ n. part RX n (copied w RX vs)) (sym e) ∙ part_in w vs RX fits in
      after RX fits (links-out w vs RX fits (inl (omega arith)))
      (λ i. tx_of (tx-out w vs RX fits (omega arith) i) (packets-out w vs RX fits (inl (omega arith)) i) (queue-out w vs RX fits (omega arith) i))
      (ap rx_of mine) (word_out w vs RX fits TIME (inr (omega arith))) (reads-out w vs RX fits (inl (omega arith)))
      ∙ ap (λ (s : State). with_rx s (rx_of vs)) (sym (stated w long))

-- the time, and the reader
module _ (w : List ℕ) (long : length w ≡ WORDS) (v : ℕ) where
  pub time-written : state_of (copied w TIME (v ∷ [])) ≡ with_time (state_of w) v
  unfolding decoded
  time-written =
      let fits : TIME + 1 ≤ length w = omega arith in
      let vs = v ∷ [] in
      after w long vs TIME fits (links-out w vs TIME fits (inl (omega arith)))
      (λ i. tx_of (tx-out w vs TIME fits (omega arith) i) (packets-out w vs TIME fits (inl (omega arith)) i) (queue-out w vs TIME fits (omega arith) i))
      (ap rx_of (rx-out w vs TIME fits (inr (omega arith)))) (sym (part_at TIME 1 0 (copied w TIME vs) (omega arith)) ∙ ap (λ l. get_or l 0 0) (part_in w vs TIME fits)) (reads-out w vs TIME fits (inl (omega arith)))
      ∙ ap (λ (s : State). with_time s v) (sym (stated w long))

  pub reader-written : state_of (copied w READER (v ∷ [])) ≡ with_reader (state_of w) (is_set v)
  unfolding decoded
  reader-written =
      let fits : READER + 1 ≤ length w = omega arith in
      let vs = v ∷ [] in
      after w long vs READER fits (links-out w vs READER fits (inl (omega arith)))
      (λ i. tx_of (tx-out w vs READER fits (omega arith) i) (packets-out w vs READER fits (inl (omega arith)) i) (queue-out w vs READER fits (omega arith) i))
      (ap rx_of (rx-out w vs READER fits (inr (omega arith)))) (word_out w vs READER fits TIME (inl (omega arith)))
      (ap is_set (sym (part_at READER 1 0 (copied w READER vs) (omega arith)) ∙ ap (λ l. get_or l 0 0) (part_in w vs READER fits)))
      ∙ ap (λ (s : State). with_reader s (is_set v)) (sym (stated w long))
