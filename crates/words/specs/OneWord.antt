-- One word of a state's words is written where it stands: the field that it says is another, and no other is. Assumes nothing.
use Rattle.std.specs.Prelude.{◌≡◌, Bool, List, [], ◌∷◌, ◌++◌, set, take, drop, Some, None}
use Rattle.engine.specs.Held.{Held}
use Rattle.std.proofs.Math.Path.{refl, ap}
use Rattle.std.proofs.Common.{sym, ◌∙◌, length-set, take-append-drop, ext_get_or, length-take-le}
use Prim.Native.Nat.{ℕ, zero, suc, ◌+◌, ◌^◌, ◌≤◌, ◌<◌}
use native.Mathlib.Omega.{arith}
use Rattle.std.proofs.Math.ListN.{length, get_or}
use Rattle.refusal.specs.Answers.{flag}
use Rattle.seq.specs.declared.Seq.{Seq}
use Rattle.link.specs.declared.row.LinkRow.{LinkRow}
use Rattle.link.specs.Fields.{with_acks, with_sending}
use Rattle.link.specs.Row.{with_unacked}
use Rattle.engine.specs.declared.state.SentReliable.{SentReliable}
use Rattle.engine.specs.declared.state.SentReliableStatus.TheVariants.{Received}
use Rattle.engine.specs.declared.state.Receiving.{Receiving}
use Rattle.engine.specs.declared.state.Sending.{Sending}
use Rattle.engine.specs.declared.state.State.{State}
use Rattle.engine.specs.Fields.{with_status, with_row, with_tx, with_rx, with_packets, with_next, with_totals, with_ends, with_numbers, with_bytes, with_end}
use Rattle.engine.specs.Packets.{no_packet}
use Rattle.engine.specs.Records.{held_of}
use Rattle.engine.specs.Sound.{row_at}
use Rattle.engine.specs.Stores.{copied}
use Rattle.words.specs.Parts.{part, part_length, part_at, entries, entries-length, entry_at}
use Rattle.words.specs.Layout.{WORDS, TX, RX, row_start, packet_start}
use Rattle.words.specs.Meaning.{seq_word, row_of, status_of, packet_held, packet_of, acks_in, tx_of, rx_of, decoded, state_of, stated}
use Rattle.words.specs.Encoded.{set-flag, half-small, seq-small}
use Rattle.words.specs.Read.{row_read, packet-read}
use Rattle.words.specs.Written.{row_written, packet-written, tx-written, rx-written}

-- ---- a word of a part

front-set : (w : List ℕ) (n i v : ℕ) → i < n → n ≤ length w → set w i v ≡ set (take n w) i v ++ drop n w
front-set [] n i v lt h = absurd (omega arith)
front-set (x ∷ w) zero i v lt h = absurd (omega arith)
front-set (x ∷ w) (suc n) zero v lt h = ap (λ (l : List ℕ). v ∷ l) (sym (take-append-drop n w))
front-set (x ∷ w) (suc n) (suc i) v lt h = ap (λ (l : List ℕ). x ∷ l) (front-set w n i v (omega arith) (omega arith))

-- writing it is writing the whole part with that word
pub word-in-part : (w : List ℕ) (a n i v : ℕ) → i < n → a + n ≤ length w → set w (a + i) v ≡ copied w a (set (part a n w) i v)
word-in-part w zero n i v lt h =
    let at : zero + i ≡ i = omega arith in
    let long : zero + length (set (take n w) i v) ≡ n = rw (length-set (take n w) i v, length-take-le n w (omega arith)) (omega arith) in
    rw (at, long) (front-set w n i v lt (omega arith))
word-in-part [] (suc a) n i v lt h = absurd (omega arith)
word-in-part (x ∷ w) (suc a) n i v lt h =
    let at : suc a + i ≡ suc (a + i) = omega arith in
    let end : suc a + length (set (part a n w) i v) ≡ suc (a + length (set (part a n w) i v)) = omega arith in
    rw (at, end) (ap (λ (l : List ℕ). x ∷ l) (word-in-part w a n i v lt (omega arith)))

-- a list of so many words is its words one by one; what holds of these holds of it
spelled : (n : ℕ) (xs : List ℕ) → length xs ≡ n → xs ≡ entries n (λ i. get_or xs i 0)
spelled n xs e =
    let F : ℕ → ℕ = λ i. get_or xs i 0 in
    ext_get_or 0 xs (entries n F) (e ∙ sym (entries-length F n)) (λ i h. sym (entry_at F n i 0 (omega arith)))

by-words : {X : Type 0} (n : ℕ) (xs : List ℕ) → length xs ≡ n → (f g : List ℕ → X) → f (entries n (λ i. get_or xs i 0)) ≡ g (entries n (λ i. get_or xs i 0)) → f xs ≡ g xs
by-words n xs e f g h = ap f (spelled n xs e) ∙ h ∙ ap g (sym (spelled n xs e))

module _ (w : List ℕ) (long : length w ≡ WORDS) where
  -- ---- a row

  module _ (j : ℕ) (lt : j < 8) where
    abbrev row_part : List ℕ
    row_part = part (row_start j) 14 w

    row-long : length row_part ≡ 14
    row-long = part_length (row_start j) 14 w (omega arith)

    abbrev pub row_word : ℕ → ℕ
    row_word i = get_or row_part i 0

    -- a row in other words is the row with its change
    pub row-changed : (f : List ℕ → List ℕ) (g : LinkRow → LinkRow) → length (f row_part) ≡ 14 → row_of (f (entries 14 row_word)) (acks_in w j) ≡ g (row_of (entries 14 row_word) (acks_in w j))
        → state_of (copied w (row_start j) (f row_part)) ≡ with_row (state_of w) j (g (row_at (state_of w) j))
    row-changed f g n h =
        row_written w long (f row_part) j lt n
        ∙ ap (with_row (state_of w) j) (by-words 14 row_part row-long (λ l. row_of (f l) (acks_in w j)) (λ l. g (row_of l (acks_in w j))) h)
        ∙ ap (λ r. with_row (state_of w) j (g r)) (sym (row_read w long j lt))

    row_field : (i v : ℕ) (g : LinkRow → LinkRow) → i < 14 → row_of (set (entries 14 row_word) i v) (acks_in w j) ≡ g (row_of (entries 14 row_word) (acks_in w j))
        → state_of (set w (row_start j + i) v) ≡ with_row (state_of w) j (g (row_at (state_of w) j))
    row_field i v g h e =
        ap state_of (word-in-part w (row_start j) 14 i v h (omega arith))
        ∙ row-changed (λ l. set l i v) g (length-set row_part i v ∙ row-long) e

    pub unacked-data-put : (v : ℕ) → v < 2 ^ 32 → state_of (set w (row_start j + 12) v) ≡ with_row (state_of w) j (with_unacked (row_at (state_of w) j) v)
    unfolding row_of with_unacked
    unacked-data-put v small =
        row_field 12 v (λ r. with_sending r r.limit_increased v) (omega arith)
        (ap (λ n. with_sending (row_of (entries 14 row_word) (acks_in w j)) (row_of (entries 14 row_word) (acks_in w j)).limit_increased n) (half-small v small))

    pub ack-count-read : (row_at (state_of w) j).ack_count ≡ get_or w (row_start j + 13) 0
    unfolding row_of
    ack-count-read = ap (λ (r : LinkRow). r.ack_count) (row_read w long j lt) ∙ part_at (row_start j) 14 13 w (omega arith)

    pub ack-count-put : (n : ℕ) → state_of (set w (row_start j + 13) n) ≡ with_row (state_of w) j (with_acks (row_at (state_of w) j) (row_at (state_of w) j).tx_ack_queue n)
    unfolding row_of
    ack-count-put n = row_field 13 n (λ r. with_acks r r.tx_ack_queue n) (omega arith) refl

  -- ---- the sending half

  abbrev tx_part : List ℕ
  tx_part = part TX 9 w

  abbrev tx_word : ℕ → ℕ
  tx_word i = get_or tx_part i 0

  tx-field : (i v : ℕ) (g : Sending → Sending) → i < 9
      → ((ps : List SentReliable) (q : List Seq) → tx_of (set (entries 9 tx_word) i v) ps q ≡ g (tx_of (entries 9 tx_word) ps q))
      → state_of (set w i v) ≡ with_tx (state_of w) (g (state_of w).tx)
  unfolding decoded
  tx-field i v g h e =
      let at : TX + i ≡ i = omega arith in
      let n : length tx_part ≡ 9 = part_length TX 9 w (omega arith) in
      ap (λ k. state_of (set w k v)) (sym at)
      ∙ ap state_of (word-in-part w TX 9 i v h (omega arith))
      ∙ tx-written w long (set tx_part i v) (length-set tx_part i v ∙ n)
      ∙ ap (λ (s : State). with_tx s (tx_of (set tx_part i v) s.tx.txed_packets s.tx.resend_queue)) (stated w long)
      ∙ ap (with_tx (decoded w)) (by-words 9 tx_part n (λ l. tx_of (set l i v) (decoded w).tx.txed_packets (decoded w).tx.resend_queue) (λ l. g (tx_of l (decoded w).tx.txed_packets (decoded w).tx.resend_queue)) (e (decoded w).tx.txed_packets (decoded w).tx.resend_queue))
      ∙ ap (λ (s : State). with_tx s (g s.tx)) (sym (stated w long))

  pub txed-unacked-put : (v : ℕ) → v < 2 ^ 32 → state_of (set w 3 v) ≡ with_tx (state_of w) (with_totals (state_of w).tx v (state_of w).tx.txed_unconsumed (state_of w).tx.txed_unconsumable)
  unfolding tx_of
  txed-unacked-put v small =
      tx-field 3 v (λ tx. with_totals tx v tx.txed_unconsumed tx.txed_unconsumable) (omega arith)
      (λ ps q. ap (λ n. let tx = tx_of (entries 9 tx_word) ps q in with_totals tx n tx.txed_unconsumed tx.txed_unconsumable) (half-small v small))

  pub txed-unconsumed-put : (v : ℕ) → v < 2 ^ 32 → state_of (set w 4 v) ≡ with_tx (state_of w) (with_totals (state_of w).tx (state_of w).tx.txed_unacked v (state_of w).tx.txed_unconsumable)
  unfolding tx_of
  txed-unconsumed-put v small =
      tx-field 4 v (λ tx. with_totals tx tx.txed_unacked v tx.txed_unconsumable) (omega arith)
      (λ ps q. ap (λ n. let tx = tx_of (entries 9 tx_word) ps q in with_totals tx tx.txed_unacked n tx.txed_unconsumable) (half-small v small))

  pub txed-unconsumable-put : (v : ℕ) → v < 2 ^ 32 → state_of (set w 5 v) ≡ with_tx (state_of w) (with_totals (state_of w).tx (state_of w).tx.txed_unacked (state_of w).tx.txed_unconsumed v)
  unfolding tx_of
  txed-unconsumable-put v small =
      tx-field 5 v (λ tx. with_totals tx tx.txed_unacked tx.txed_unconsumed v) (omega arith)
      (λ ps q. ap (λ n. let tx = tx_of (entries 9 tx_word) ps q in with_totals tx tx.txed_unacked tx.txed_unconsumed n) (half-small v small))

  pub tx-seq-put : (seq : Seq) → seq.0 < 2 ^ 32 → state_of (set w 0 seq.0) ≡ with_tx (state_of w) (with_next (state_of w).tx seq (state_of w).tx.txed_packets (state_of w).tx.txed_count)
  unfolding tx_of
  tx-seq-put seq small =
      tx-field 0 seq.0 (λ tx. with_next tx seq tx.txed_packets tx.txed_count) (omega arith)
      (λ ps q. ap (λ n. let tx = tx_of (entries 9 tx_word) ps q in with_next tx n tx.txed_packets tx.txed_count) (seq-small seq small))

  pub txed-count-put : (n : ℕ) → state_of (set w 1 n) ≡ with_tx (state_of w) (with_next (state_of w).tx (state_of w).tx.tx_seq (state_of w).tx.txed_packets n)
  unfolding tx_of
  txed-count-put n = tx-field 1 n (λ tx. with_next tx tx.tx_seq tx.txed_packets n) (omega arith) (λ ps q. refl)

  pub last-consumed-put : (seq : Seq) → seq.0 < 2 ^ 32 → state_of (set w 6 seq.0) ≡ with_tx (state_of w) (with_ends (state_of w).tx seq (state_of w).tx.send_finish_sent (state_of w).tx.write_closed)
  unfolding tx_of
  last-consumed-put seq small =
      tx-field 6 seq.0 (λ tx. with_ends tx seq tx.send_finish_sent tx.write_closed) (omega arith)
      (λ ps q. ap (λ n. let tx = tx_of (entries 9 tx_word) ps q in with_ends tx n tx.send_finish_sent tx.write_closed) (seq-small seq small))

  pub finish-sent-put : (b : Bool) → state_of (set w 7 (flag b)) ≡ with_tx (state_of w) (with_ends (state_of w).tx (state_of w).tx.txed_last_consumed b (state_of w).tx.write_closed)
  unfolding tx_of
  finish-sent-put b =
      tx-field 7 (flag b) (λ tx. with_ends tx tx.txed_last_consumed b tx.write_closed) (omega arith)
      (λ ps q. ap (λ n. let tx = tx_of (entries 9 tx_word) ps q in with_ends tx tx.txed_last_consumed n tx.write_closed) (set-flag b))

  pub write-closed-put : (b : Bool) → state_of (set w 8 (flag b)) ≡ with_tx (state_of w) (with_ends (state_of w).tx (state_of w).tx.txed_last_consumed (state_of w).tx.send_finish_sent b)
  unfolding tx_of
  write-closed-put b =
      tx-field 8 (flag b) (λ tx. with_ends tx tx.txed_last_consumed tx.send_finish_sent b) (omega arith)
      (λ ps q. ap (λ n. let tx = tx_of (entries 9 tx_word) ps q in with_ends tx tx.txed_last_consumed tx.send_finish_sent n) (set-flag b))

  -- ---- the receiving half

  abbrev rx_part : List ℕ
  rx_part = part RX 7 w

  abbrev rx_word : ℕ → ℕ
  rx_word i = get_or rx_part i 0

  rx-field : (i v : ℕ) (g : Receiving → Receiving) → i < 7 → rx_of (set (entries 7 rx_word) i v) ≡ g (rx_of (entries 7 rx_word)) → state_of (set w (RX + i) v) ≡ with_rx (state_of w) (g (state_of w).rx)
  unfolding decoded
  rx-field i v g h e =
      let n : length rx_part ≡ 7 = part_length RX 7 w (omega arith) in
      ap state_of (word-in-part w RX 7 i v h (omega arith))
      ∙ rx-written w long (set rx_part i v) (length-set rx_part i v ∙ n)
      ∙ ap (with_rx (state_of w)) (by-words 7 rx_part n (λ l. rx_of (set l i v)) (λ l. g (rx_of l)) e)
      ∙ ap (λ (s : State). with_rx (state_of w) (g s.rx)) (sym (stated w long))

  pub rx-seq-put : (seq : Seq) → seq.0 < 2 ^ 32 → state_of (set w 16 seq.0) ≡ with_rx (state_of w) (with_numbers (state_of w).rx seq (state_of w).rx.rx_oldest)
  unfolding rx_of
  rx-seq-put seq small = rx-field 0 seq.0 (λ rx. with_numbers rx seq rx.rx_oldest) (omega arith) (ap (λ n. let rx = rx_of (entries 7 rx_word) in with_numbers rx n rx.rx_oldest) (seq-small seq small))

  pub rx-oldest-put : (seq : Seq) → seq.0 < 2 ^ 32 → state_of (set w 17 seq.0) ≡ with_rx (state_of w) (with_numbers (state_of w).rx (state_of w).rx.rx_seq seq)
  unfolding rx_of
  rx-oldest-put seq small = rx-field 1 seq.0 (λ rx. with_numbers rx rx.rx_seq seq) (omega arith) (ap (λ n. let rx = rx_of (entries 7 rx_word) in with_numbers rx rx.rx_seq n) (seq-small seq small))

  pub untaken-put : (v : ℕ) → v < 2 ^ 32 → state_of (set w 18 v) ≡ with_rx (state_of w) (with_bytes (state_of w).rx v (state_of w).rx.rxed_reliable_consumed)
  unfolding rx_of
  untaken-put v small = rx-field 2 v (λ rx. with_bytes rx v rx.rxed_reliable_consumed) (omega arith) (ap (λ n. let rx = rx_of (entries 7 rx_word) in with_bytes rx n rx.rxed_reliable_consumed) (half-small v small))

  pub untold-put : (v : ℕ) → v < 2 ^ 32 → state_of (set w 19 v) ≡ with_rx (state_of w) (with_bytes (state_of w).rx (state_of w).rx.rxed_reliable_size v)
  unfolding rx_of
  untold-put v small = rx-field 3 v (λ rx. with_bytes rx rx.rxed_reliable_size v) (omega arith) (ap (λ n. let rx = rx_of (entries 7 rx_word) in with_bytes rx rx.rxed_reliable_size n) (half-small v small))

  pub rx-end-put : (seq : Seq) → seq.0 < 2 ^ 32 → state_of (set w 22 seq.0) ≡ with_rx (state_of w) (with_end (state_of w).rx seq)
  unfolding rx_of
  rx-end-put seq small = rx-field 6 seq.0 (λ rx. with_end rx seq) (omega arith) (ap (λ n. let rx = rx_of (entries 7 rx_word) in with_end rx n) (seq-small seq small))

  -- ---- a packet: its tag says that it was Received

  received-held : (h : Held) (seq : Seq) (st : _) → packet_held h seq Received ≡ with_status (packet_held h seq st) Received
  received-held (Some (msg, len)) seq st = refl
  received-held None seq st = refl

  pub received-put : (k : ℕ) → k < 64
      → state_of (set w (packet_start k + 2) 3) ≡ with_tx (state_of w) (with_packets (state_of w).tx (set (state_of w).tx.txed_packets k (with_status (get_or (state_of w).tx.txed_packets k no_packet) Received)))
  unfolding packet_of status_of
  received-put k lt =
      let xs = part (packet_start k) 8 w in
      let n : length xs ≡ 8 = part_length (packet_start k) 8 w (omega arith) in
      let F : ℕ → ℕ = λ i. get_or xs i 0 in
      ap state_of (word-in-part w (packet_start k) 8 2 3 (omega arith) (omega arith))
      ∙ packet-written w long (set xs 2 3) k lt (length-set xs 2 3 ∙ n)
      ∙ ap (λ p. with_tx (state_of w) (with_packets (state_of w).tx (set (state_of w).tx.txed_packets k p)))
      (by-words 8 xs n (λ l. packet_of (set l 2 3)) (λ l. with_status (packet_of l) Received) (received-held (held_of (get_or xs 1 0)) (seq_word (get_or xs 0 0)) (status_of (entries 8 F))))
      ∙ ap (λ p. with_tx (state_of w) (with_packets (state_of w).tx (set (state_of w).tx.txed_packets k (with_status p Received)))) (sym (packet-read w long k lt))
