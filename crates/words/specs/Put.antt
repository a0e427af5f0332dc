-- What the functions leave that write a part of a state's words: the part was lent on as a run, and came back as the words of what is put there.
-- Assumes nothing.
use Rattle.std.specs.Prelude.{◌≡◌, refl, ℕ, zero, suc, ◌+◌, ◌-◌, ◌^◌, ◌<◌, take, Bool}
use Rattle.std.proofs.Common.{sym, ◌∙◌, arith, length-append}
use Rattle.std.proofs.Math.Path.{ap}
use mathlib.Core.List.{List, [], ◌∷◌, ◌++◌, map}
use Rattle.std.proofs.Math.ListN.{length, set, drop, length-set, length-drop}
use Rattle.seq.specs.declared.Seq.{Seq}
use Rattle.seq.specs.Numbers.{seq_of}
use Rattle.link.specs.declared.row.LinkRow.{LinkRow}
use Rattle.link.specs.Fields.{with_acks, with_trip, with_sending}
use Rattle.link.specs.Acks.{shifted}
use Rattle.engine.specs.declared.state.Receiving.{Receiving}
use Rattle.engine.specs.declared.state.SentReliable.{SentReliable}
use Rattle.engine.specs.Fields.{with_row, with_tx, with_rx, with_time, with_reader, with_packets, with_queue}
use Rattle.engine.specs.Sound.{row_at}
use Rattle.refusal.specs.Answers.{flag}
use Rattle.words.specs.declared.sending.SendingNumbers.{SendingNumbers}
use Rattle.words.specs.Parts.{part, part_length, one_word, lent-part, entries}
use Rattle.words.specs.Layout.{WORDS, TX, RX, TIME, READER, row_start, packet_start, QUEUE, acks_start}
use Rattle.words.specs.Meaning.{seq_word, row_of, acks_in, queue_in, state_of}
use Rattle.words.specs.Encoded.{set-flag, half-small, rx_words, SmallRx, rx-back, with_counts, numbers_words, SmallNumbers, tx-back, row_words, SmallLimit, limit-back, row_back, acked_words, packet_words, SmallSlot, packet-back}
use Rattle.words.specs.OneWord.{row_word, row-changed}
use Rattle.words.specs.Read.{acks-read, queue-read, row_read}
use Rattle.words.specs.Written.{row_written, packet-written, queue-written, tx-written, rx-written, time-written, reader-written, acks-written}

-- a run of n words from the place a on, lent and come back as `new`
abbrev pub lent : List ℕ → ℕ → ℕ → List ℕ → List ℕ
lent w a n new = take a w ++ (new ++ drop (a + n - a) (drop a w))

-- what was lent
abbrev pub run : List ℕ → ℕ → ℕ → List ℕ
run w a n = take (a + n - a) (drop a w)

run-part : (w : List ℕ) (a n : ℕ) → run w a n ≡ part a n w
run-part w a n = let k : a + n - a ≡ n = omega arith in ap (λ m. take m (drop a w)) k

came : (w vs new : List ℕ) (a n : ℕ) → length vs ≡ n → new ≡ vs → state_of (lent w a n new) ≡ state_of (take a w ++ (vs ++ drop (a + length vs) w))
came w vs new a n e h = ap (λ (l : List ℕ). state_of (lent w a n l)) h ∙ ap state_of (lent-part w vs a n e)

-- one number of a run
run-set : (xs : List ℕ) (i : ℕ) (seq : Seq) → seq.0 < 2 ^ 32 → map seq_word (set xs i seq.0) ≡ set (map seq_word xs) i seq
run-set [] i seq h = refl
run-set (x ∷ xs) zero seq h = ap (λ (y : Seq). y ∷ map seq_word xs) (ap seq_of (half-small seq.0 h))
run-set (x ∷ xs) (suc i) seq h = ap (λ (l : List Seq). seq_word x ∷ l) (run-set xs i seq h)

-- the numbers of a run from one on, and of two runs
run_drop : (n : ℕ) (xs : List ℕ) → map seq_word (drop n xs) ≡ drop n (map seq_word xs)
run_drop zero xs = refl
run_drop (suc n) [] = refl
run_drop (suc n) (x ∷ xs) = run_drop n xs

run-append : (xs ys : List ℕ) → map seq_word (xs ++ ys) ≡ map seq_word xs ++ map seq_word ys
run-append [] ys = refl
run-append (x ∷ xs) ys = ap (λ (l : List Seq). seq_word x ∷ l) (run-append xs ys)

module _ (w : List ℕ) (long : length w ≡ WORDS) where
  pub time-put : (v : ℕ) → state_of (set w TIME v) ≡ with_time (state_of w) v
  time-put v = ap state_of (one_word w TIME v (omega arith)) ∙ time-written w long v

  pub reader-put : (b : Bool) → state_of (set w READER (flag b)) ≡ with_reader (state_of w) b
  reader-put b = ap state_of (one_word w READER (flag b) (omega arith)) ∙ reader-written w long (flag b) ∙ ap (with_reader (state_of w)) (set-flag b)

  pub rx-put : (new : List ℕ) (rx : Receiving) → SmallRx rx → new ≡ rx_words rx → state_of (lent w RX 7 new) ≡ with_rx (state_of w) rx
  rx-put new rx small e = came w (rx_words rx) new RX 7 refl e ∙ rx-written w long (rx_words rx) refl ∙ ap (with_rx (state_of w)) (rx-back rx small)

  pub tx-put : (new : List ℕ) (n : SendingNumbers) → SmallNumbers n → new ≡ numbers_words n → state_of (lent w TX 9 new) ≡ with_tx (state_of w) (with_counts (state_of w).tx n)
  tx-put new n small e = came w (numbers_words n) new TX 9 refl e ∙ tx-written w long (numbers_words n) refl ∙ ap (with_tx (state_of w)) (tx-back n (state_of w).tx small)

  pub packet-put : (new : List ℕ) (k : ℕ) (p : SentReliable) → k < 64 → p.seq.0 < 2 ^ 32 → p.len < 2 ^ 24 → SmallSlot p.status → new ≡ packet_words p
      → state_of (lent w (packet_start k) 8 new) ≡ with_tx (state_of w) (with_packets (state_of w).tx (set (state_of w).tx.txed_packets k p))
  packet-put new k p lt number short slot e =
      came w (packet_words p) new (packet_start k) 8 refl e
      ∙ packet-written w long (packet_words p) k lt refl
      ∙ ap (λ q. with_tx (state_of w) (with_packets (state_of w).tx (set (state_of w).tx.txed_packets k q))) (packet-back p number short slot)

  pub row_put : (new : List ℕ) (j : ℕ) (r : LinkRow) → j < 8 → r.txed_unacked_data < 2 ^ 32 → SmallLimit r.limit_increased → new ≡ row_words r
      → state_of (lent w (row_start j) 14 new) ≡ with_row (state_of w) j (with_acks r (row_at (state_of w) j).tx_ack_queue r.ack_count)
  row_put new j r lt small mark e =
      came w (row_words r) new (row_start j) 14 refl e
      ∙ row_written w long (row_words r) j lt refl
      ∙ ap (with_row (state_of w) j) (row_back r (acks_in w j) small mark ∙ ap (λ (l : List Seq). with_acks r l r.ack_count) (sym (acks-read w long j lt)))

  -- .. of which an ack changes five words
  pub acked-put : (new : List ℕ) (j : ℕ) (r : LinkRow) → j < 8 → r.txed_unacked_data < 2 ^ 32 → SmallLimit r.limit_increased → new ≡ acked_words (run w (row_start j) 14) r
      → state_of (lent w (row_start j) 14 new) ≡ with_row (state_of w) j (with_trip (with_sending (row_at (state_of w) j) r.limit_increased r.txed_unacked_data) r.roundtrip r.zero_estimate (row_at (state_of w) j).current_ping_sent)
  unfolding row_of
  acked-put new j r lt small mark e =
      let xs = part (row_start j) 14 w in
      let n : length (acked_words xs r) ≡ 14 = simp length-set (part_length (row_start j) 14 w (omega arith)) in
      let row = row_of (entries 14 (row_word w long j lt)) (acks_in w j) in
      came w (acked_words xs r) new (row_start j) 14 n (e ∙ ap (λ (l : List ℕ). acked_words l r) (run-part w (row_start j) 14))
      ∙ row-changed w long j lt (λ l. acked_words l r) (λ q. with_trip (with_sending q r.limit_increased r.txed_unacked_data) r.roundtrip r.zero_estimate q.current_ping_sent) n
      (λ i. with_trip (with_sending row (limit-back r.limit_increased mark i) (half-small r.txed_unacked_data small i)) r.roundtrip (set-flag r.zero_estimate i) row.current_ping_sent)

  -- a slot's acks, its row being as it was
  acks-put : (vs : List ℕ) (j : ℕ) → j < 8 → length vs ≡ 64 → (acks : List Seq) → map seq_word vs ≡ acks
      → state_of (take (acks_start j) w ++ (vs ++ drop (acks_start j + length vs) w)) ≡ with_row (state_of w) j (with_acks (row_at (state_of w) j) acks (row_at (state_of w) j).ack_count)
  unfolding row_of
  acks-put vs j lt e acks h =
      acks-written w long vs j lt e
      ∙ ap (λ (l : List Seq). with_row (state_of w) j (row_of (part (row_start j) 14 w) l)) h
      ∙ ap (λ r. with_row (state_of w) j (with_acks r acks r.ack_count)) (sym (row_read w long j lt))

  acks-long : (j : ℕ) → j < 8 → length (part (acks_start j) 64 w) ≡ 64
  acks-long j lt = part_length (acks_start j) 64 w (omega arith)

  pub ack-put : (new : List ℕ) (j i : ℕ) (seq : Seq) → j < 8 → seq.0 < 2 ^ 32 → new ≡ set (run w (acks_start j) 64) i seq.0
      → state_of (lent w (acks_start j) 64 new) ≡ with_row (state_of w) j (with_acks (row_at (state_of w) j) (set (row_at (state_of w) j).tx_ack_queue i seq) (row_at (state_of w) j).ack_count)
  unfolding acks_in
  ack-put new j i seq lt small e =
      let vs = set (part (acks_start j) 64 w) i seq.0 in
      let n : length vs ≡ 64 = length-set (part (acks_start j) 64 w) i seq.0 ∙ acks-long j lt in
      came w vs new (acks_start j) 64 n (e ∙ ap (λ (l : List ℕ). set l i seq.0) (run-part w (acks_start j) 64))
      ∙ acks-put vs j lt n (set (row_at (state_of w) j).tx_ack_queue i seq)
      (run-set (part (acks_start j) 64 w) i seq small ∙ ap (λ (l : List Seq). set l i seq) (sym (acks-read w long j lt)))

  pub acks-shift : (new : List ℕ) (j : ℕ) → j < 8 → new ≡ drop 1 (run w (acks_start j) 64) ++ drop 63 (run w (acks_start j) 64)
      → state_of (lent w (acks_start j) 64 new) ≡ with_row (state_of w) j (with_acks (row_at (state_of w) j) (shifted (row_at (state_of w) j).tx_ack_queue) (row_at (state_of w) j).ack_count)
  unfolding acks_in shifted
  acks-shift new j lt e =
      let xs = part (acks_start j) 64 w in
      let vs = drop 1 xs ++ drop 63 xs in
      let n : length vs ≡ 64 = simp (length-append, length-drop, acks-long j lt) in
      came w vs new (acks_start j) 64 n (e ∙ ap (λ (l : List ℕ). drop 1 l ++ drop 63 l) (run-part w (acks_start j) 64))
      ∙ acks-put vs j lt n (shifted (row_at (state_of w) j).tx_ack_queue)
      (run-append (drop 1 xs) (drop 63 xs) ∙ (λ i. run_drop 1 xs i ++ run_drop 63 xs i) ∙ ap shifted (sym (acks-read w long j lt)))

  pub queued-put : (new : List ℕ) (i : ℕ) (seq : Seq) → seq.0 < 2 ^ 32 → new ≡ set (part QUEUE 64 w) i seq.0
      → state_of (lent w QUEUE 64 new) ≡ with_tx (state_of w) (with_queue (state_of w).tx (set (state_of w).tx.resend_queue i seq) (state_of w).tx.resend_count)
  unfolding queue_in
  queued-put new i seq small e =
      let vs = set (part QUEUE 64 w) i seq.0 in
      let n : length vs ≡ 64 = length-set (part QUEUE 64 w) i seq.0 ∙ part_length QUEUE 64 w (omega arith) in
      came w vs new QUEUE 64 n e
      ∙ queue-written w long vs n
      ∙ ap (λ (l : List Seq). with_tx (state_of w) (with_queue (state_of w).tx l (state_of w).tx.resend_count))
      (run-set (part QUEUE 64 w) i seq small ∙ ap (λ (l : List Seq). set l i seq) (sym (queue-read w long)))
