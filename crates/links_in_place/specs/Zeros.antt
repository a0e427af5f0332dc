-- The fresh state in its words: words that are all 0 say empty rows, an empty queue and the time 0. Assumes nothing.
use Rattle.std.specs.Prelude.{◌≡◌, refl, true, length, set, drop}
use Rattle.std.proofs.Common.{sym, ◌∙◌, arith, add-one, drop_of_length-le}
use Rattle.std.proofs.Math.Path.{ap, ap₂}
use mathlib.Core.List.{List, [], ◌∷◌, ◌++◌, map, append-nil}
use Prim.Native.Nat.{ℕ, zero, suc, ◌+◌, ◌≤◌, ◌<◌}
use Rattle.std.proofs.Math.ListN.{replicate}
use Rattle.std.proofs.lemmas.List.{length-replicate, get_or-replicate}
use Rattle.seq.specs.declared.Seq.{Seq}
use Rattle.seq.specs.Numbers.{seq_of}
use Rattle.link.specs.Row.{empty_row}
use Rattle.engine.specs.declared.state.SentReliable.{SentReliable}
use Rattle.engine.specs.declared.state.State.{State}
use Rattle.engine.specs.Fields.{with_tx, with_rx, with_reader, with_packets, with_queue}
use Rattle.engine.specs.Packets.{no_packet}
use Rattle.engine.specs.Sizes.{SLOTS, PACKETS}
use Rattle.engine.specs.Starting.{fresh_tx, fresh_rx, fresh_state}
use Rattle.words.specs.Encoded.{numbers_of, with_counts}
use Rattle.words.specs.Layout.{WORDS, TIME, row_start, acks_start, packet_start, QUEUE}
use Rattle.words.specs.Meaning.{seq_word, row_of, packet_of, acks_in, links_in, packets_in, queue_in, tx_of, decoded, state_of, stated}
use Rattle.words.specs.Parts.{part, entries-length, same_entries}
use Rattle.words.specs.Read.{time-read, queue-read}
use Rattle.links_in_place.specs.Adding.{zero-numbers}

-- ---- the packet table

-- the words say 64 packets
pub packets-long : (w : List ℕ) → length w ≡ WORDS → length (state_of w).tx.txed_packets ≡ PACKETS
unfolding decoded packets_in tx_of
packets-long w h = ap (λ (s : State). length s.tx.txed_packets) (stated w h) ∙ entries-length (λ k. packet_of (part (packet_start k) 8 w)) 64

fill_suc : (n : ℕ) (v : SentReliable) (d : List SentReliable) → n < length d → set (replicate n v ++ drop n d) n v ≡ replicate (suc n) v ++ drop (suc n) d
fill_suc n v [] h = absurd (omega arith)
fill_suc zero v (x ∷ d) h = refl
fill_suc (suc n) v (x ∷ d) h = ap (λ (l : List SentReliable). v ∷ l) (fill_suc n v d (omega arith))

-- the first of its cells are empty
abbrev pub emptied : State → ℕ → State
emptied s at = with_tx s (with_packets s.tx (replicate at no_packet ++ drop at s.tx.txed_packets))

module _ (s : State) where
  pub none-emptied : s ≡ emptied s 0
  none-emptied = refl

  pub more-emptied : (at : ℕ) → at < length s.tx.txed_packets
      → with_tx s (with_packets s.tx (set (replicate at no_packet ++ drop at s.tx.txed_packets) at no_packet)) ≡ emptied s (at + 1)
  more-emptied at h = ap (λ (l : List SentReliable). with_tx s (with_packets s.tx l)) (fill_suc at no_packet s.tx.txed_packets h ∙ ap (λ n. replicate n no_packet ++ drop n s.tx.txed_packets) (sym (add-one at)))

  pub all-emptied : length s.tx.txed_packets ≡ 64 → emptied s 64 ≡ with_tx s (with_packets s.tx (replicate PACKETS no_packet))
  all-emptied e =
      let none : drop 64 s.tx.txed_packets ≡ [] = drop_of_length-le s.tx.txed_packets {i = 64} (omega arith) in
      ap (λ (l : List SentReliable). with_tx s (with_packets s.tx (replicate 64 no_packet ++ l))) none
      ∙ ap (λ (l : List SentReliable). with_tx s (with_packets s.tx l)) (append-nil (replicate 64 no_packet))

-- ---- words that are all 0

part-zeros : (N a n : ℕ) → a + n ≤ N → part a n (replicate N 0) ≡ replicate n 0
part-zeros N zero zero h = refl
part-zeros zero zero (suc n) h = absurd (omega arith)
part-zeros (suc N) zero (suc n) h = ap (λ (l : List ℕ). 0 ∷ l) (part-zeros N zero n (omega arith))
part-zeros zero (suc a) n h = absurd (omega arith)
part-zeros (suc N) (suc a) n h = part-zeros N a n (omega arith)

module _ (N : ℕ) (e : N ≡ WORDS) where
  long : length {A = ℕ} (replicate N 0) ≡ WORDS
  long = length-replicate N 0 ∙ e

  acks-zeros : (j : ℕ) → j < 8 → acks_in (replicate N 0) j ≡ replicate 64 (seq_of 0)
  unfolding acks_in
  acks-zeros j lt = ap (map seq_word) (part-zeros N (acks_start j) 64 (omega arith)) ∙ zero-numbers 64

  links-zeros : (state_of (replicate N 0)).links ≡ replicate SLOTS empty_row
  unfolding decoded links_in row_of empty_row
  links-zeros =
      let w : List ℕ = replicate N 0 in
      ap (λ (s : State). s.links) (stated w long)
      ∙ same_entries (λ k. empty_row) (λ k. row_of (part (row_start k) 14 w) (acks_in w k)) 8
      (λ k lt. ap₂ row_of (part-zeros N (row_start k) 14 (omega arith)) (acks-zeros k lt))

  queue-zeros : (state_of (replicate N 0)).tx.resend_queue ≡ replicate PACKETS (seq_of 0)
  unfolding queue_in
  queue-zeros = queue-read (replicate N 0) long ∙ ap (map seq_word) (part-zeros N QUEUE 64 (omega arith)) ∙ zero-numbers 64

  time-zeros : (state_of (replicate N 0)).time ≡ 0
  time-zeros = time-read (replicate N 0) long ∙ get_or-replicate N TIME 0 0 (omega arith)

  -- what is put over them
  pub fresh-put : (start : Seq) (buffer cells : ℕ) →
      with_reader
      (with_rx
      (with_tx (state_of (replicate N 0)) (with_counts (with_packets (state_of (replicate N 0)).tx (replicate PACKETS no_packet)) (numbers_of (fresh_tx start.0))))
      (fresh_rx start.0 buffer cells))
      true
      ≡ fresh_state start.0 buffer cells
  unfolding fresh_state fresh_tx
  fresh-put start buffer cells = λ i. record {
    links = links-zeros i;
    tx = with_counts (with_queue (fresh_tx start.0) (queue-zeros i) 0) (numbers_of (fresh_tx start.0));
    rx = fresh_rx start.0 buffer cells;
    time = time-zeros i;
    read_open = true;
  }
