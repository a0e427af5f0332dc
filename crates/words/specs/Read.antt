-- What stands at the places of a state's words: the state's parts, word by word. Assumes nothing.
use Rattle.std.specs.Prelude.{◌≡◌, ℕ, ◌+◌, ◌-◌, ◌^◌, ◌<◌, length, take, drop, Some, None}
use Rattle.engine.specs.Held.{Held}
use Rattle.std.proofs.Common.{sym, ◌∙◌}
use Rattle.std.proofs.Math.Path.{ap}
use mathlib.Core.List.{List, map}
use native.Mathlib.Omega.{arith}
use Rattle.std.proofs.Math.ListN.{get_or, get_or-map}
use Rattle.seq.specs.declared.Seq.{Seq}
use Rattle.seq.specs.Numbers.{seq_of}
use Rattle.link.specs.declared.row.LinkRow.{LinkRow}
use Rattle.link.specs.Row.{no_row}
use Rattle.engine.specs.declared.state.SentReliableStatus.{SentReliableStatus}
use Rattle.engine.specs.declared.state.State.{State}
use Rattle.engine.specs.Packets.{no_packet}
use Rattle.engine.specs.Records.{RecordFits, held_of, held_fits}
use Rattle.engine.specs.Sound.{row_at}
use Rattle.words.specs.Parts.{part, part_at, entry_at}
use Rattle.words.specs.Layout.{WORDS, TX, RX, TIME, READER, row_start, acks_start, packet_start, QUEUE}
use Rattle.words.specs.Meaning.{half, seq_word, is_set, row_of, packet_held, packet_of, status_of, acks_in, links_in, packets_in, queue_in, tx_of, rx_of, decoded, state_of, stated}
use Rattle.words.specs.Encoded.{numbers_of, no_acks, bare}

-- a number of a run, by its word
run_at : (a n i : ℕ) (w : List ℕ) → i < n → get_or (map seq_word (part a n w)) i (seq_of 0) ≡ seq_word (get_or w (a + i) 0)
run_at a n i w h = get_or-map seq_word (part a n w) i 0 ∙ ap seq_word (part_at a n i w h)

packet-short : (h : Held) (seq : Seq) (st : SentReliableStatus) → RecordFits h → (packet_held h seq st).len < 2 ^ 24
packet-short (Some (msg, len)) seq st f = f
packet-short None seq st f = omega arith

-- a packet that is read has a length that can be written
pub packet-fits : (xs : List ℕ) → (packet_of xs).len < 2 ^ 24
unfolding packet_of
packet-fits xs = packet-short (held_of (get_or xs 1 0)) (seq_word (get_or xs 0 0)) (status_of xs) (held_fits (get_or xs 1 0))

module _ (w : List ℕ) (long : length w ≡ WORDS) where
  pub time-read : (state_of w).time ≡ get_or w TIME 0
  unfolding decoded
  time-read = ap (λ (s : State). s.time) (stated w long)

  pub reader-read : (state_of w).read_open ≡ is_set (get_or w READER 0)
  unfolding decoded
  reader-read = ap (λ (s : State). s.read_open) (stated w long)

  pub rx-read : (state_of w).rx ≡ record {
    rx_seq = seq_word (get_or w 16 0);
    rx_oldest = seq_word (get_or w 17 0);
    rxed_reliable_size = half (get_or w 18 0);
    rxed_reliable_consumed = half (get_or w 19 0);
    recv_buffer = half (get_or w 20 0);
    cells = half (get_or w 21 0);
    rx_end = seq_word (get_or w 22 0);
  }
  unfolding decoded rx_of
  rx-read = ap (λ (s : State). s.rx) (stated w long) ∙ (λ i. record {
    rx_seq = seq_word (part_at RX 7 0 w (omega arith) i);
    rx_oldest = seq_word (part_at RX 7 1 w (omega arith) i);
    rxed_reliable_size = half (part_at RX 7 2 w (omega arith) i);
    rxed_reliable_consumed = half (part_at RX 7 3 w (omega arith) i);
    recv_buffer = half (part_at RX 7 4 w (omega arith) i);
    cells = half (part_at RX 7 5 w (omega arith) i);
    rx_end = seq_word (part_at RX 7 6 w (omega arith) i);
  })

  pub tx-read : numbers_of (state_of w).tx ≡ record {
    tx_seq = seq_word (get_or w 0 0);
    txed_count = get_or w 1 0;
    resend_count = get_or w 2 0;
    txed_unacked = half (get_or w 3 0);
    txed_unconsumed = half (get_or w 4 0);
    txed_unconsumable = half (get_or w 5 0);
    txed_last_consumed = seq_word (get_or w 6 0);
    send_finish_sent = is_set (get_or w 7 0);
    write_closed = is_set (get_or w 8 0);
  }
  unfolding decoded tx_of
  tx-read = ap (λ (s : State). numbers_of s.tx) (stated w long) ∙ (λ i. record {
    tx_seq = seq_word (part_at TX 9 0 w (omega arith) i);
    txed_count = part_at TX 9 1 w (omega arith) i;
    resend_count = part_at TX 9 2 w (omega arith) i;
    txed_unacked = half (part_at TX 9 3 w (omega arith) i);
    txed_unconsumed = half (part_at TX 9 4 w (omega arith) i);
    txed_unconsumable = half (part_at TX 9 5 w (omega arith) i);
    txed_last_consumed = seq_word (part_at TX 9 6 w (omega arith) i);
    send_finish_sent = is_set (part_at TX 9 7 w (omega arith) i);
    write_closed = is_set (part_at TX 9 8 w (omega arith) i);
  })

  pub row_read : (j : ℕ) → j < 8 → row_at (state_of w) j ≡ row_of (part (row_start j) 14 w) (acks_in w j)
  unfolding decoded links_in
  row_read j h = ap (λ s. row_at s j) (stated w long) ∙ entry_at (λ k. row_of (part (row_start k) 14 w) (acks_in w k)) 8 j no_row h

  -- .. as a lent part of them has it
  pub row-got : (j : ℕ) → j < 8 → row_of (take (row_start j + 14 - row_start j) (drop (row_start j) w)) no_acks ≡ bare (row_at (state_of w) j)
  unfolding row_of
  row-got j h =
      let k : row_start j + 14 - row_start j ≡ 14 = omega arith in
      ap (λ n. row_of (take n (drop (row_start j) w)) no_acks) k ∙ ap bare (sym (row_read j h))

  pub live-read : (j : ℕ) → j < 8 → (row_at (state_of w) j).live ≡ is_set (get_or w (row_start j) 0)
  unfolding row_of
  live-read j h =
      let z : row_start j + 0 ≡ row_start j = omega arith in
      ap (λ (r : LinkRow). r.live) (row_read j h) ∙ ap is_set (part_at (row_start j) 14 0 w (omega arith) ∙ ap (λ n. get_or w n 0) z)

  pub acks-read : (j : ℕ) → j < 8 → (row_at (state_of w) j).tx_ack_queue ≡ acks_in w j
  unfolding row_of
  acks-read j h = ap (λ r. r.tx_ack_queue) (row_read j h)

  pub ack-read : (j : ℕ) → j < 8 → get_or (row_at (state_of w) j).tx_ack_queue 0 (seq_of 0) ≡ seq_word (get_or w (acks_start j) 0)
  unfolding acks_in
  ack-read j h =
      let z : acks_start j + 0 ≡ acks_start j = omega arith in
      ap (λ (l : List Seq). get_or l 0 (seq_of 0)) (acks-read j h) ∙ run_at (acks_start j) 64 0 w (omega arith) ∙ ap (λ n. seq_word (get_or w n 0)) z

  pub packet-read : (k : ℕ) → k < 64 → get_or (state_of w).tx.txed_packets k no_packet ≡ packet_of (part (packet_start k) 8 w)
  unfolding decoded packets_in tx_of
  packet-read k h = ap (λ (s : State). get_or s.tx.txed_packets k no_packet) (stated w long) ∙ entry_at (λ i. packet_of (part (packet_start i) 8 w)) 64 k no_packet h

  pub packet-got : (k : ℕ) → k < 64 → packet_of (take (packet_start k + 8 - packet_start k) (drop (packet_start k) w)) ≡ get_or (state_of w).tx.txed_packets k no_packet
  packet-got k h =
      let e : packet_start k + 8 - packet_start k ≡ 8 = omega arith in
      ap (λ n. packet_of (take n (drop (packet_start k) w))) e ∙ sym (packet-read k h)

  pub queue-read : (state_of w).tx.resend_queue ≡ queue_in w
  unfolding decoded tx_of
  queue-read = ap (λ (s : State). s.tx.resend_queue) (stated w long)

  pub queued-read : (i : ℕ) → i < 64 → get_or (state_of w).tx.resend_queue i (seq_of 0) ≡ seq_word (get_or w (QUEUE + i) 0)
  unfolding queue_in
  queued-read i h = ap (λ (l : List Seq). get_or l i (seq_of 0)) queue-read ∙ run_at QUEUE 64 i w h
