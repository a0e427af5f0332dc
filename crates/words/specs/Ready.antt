-- Words that a call in place is given: those of a sound state. Assumes nothing.
use Rattle.std.specs.Prelude.{◌≡◌, ◌≢◌, true, List, ℕ, ◌^◌, ◌<◌, length, get_or}
use Rattle.std.proofs.Common.{sym, ap, ◌∙◌, subst, mod-lt, arith}
use Rattle.std.proofs.lemmas.List.{length-map}
use Rattle.link.specs.declared.row.LinkRow.{LinkRow}
use Rattle.link.specs.Row.{no_row}
use Rattle.engine.specs.Sound.{Sound, Shaped, row_at}
use Rattle.engine.specs.Decide.{soundb, sound}
use Rattle.words.specs.Parts.{part, part_length, part_at, entries-length, entry_at}
use Rattle.words.specs.Layout.{WORDS, TX, TIME, row_start, acks_start, packet_start, QUEUE}
use Rattle.words.specs.Meaning.{half, row_of, packet_of, acks_in, links_in, packets_in, queue_in, tx_of, rx_of, decoded, state_of, stated}

pub record Ready (w : List ℕ) : Type 0 where
  pub long : length w ≡ WORDS
  pub judged : soundb (state_of w) ≡ true

pub ready-sound : (w : List ℕ) → Ready w → Sound (state_of w)
ready-sound w r = sound (state_of w) r.judged

-- "state and lent bytes stay as they came": of a refusal's number, and of any but 0, every word is as it was
abbrev pub Left : ℕ → List ℕ → List ℕ → Type 0
Left number old new = number ≢ 0 → new ≡ old

-- every word is one of 64 bits
abbrev pub Words64 : List ℕ → Type 0
Words64 w = (i : ℕ) → get_or w i 0 < 2 ^ 64

half_lt : (n : ℕ) → half n < 2 ^ 32
half_lt n = mod-lt n (omega arith)

-- what words say has the lengths and ranges of a state's types
pub shaped-words : (w : List ℕ) → length w ≡ WORDS → Words64 w → Shaped (state_of w)
unfolding decoded links_in packets_in queue_in acks_in row_of tx_of rx_of
shaped-words w long small =
    let row : (j : ℕ) → j < 8 → row_at (decoded w) j ≡ row_of (part (row_start j) 14 w) (acks_in w j) = λ j h. entry_at (λ k. row_of (part (row_start k) 14 w) (acks_in w k)) 8 j no_row h in
    let one : get_or (part TX 9 w) 1 0 ≡ get_or w 1 0 = part_at TX 9 1 w (omega arith) in
    let two : get_or (part TX 9 w) 2 0 ≡ get_or w 2 0 = part_at TX 9 2 w (omega arith) in
    subst Shaped (sym (stated w long)) (record {
      links-full = entries-length (λ k. row_of (part (row_start k) 14 w) (acks_in w k)) 8;
      queues = λ j h. ap (λ (r : LinkRow). length r.tx_ack_queue) (row j h) ∙ simp length-map (part_length (acks_start j) 64 w (omega arith));
      packets-full = entries-length (λ k. packet_of (part (packet_start k) 8 w)) 64;
      queue-full = simp length-map (part_length QUEUE 64 w (omega arith));
      next-u32 = half_lt _;
      expected-u32 = half_lt _;
      oldest-u32 = half_lt _;
      count-usize = rw one (small 1);
      queue-usize = rw two (small 2);
      unacked-u32 = half_lt _;
      unconsumed-u32 = half_lt _;
      unconsumable-u32 = half_lt _;
      last-u32 = half_lt _;
      size-u32 = half_lt _;
      untold-u32 = half_lt _;
      buffer-u32 = half_lt _;
      cells-u32 = half_lt _;
      end-u32 = half_lt _;
      time-u64 = small TIME;
    })
