-- Document 01, "Table of proved examples": "One statement covers these". Beside L2 stands what request [4] makes of it. Each is about the
-- definition that a promise cites.
-- Assumes nothing.
use Rattle.std.specs.Prelude.{◌≡◌, refl, false, ◌&&◌, List, [], ◌∷◌, ℕ, ◌≤◌, ◌<◌, leb, length, get_or, set, Some, None, Ok}
use Rattle.std.proofs.Math.Path.{ap}
use Rattle.std.proofs.Common.{◌∙◌, arith}
use Rattle.std.proofs.Math.Bool.{true}
use Rattle.refusal.specs.Verdicts.{gate}
use Rattle.seq.specs.declared.Seq.{Seq}
use Rattle.seq.specs.Numbers.{seq_of, plus, minus, signed}
use Rattle.seq.specs.Distance.{distance_of, near, past}
use Rattle.link.specs.declared.row.LinkRow.{LinkRow}
use Rattle.link.specs.Row.{empty_row, fresh_row}
use Rattle.link.specs.Limit.{mark_acked}
use Rattle.link.specs.Roundtrip.{trip_after}
use Rattle.link.specs.Slow.{confirmed_link, above_max_ping, slow_row}
use Rattle.engine.specs.declared.answer.Changed.{Changed}
use Rattle.engine.specs.declared.state.SentReliable.{SentReliable}
use Rattle.engine.specs.declared.state.Sending.{Sending}
use Rattle.engine.specs.declared.state.State.{State}
use Rattle.engine.specs.Answer.{changed_by}
use Rattle.engine.specs.Decide.{soundb}
use Rattle.engine.specs.Fields.{with_ends, with_parts}
use Rattle.engine.specs.Gates.{timed_verdict, timed-passed}
use Rattle.engine.specs.Packets.{no_packet, packets, is_received}
use Rattle.engine.specs.Rows.{row_of}
use Rattle.engine.specs.Sizes.{PACKETS}
use Rattle.engine.specs.Sound.{Sound, Shaped, packet_at}
use Rattle.engine.specs.Table.{in_table, place, looked_at}
use Rattle.engine.specs.Acking.{settled_row, settled_tx, sweep_from, sweep_of, swept_tx, acked_row, acked_tx, acked_state, ack_verdict, ack_of}
use Rattle.engine.specs.HandingOut.{due_of}
use Rattle.engine.specs.Slowness.{all_slow, over_slots, slow_slots}
use Rattle.laws.specs.PacketsKept.{packets-count}

-- L1's links: 50 over 40 in one slot, in another any round trip without `max_ping`, and no more
abbrev pub rows_of_l1 : ℕ → ℕ → ℕ → List LinkRow
rows_of_l1 one other trip =
    fresh_row one 50 (Some 40) false false
    ∷ (fresh_row other trip None false false
    ∷ (empty_row ∷ (empty_row ∷ (empty_row ∷ (empty_row ∷ (empty_row ∷ (empty_row ∷ [])))))))

-- A1's and A2's state, where an ack is accepted: "next 5, packets 2, 3, 4", since a sound table of three ends before the next
pub record NextIsFive (s : State) (slot time : ℕ) : Type 0 where
  pub shaped : Shaped s
  pub passed : timed_verdict s slot time (Ok tt) ≡ Ok tt
  pub next : s.tx.tx_seq ≡ seq_of 5
  pub count : s.tx.txed_count ≡ 3

-- the answer of an accepted ack, with the link's row and the sending half that it leaves: the time is taken, all else as it was
abbrev pub acked : State → ℕ → ℕ → LinkRow → Sending → Changed
acked s slot time row tx = record { outcome = (Ok tt); state = with_parts s (set s.links slot row) tx s.rx time }

pub record PaperExamples : Type 0 where
  -- "S3 0x80000000 is before 0."; request [5]: "S3 in the examples becomes far."
  pub s3 : distance_of 2147483648 0 ≡ None
  -- "R1 r 100, e 200: 175. R2 r 200, e 100: 199. R4 flag set, e 50: 50."
  pub r1 : trip_after false 100 200 ≡ 175
  pub r2 : trip_after false 200 100 ≡ 199
  pub r4 : (r : ℕ) → trip_after true r 50 ≡ 50
  -- "A1 next 5, packets 2, 3, 4, ack 1: no packet": only the mark's step is made, and the sweep stops at the first number, 2
  pub a1 : (s : State) (slot time : ℕ) → NextIsFive s slot time
      → ack_of s slot time 1 ≡ acked s slot time (mark_acked (row_of s slot) 1) (with_ends s.tx (seq_of 2) s.tx.send_finish_sent s.tx.write_closed)
  -- "A2 ack 2: the first": it is the first packet that is looked at
  pub a2 : (s : State) (slot time : ℕ) → NextIsFive s slot time
      → ack_of s slot time 2
      ≡ acked s slot time (settled_row (mark_acked (row_of s slot) 2) (packet_at s 0) slot time) (swept_tx (settled_tx s.tx slot 2 (packet_at s 0)))
  -- "L1 one link 50 over 40, one without `max_ping`: none listed."
  pub l1 : (one other trip : ℕ) → slow_slots (rows_of_l1 one other trip) ≡ []
  -- "L2 buffer 65,536: 6,553 taken, not due; 6,554, due", where the reader is open
  pub l2 : (s : State) → soundb s ≡ true → s.read_open ≡ true → s.rx.recv_buffer ≡ 65536
      → (s.rx.rxed_reliable_consumed ≡ 6553 → due_of s ≡ Ok false) × (s.rx.rxed_reliable_consumed ≡ 6554 → due_of s ≡ Ok true)
  -- where it has closed, request [4]: "one taken byte is enough, zero is not", of a buffer of any size
  pub l2-closed : (s : State) → soundb s ≡ true → s.read_open ≡ false
      → (s.rx.rxed_reliable_consumed ≡ 0 → due_of s ≡ Ok false) × (s.rx.rxed_reliable_consumed ≡ 1 → due_of s ≡ Ok true)

-- ---- the sweep of a table whose first packet isn't Received

stops : (ps : List SentReliable) (last : Seq) (held : ℕ) → 0 < length ps → is_received (get_or ps 0 no_packet).status ≡ false
    → sweep_from ps last held ≡ record { left = length ps; last = (get_or ps 0 no_packet).seq; held = held }
unfolding sweep_from
stops [] last held h first = absurd (omega arith)
stops (p ∷ ps) last held h first = simp first

-- nothing is dropped: only `txed_last_consumed` moves, to the first number
swept-whole : (tx : Sending) → tx.txed_count ≤ PACKETS → 0 < tx.txed_count → is_received (get_or (packets tx) 0 no_packet).status ≡ false
    → swept_tx tx ≡ with_ends tx (get_or (packets tx) 0 no_packet).seq tx.send_finish_sent tx.write_closed
unfolding swept_tx sweep_of
swept-whole tx fits some first =
    let n = packets-count tx in
    rw (stops (packets tx) tx.txed_last_consumed tx.txed_unconsumable (omega (arith, n)) first) (rw n refl)

-- ---- A1 and A2

module _ (s : State) (slot time a : ℕ) (five : NextIsFive s slot time) where
  is-sound : Sound s
  is-sound = (timed-passed s slot time (Ok tt) five.passed).0.at.fine

  back : past s.tx.tx_seq.0 a ≡ past 5 a
  back = ap (λ seq. past seq.0 a) five.next

  in-table : in_table s.tx a ≡ (leb 1 (past 5 a) && leb (past 5 a) 3)
  unfolding in_table
  in-table = simp (back, five.count)

  first-number : (packet_at s 0).seq ≡ seq_of 2
  unfolding minus plus
  first-number = is-sound.consecutive 0 (omega (arith, five.count)) ∙ simp (five.next, five.count)

  -- a number near 5 is accepted
  whole : near a 5 ≡ true → ack_of s slot time a ≡ acked s slot time (acked_row s slot time a) (swept_tx (acked_tx s slot a))
  unfolding ack_of ack_verdict acked_state
  whole close =
      let test : near a s.tx.tx_seq.0 ≡ true = ap (λ seq. near a seq.0) five.next ∙ close in
      ap (λ v. changed_by v s (acked_state s slot time a)) (ap (λ b. timed_verdict s slot time (gate b 22 (Ok tt))) test ∙ five.passed)

none_of : (s : State) (slot time : ℕ) → NextIsFive s slot time
    → ack_of s slot time 1 ≡ acked s slot time (mark_acked (row_of s slot) 1) (with_ends s.tx (seq_of 2) s.tx.send_finish_sent s.tx.write_closed)
unfolding acked_row acked_tx near past distance_of minus signed
none_of s slot time five =
    let safe = is-sound s slot time 1 five in
    let out : in_table s.tx 1 ≡ false = in-table s slot time 1 five in
    let row : acked_row s slot time 1 ≡ mark_acked (row_of s slot) 1 = simp out in
    let tx : acked_tx s slot 1 ≡ s.tx = simp out in
    let some : 0 < s.tx.txed_count = omega (arith, five.count) in
    let swept = swept-whole s.tx safe.packet-count some (safe.first some) in
    let last : Seq → Sending = λ n. with_ends s.tx n s.tx.send_finish_sent s.tx.write_closed in
    let half = ap swept_tx tx ∙ swept ∙ ap last (first-number s slot time 1 five) in
    whole s slot time 1 five refl ∙ (λ d. acked s slot time (row d) (half d))

first_of : (s : State) (slot time : ℕ) → NextIsFive s slot time
    → ack_of s slot time 2
    ≡ acked s slot time (settled_row (mark_acked (row_of s slot) 2) (packet_at s 0) slot time) (swept_tx (settled_tx s.tx slot 2 (packet_at s 0)))
unfolding acked_row acked_tx looked_at place near past distance_of minus signed
first_of s slot time five =
    let held : in_table s.tx 2 ≡ true = in-table s slot time 2 five in
    let first : place s.tx 2 ≡ 0 = omega (arith, five.count, back s slot time 2 five) in
    let here : looked_at s.tx 2 ≡ packet_at s 0 = ap (λ i. packet_at s i) first in
    let row : acked_row s slot time 2 ≡ settled_row (mark_acked (row_of s slot) 2) (packet_at s 0) slot time = simp (held, here) in
    let tx : acked_tx s slot 2 ≡ settled_tx s.tx slot 2 (packet_at s 0) = simp (held, here) in
    whole s slot time 2 five refl ∙ (λ d. acked s slot time (row d) (swept_tx (tx d)))

pub paper-examples : PaperExamples
unfolding distance_of signed minus trip_after slow_slots all_slow over_slots confirmed_link above_max_ping slow_row due_of fresh_row empty_row
paper-examples = record {
  s3 = refl;
  r1 = refl;
  r2 = refl;
  r4 = λ r. refl;
  a1 = none_of;
  a2 = first_of;
  l1 = λ one other trip. refl;
  l2 = λ s sound reads buffer. (λ taken. simp (sound, reads, buffer, taken), λ taken. simp (sound, reads, buffer, taken));
  l2-closed = λ s sound closed. (λ taken. simp (sound, closed, taken), λ taken. simp (sound, closed, taken));
}
