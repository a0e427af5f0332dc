-- Document 01, "The replay program": "acks and ready messages are taken after each frame". Every byte that is taken was two digits of the
-- input, so that below 2^32 bytes of input 9 is never given, and nothing waits (NothingWaits). Assumes nothing.
use Rattle.std.specs.Prelude.{◌≡◌, refl, false, cond, List, [], ◌∷◌, ℕ, ◌+◌, ◌-◌, ◌^◌, ◌≤◌, ◌<◌, eqb, ltb, length, get_or, Some, None, Option, Ok, Err, Result}
use Rattle.refusal.specs.declared.Refusal.{Refusal}
use Rattle.engine.specs.Held.{HandOut, Held}
use Rattle.std.proofs.Math.Path.{ap}
use Rattle.std.proofs.Common.{◌∙◌, arith, eqb-true, le-leb, ltb-false}
use Rattle.std.proofs.lemmas.Bool.{eqb-false}
use borrow.Table.Steps.{cases}
use Rattle.refusal.specs.declared.Refusal.TheVariants as refusals
use Rattle.seq.specs.declared.Seq.{Seq}
use Rattle.seq.specs.Numbers.{minus}
use Rattle.seq.specs.Distance.{past_near}
use Rattle.engine.specs.DecidedTables.{plus-zero}
use Rattle.msg.specs.declared.reliable.ReliableMsg.{ReliableMsg}
use Rattle.link.specs.Sizes.{ACKS}
use Rattle.engine.specs.declared.state.Receiving.{Receiving}
use Rattle.engine.specs.declared.state.State.{State}
use Rattle.engine.specs.Packets.{is_data}
use Rattle.engine.specs.Records.{held_bytes}
use Rattle.engine.specs.Received.{RxTable, table_of, expected_at, held_at, cell_view, bytes_in, view-held}
use Rattle.engine.specs.CellCount.{cell-count}
use Rattle.engine.specs.Turns.{turns-keep, turns_same}
use Rattle.engine.specs.Cells.{is_repeat, put_in, can_advance, passed_over}
use Rattle.engine.specs.Totals.{MAX_TOTAL}
use Rattle.engine.specs.Starting.{fresh_state}
use Rattle.engine.specs.Receiving.{receive_of, receive_verdict, repeated_state, effect_state, received_state}
use Rattle.engine.specs.HandingOut.{take_ack_of, ack_answer, taken_ack_by, take_of, take_verdict, taken_by, taken_state, taken_in, can_skip, passed_by, hand_out_by, ready_of, ready_bytes, data_length, taking}
use Rattle.engine.specs.Answer.{changed-keeps}
use Rattle.replaying.specs.declared.session.Replay.{Replay}
use Rattle.replaying.specs.Sizes.{CELLS}
use Rattle.replaying.specs.Session.{beginning, begun}
use Rattle.replaying.specs.Taking.{has_ack, after_ack, Recorded, recorded, has_message, after_message, without_all, ended}
use Rattle.recording.specs.Frames.{MAX_LINE}
use Rattle.replaying.specs.Line.{Left, received}
use Rattle.replaying.specs.Feeding.{Carrying, begun_with, count_with, line_left, left_of, line_ended, byte_fed, fed_by, absent_as, absent_of, last_line, last_of, closed, every-line}
use Rattle.program_laws.specs.NothingWaits.{Living, Settled, Fine, LeftFine, ToldFine, take-lives, acks-live, received_with, receive-lives, settled-waits, byte-fine, fed-fine, last-fine, closed-fine, added, begun-fine}

-- the bytes that were taken, with those that are still to take
abbrev bytes_of : Receiving → ℕ
bytes_of rx = rx.rxed_reliable_consumed + rx.rxed_reliable_size

abbrev bytes : State → ℕ
bytes s = bytes_of s.rx

-- ---- taking

-- what is taken was still to take, and to pass a number by takes nothing
taken-bytes : (N : ℕ) (t : RxTable) (len : ℕ) → len ≤ t.rx.rxed_reliable_size → bytes_of (taken_in N t len).rx ≤ bytes_of t.rx
unfolding taken_in passed_by
taken-bytes N t len h =
    let moved : bytes_of (taken_in N t len).rx ≡ t.rx.rxed_reliable_consumed + len + (t.rx.rxed_reliable_size - len) =
    turns_same (can_skip N _) passed_by bytes_of (λ r. refl) N _ in
    omega (arith, moved)

-- the oldest ready message is one of those that the untaken bytes are the sum of
held-bytes : (held : Held) → ready_bytes held ≤ held_bytes held
held-bytes None = omega arith
held-bytes (Some (msg, len)) = cases (is_data msg) (λ t. simp t (omega arith)) (λ f. simp f (omega arith))

first-bytes : (hs : List Held) → held_bytes (get_or hs 0 None) ≤ bytes_in hs
unfolding bytes_in
first-bytes [] = omega arith
first-bytes (h ∷ hs) = omega arith

-- where the oldest number isn't the next expected, one is past the other
apart : (rx : Receiving) → rx.rx_seq.0 < 2 ^ 32 → rx.rx_oldest.0 < 2 ^ 32 → eqb rx.rx_oldest.0 rx.rx_seq.0 ≡ false → 0 < expected_at rx
unfolding minus
apart rx e o f =
    let differ = eqb-false rx.rx_oldest.0 rx.rx_seq.0 f in
    cases (eqb (expected_at rx) 0)
    (λ z.
    let none = eqb-true (expected_at rx) 0 z in
    let by = past_near rx.rx_seq.0 rx.rx_oldest.0 (omega (arith, none)) in
    absurd (differ (omega (arith, none, by))))
    (λ n. omega (arith, eqb-false (expected_at rx) 0 n))

ready-within : (h : Recorded) → Living h → ready_bytes (ready_of (table_of h.state.rx h.records)) ≤ h.state.rx.rxed_reliable_size
unfolding ready_of
ready-within h l =
    let rx = h.state.rx in
    let t = table_of rx h.records in
    let good = l.good in
    cases (eqb rx.rx_oldest.0 rx.rx_seq.0)
    (λ same. simp same (omega arith))
    (λ f.
    let some = apart rx good.shaped.expected-u32 good.shaped.oldest-u32 f in
    let here = view-held rx.cells (cell-count rx.cells good.sound.cell-count) t 0 (omega (arith, some, good.sound.near))
    ∙ ap (held_at rx.cells h.records) (plus-zero rx.rx_oldest.0 good.shaped.oldest-u32) in
    let first = ap held_bytes here in
    simp f (omega (arith, l.recorded.untaken, first, first-bytes (cell_view rx.cells t), held-bytes (held_at rx.cells h.records rx.rx_oldest.0))))

-- taking a message
take-bytes : (h : Recorded) → Living h → bytes (after_message h).state ≤ bytes h.state
unfolding take_of taken_state
take-bytes h l = by_answer (hand_out_by (take_verdict h.state h.records) (table_of h.state.rx h.records)) refl
  where
    by_answer : (a : HandOut) → hand_out_by (take_verdict h.state h.records) (table_of h.state.rx h.records) ≡ a → bytes (taken_by a h.state h.records) ≤ bytes h.state
    by_answer (Ok (msg, seq, len)) e =
        taken-bytes h.state.rx.cells (table_of h.state.rx h.records) (data_length msg len) (rw (ap ready_bytes (taking h.state h.records msg seq len e).ready) at (ready-within h l))
    by_answer (Err r) e = omega arith

-- taking an ack
ack-bytes : (s : State) → bytes (take_ack_of s 0).state ≡ bytes s
unfolding take_ack_of
ack-bytes s = by_answer (ack_answer s 0)
  where
    by_answer : (a : Result Seq Refusal) → bytes (taken_ack_by a s 0) ≡ bytes s
    by_answer (Ok seq) = refl
    by_answer (Err e) = refl

-- taking all
all-bytes : (h : Recorded) → Living h → bytes (without_all h).state ≤ bytes h.state
unfolding without_all
all-bytes h l =
    let Few : Recorded → Type 0 = λ x. bytes x.state ≤ bytes h.state in
    turns-keep has_message after_message (λ k x. Living x × Few x) Few
    (λ k x g t. (take-lives x g.0, omega (arith, g.1, take-bytes x g.0))) (λ k x g f. g.1) (λ x g. g.1)
    CELLS _ (acks-live ACKS h l, omega (arith, turns_same has_ack after_ack bytes ack-bytes ACKS h.state))

-- ---- receiving

stored_bytes : (h : Recorded) (msg : ReliableMsg) (n len : ℕ) → bytes (received_state h.state h.records 0 msg n len)
    ≡ h.state.rx.rxed_reliable_consumed + (h.state.rx.rxed_reliable_size + len)
unfolding received_state effect_state put_in passed_over
stored_bytes h msg n len =
    turns_same (can_advance h.state.rx.cells) (passed_over h.state.rx.cells) (λ t. bytes_of t.rx) (λ t. refl) h.state.rx.cells _

-- a message adds no more than its own
receive-bytes : (h : Recorded) (store : List ℕ) (msg : ReliableMsg) (n : ℕ) (payload : List ℕ) → bytes (received_with h store msg n payload).state ≤ bytes h.state + length payload
unfolding receive_of
receive-bytes h store msg n payload =
    let s = h.state in
    let len = length payload in
    let again = is_repeat s.rx.cells (table_of s.rx h.records) n in
    changed-keeps (λ x. bytes x ≤ bytes s + len) (receive_verdict s (length store) h.records 0 msg n len) s
    (cond again (repeated_state s 0 n) (received_state s h.records 0 msg n len)) (omega arith)
    (λ v. cases again (λ t. simp t (omega arith)) (λ f. simp f (omega (arith, stored_bytes h msg n len))))

-- ---- every line: it adds no more than it has bytes

ended-bytes : (number : ℕ) (h : Recorded) → Living h → bytes (ended number h).replay.state ≤ bytes h.state
unfolding ended
ended-bytes number h l = all-bytes h l

received-bytes : (h : Recorded) (store : List ℕ) (msg : ReliableMsg) (seq : Seq) (payload : List ℕ) → Living h
    → bytes (received h store msg seq payload).said.replay.state ≤ bytes h.state + length payload
unfolding received ended
received-bytes h store msg seq payload l =
    let then = received_with h store msg seq.0 payload in
    omega (arith, all-bytes then (receive-lives h store msg seq.0 payload l), receive-bytes h store msg seq.0 payload)

-- the bytes that a line leaves
abbrev left_bytes : Left → ℕ
left_bytes l = bytes l.said.replay.state

line-bytes : (r : Replay) (store records line : List ℕ) (count : ℕ) → Fine r records → left_bytes (line_left r store records line count) ≤ bytes r.state + count
line-bytes r store records line count g =
    let h = recorded r.state records in
    let living = g.quiet.living in
    every-line (λ l. left_bytes l ≤ bytes r.state + count) r store records line count
    (λ number. omega (arith, ended-bytes number h living))
    (λ msg seq payload few. omega (arith, few, received-bytes h store msg seq payload living))
    (λ seq. omega arith)

-- ---- from the beginning to the end

-- a byte that is carried is counted once at most
count-bytes : (count : ℕ) → count_with count ≤ count + 1
unfolding count_with
count-bytes count = cases (ltb count MAX_LINE) (λ t. simp t (omega arith)) (λ f. simp f (omega (arith, ltb-false count MAX_LINE f)))

-- the bytes with those of the unfinished line
abbrev all_of : Carrying → ℕ
all_of c = bytes c.told.replay.state + c.count

carried-bytes : (c : Carrying) → ToldFine c.told → left_bytes (left_of c) ≤ all_of c
carried-bytes c g = line-bytes c.told.replay c.told.store c.told.records c.line c.count g

byte-bytes : (c : Carrying) (b : ℕ) → ToldFine c.told → all_of (byte_fed c b) ≤ all_of c + 1
unfolding byte_fed line_ended
byte-bytes c b g = cases (eqb b 10) (λ t. simp t (omega (arith, carried-bytes c g))) (λ f. simp f (omega (arith, count-bytes c.count)))

fed-bytes : (c : Carrying) (input : List ℕ) → ToldFine c.told → all_of (fed_by c input) ≤ all_of c + length input
unfolding fed_by
fed-bytes c [] g = omega arith
fed-bytes c (b ∷ rest) g = omega (arith, fed-bytes (byte_fed c b) rest (byte-fine c b g), byte-bytes c b g)

last-bytes : (c : Carrying) → ToldFine c.told → left_bytes (last_line c) ≤ all_of c
unfolding last_line
last-bytes c g = cases (eqb c.count 0) (λ t. simp t (omega arith)) (λ f. simp f (carried-bytes c g))

absent-bytes : (w : Option Seq) (l : Left) → LeftFine l → left_bytes (absent_as w l) ≤ left_bytes l
absent-bytes None l g = omega arith
absent-bytes (Some seq) l g = ended-bytes 20 (recorded l.said.replay.state l.records) g.quiet.living

closed-bytes : (c : Carrying) → ToldFine c.told → bytes (closed c).replay.state ≤ all_of c
unfolding closed last_of absent_of
closed-bytes c g =
    let l = last_line c in
    omega (arith, absent-bytes l.said.replay.waiting l (last-fine c g), last-bytes c g)

-- below 2^32 of them 9 isn't given
none-waits : (h : Recorded) → Settled h → bytes h.state < 2 ^ 32 → (take_of h.state h.records).answer ≡ Err refusals.Nothing
none-waits h g few =
    let more = ready_bytes (ready_of (table_of h.state.rx h.records)) in
    (settled-waits h g).messages (le-leb (h.state.rx.rxed_reliable_consumed + more) MAX_TOTAL (omega (arith, ready-within h g.quiet.living)))

module _ (records : List ℕ) (long : length records ≡ CELLS) where
  -- at the beginning there are none
  begun-bytes : bytes (begun (length records)).replay.state ≡ 0
  unfolding begun beginning fresh_state
  begun-bytes = ap bytes (added records long)

  -- of the whole input there are no more than it has bytes
  few_bytes : (store line input : List ℕ) → all_of (fed_by (begun_with store records line) input) ≤ length input
  unfolding begun
  few_bytes store line input = omega (arith, fed-bytes (begun_with store records line) input (begun-fine records long), begun-bytes)

  -- every byte that is taken was two digits of the input, so that below 2^32 bytes of input 9 is never given
  pub nothing-waits-below : (store line input : List ℕ) → length input < 2 ^ 32
      → let t = (fed_by (begun_with store records line) input).told in (take_of t.replay.state t.records).answer ≡ Err refusals.Nothing
  nothing-waits-below store line input below =
      none-waits _ (fed-fine (begun_with store records line) input (begun-fine records long)) (omega (arith, few_bytes store line input))

  -- nor when it is closed
  pub nothing-waits-below-at-end : (store line input : List ℕ) → length input < 2 ^ 32
      → let t = closed (fed_by (begun_with store records line) input) in (take_of t.replay.state t.records).answer ≡ Err refusals.Nothing
  nothing-waits-below-at-end store line input below =
      let c = fed_by (begun_with store records line) input in
      let fine = fed-fine (begun_with store records line) input (begun-fine records long) in
      none-waits _ (closed-fine c fine) (omega (arith, closed-bytes c fine, few_bytes store line input))
