-- Document 01, "Hand out (P). One call takes the oldest ready message, answering kind, number and length. Another, called before it
-- and changing nothing, for Data gives the part of the received store that holds its bytes; for SendFinish, or under 1, 2 or 19, an
-- empty part. Taking Data lowers the untaken bytes and raises the taken-and-untold count; taking SendFinish moves neither. Taking an
-- ack removes the link's oldest. A Consumed is due when the taken-and-untold count is above `recv_buffer` / 10, rounded down." Request
-- [4] has 0 for that once the reader has closed. Ready is what lies before the next expected number; N is the cell count. Assumes nothing.
use Rattle.std.specs.Prelude.{◌≡◌, ℕ, ◌+◌, ◌-◌, ◌*◌, ◌/◌, ◌%◌, ◌^◌, ◌<◌, ◌≤◌, Bool, true, false, cond, not, ◌&&◌, List, [], ◌∷◌, length, take, drop, ◌==◌, nat_lt, slice_set, refl, Some, None, Option, Ok, Err, Result}
use Rattle.refusal.specs.declared.Refusal.{Refusal}
use Rattle.engine.specs.Held.{HandOut, Held}
use Rattle.std.proofs.Common.{sym, ap, ap₂, ◌∙◌, mod-lt, arith, eqb-true}
use Rattle.std.proofs.Math.Decide.{ℕ_discrete}
use Rattle.seq.specs.declared.Seq.{Seq}
use Rattle.msg.specs.declared.reliable.ReliableMsg.{ReliableMsg}
use Rattle.msg.specs.declared.reliable.ReliableMsg.TheVariants.{Data, Consumed, SendFinish, ReceiveClose, ReceiveFinish}
use Rattle.refusal.specs.Answers.{Told, success, refused, told_by, flag}
use Rattle.msg.specs.Reliable.{kind_of}
use Rattle.engine.specs.declared.state.Receiving.{Receiving}
use Rattle.engine.specs.declared.state.State.{State}
use Rattle.engine.specs.Records.{is_full, is_ready_kind, held_bytes}
use Rattle.engine.specs.Received.{RxTable, table_of, held_at, expected_at, in_use, view-held}
use Rattle.engine.specs.CellCount.{cell-count}
use Rattle.engine.specs.Sound.{Sound, SoundRecords, cell_at, Shaped}
use Rattle.engine.specs.DecidedTables.{length-le, length_none, plus-zero}
use Rattle.refusal.specs.Verdicts.{Verdict, gate, gate-pass}
use Rattle.refusal.specs.Tests.{false-true, split}
use Rattle.engine.specs.Receiving.{lengths_ok}
use Rattle.std.proofs.lemmas.Bool.{eqb-false}
use Rattle.engine.specs.Decide.{soundb, sound, recordsb, records-sound, sound_withb}
use Rattle.engine.specs.Stores.{cell_start}
use borrow.Table.Steps.{cases}
use Rattle.seq.specs.Numbers.{seq_of, plus}
use Rattle.seq.specs.Laws.{plus-difference}
use Rattle.seq.specs.Distance.{past, past_near}
use Rattle.engine.specs.Rows.{row_of, slot_ok}
use Rattle.engine.specs.Gates.{AtSlot, slot-ok, state_verdict}
use Rattle.engine.specs.declared.handing_out.TakeResult.{TakeResult}
use Rattle.link.specs.Acks.{oldest_ack, ack_taken}
use Rattle.engine.specs.declared.handing_out.TakeAckResult.{TakeAckResult}
use Rattle.engine.specs.Turns.{turns}
use Rattle.engine.specs.Sizes.{DATA_BYTES}
use Rattle.engine.specs.Packets.{is_data}
use Rattle.engine.specs.Fields.{with_numbers, with_bytes, with_row, with_rx}
use Rattle.engine.specs.Totals.{fits, MAX_TOTAL, total-fits}
use Rattle.engine.specs.Tally.{length_ok}

-- ---- the oldest ready message

-- the oldest ready message: with the oldest number at the next expected one, none is ready
unfoldable pub ready_of : RxTable → Held
unfolding held_at
ready_of t = cond (t.rx.rx_oldest.0 == t.rx.rx_seq.0) None (held_at t.rx.cells t.records t.rx.rx_oldest.0)

-- not "nothing to take" (19)
abbrev pub is_ready : RxTable → Bool
is_ready t = is_full (ready_of t)

-- the message that a cell holds; that of an empty one is never asked
abbrev pub msg_in : Held → ReliableMsg
msg_in None = Data
msg_in (Some (msg, len)) = msg

-- "answering kind, number and length"
abbrev pub hand_out_told : HandOut → Told
hand_out_told (Ok (msg, seq, len)) = success (kind_of msg ∷ seq.0 ∷ len ∷ [])
hand_out_told (Err e) = refused e

-- the kind, number and length of the oldest ready message
abbrev pub ready_values : RxTable → List ℕ
ready_values t = kind_of (msg_in (ready_of t)) ∷ t.rx.rx_oldest.0 ∷ held_bytes (ready_of t) ∷ []

unfoldable pub hand_out_by : Verdict → RxTable → HandOut
unfolding ready_of
hand_out_by (Ok tt) t = Ok ((msg_in (ready_of t)), t.rx.rx_oldest, (held_bytes (ready_of t)))
hand_out_by (Err e) t = Err e

-- the data bytes of a message
abbrev pub data_length : ReliableMsg → ℕ → ℕ
data_length msg len = cond (is_data msg) len 0

abbrev pub ready_bytes : Held → ℕ
ready_bytes None = 0
ready_bytes (Some (msg, len)) = data_length msg len

-- ---- showing: a part carries no number, so a second call tells which it is

-- in the order of their numbers, but that 2 "is checked before 1" ([8])
unfoldable pub show_verdict : State → ℕ → List ℕ → Verdict
show_verdict s store records =
    gate (lengths_ok s.rx store (length records)) 2
    (gate (sound_withb s records) 1
    (gate (is_ready (table_of s.rx records)) 19
    (Ok tt)))

-- what is shown: the answer that taking would give, but for 9
unfoldable pub showing_of : State → ℕ → List ℕ → HandOut
unfolding show_verdict hand_out_by
showing_of s store records = hand_out_by (show_verdict s store records) (table_of s.rx records)

-- "from the cell's start for the data length", of N cells; only Data has any
abbrev pub part_as : ℕ → HandOut → List ℕ → List ℕ
part_as N (Ok (msg, seq, len)) store = take (data_length msg len) (drop (cell_start N seq.0) store)
part_as N (Err e) store = []

-- where the part lies, by block and place, of a store that lies somewhere: "from the cell's start"; an empty one at the store's
abbrev pub place_as : ℕ → HandOut → ℕ × ℕ → ℕ × ℕ
place_as N (Ok (msg, seq, len)) at = (at.0, cell_start N seq.0 + at.1)
place_as N (Err e) at = at

unfoldable pub shown_at : State → ℕ → List ℕ → ℕ × ℕ → ℕ × ℕ
unfolding showing_of
shown_at s store records at = place_as s.rx.cells (showing_of s store records) at

unfoldable pub shown_of : State → List ℕ → List ℕ → List ℕ
unfolding showing_of
shown_of s store records = part_as s.rx.cells (showing_of s (length store) records) store

-- ---- taking

-- "refusal 2, now given in taking a message too" ([8]); 9: "a total would pass 2^32 − 1", the taken-and-untold count
unfoldable pub take_verdict : State → List ℕ → Verdict
take_verdict s records =
    gate (length records == s.rx.cells) 2
    (gate (sound_withb s records) 1
    (gate (fits s.rx.rxed_reliable_consumed (ready_bytes (ready_of (table_of s.rx records))) MAX_TOTAL) 9
    (gate (is_ready (table_of s.rx records)) 19
    (Ok tt))))

-- the oldest number stands for nothing that is ready, and is before the next expected
unfoldable pub can_skip : ℕ → List ℕ → Receiving → Bool
unfolding held_at
can_skip N records rx = not (rx.rx_oldest.0 == rx.rx_seq.0) && not (is_full (held_at N records rx.rx_oldest.0))

unfoldable pub passed_by : Receiving → Receiving
passed_by rx = with_numbers rx rx.rx_seq (seq_of (plus rx.rx_oldest.0 1))

-- to the next ready message or the next expected number, over at most k numbers
abbrev pub skipped : ℕ → ℕ → List ℕ → Receiving → Receiving
skipped N k records rx = turns (can_skip N records) passed_by k rx

-- the table without its oldest ready message, of so many data bytes
unfoldable pub taken_in : ℕ → RxTable → ℕ → RxTable
unfolding passed_by
taken_in N t bytes =
    let emptied = slice_set t.records (t.rx.rx_oldest.0 % N) 0 in
    record {
      rx = skipped N N emptied (with_bytes (passed_by t.rx) (t.rx.rxed_reliable_size - bytes) (t.rx.rxed_reliable_consumed + bytes));
      records = emptied;
    }

abbrev pub taken_table : State → List ℕ → ℕ → RxTable
taken_table s records bytes = taken_in s.rx.cells (table_of s.rx records) bytes

unfoldable pub taken_state : State → List ℕ → ℕ → State
unfolding taken_in
taken_state s records bytes = with_rx s (taken_table s records bytes).rx

abbrev pub taken_by : HandOut → State → List ℕ → State
taken_by (Ok (msg, seq, len)) s records = taken_state s records (data_length msg len)
taken_by (Err e) s records = s

unfoldable pub take_of : State → List ℕ → TakeResult
unfolding take_verdict taken_state
take_of s records =
    let answer = hand_out_by (take_verdict s records) (table_of s.rx records) in
    record { answer = answer; state = taken_by answer s records }

-- its record is empty then, and no other word changes
abbrev pub records_by : HandOut → State → List ℕ → List ℕ
records_by (Ok (msg, seq, len)) s records = (taken_table s records (data_length msg len)).records
records_by (Err e) s records = records

unfoldable pub take_records : State → List ℕ → List ℕ
unfolding take_verdict
take_records s records = records_by (hand_out_by (take_verdict s records) (table_of s.rx records)) s records

-- ---- taking an ack

-- not "nothing to take" (19)
abbrev pub is_waiting : Option Seq → Bool
is_waiting None = false
is_waiting (Some seq) = true

unfoldable pub take_ack_verdict : State → ℕ → Verdict
take_ack_verdict s slot = gate (soundb s) 1 (gate (slot_ok s slot) 4 (gate (is_waiting (oldest_ack (row_of s slot))) 19 (Ok tt)))

-- the number that is acked; where none waits it is never asked
abbrev pub ack_in : Option Seq → Seq
ack_in None = seq_of 0
ack_in (Some seq) = seq

-- the link's oldest
abbrev pub take_ack_told : Result Seq Refusal → Told
take_ack_told (Ok seq) = success (seq.0 ∷ [])
take_ack_told (Err e) = refused e

abbrev pub ack_as : Verdict → Option Seq → Result Seq Refusal
ack_as (Ok tt) ack = Ok (ack_in ack)
ack_as (Err e) ack = Err e

unfoldable pub ack_answer : State → ℕ → Result Seq Refusal
unfolding take_ack_verdict
ack_answer s slot = ack_as (take_ack_verdict s slot) (oldest_ack (row_of s slot))

unfoldable pub taken_ack_state : State → ℕ → State
taken_ack_state s slot = with_row s slot (ack_taken (row_of s slot))

abbrev pub taken_ack_by : Result Seq Refusal → State → ℕ → State
taken_ack_by (Ok seq) s slot = taken_ack_state s slot
taken_ack_by (Err e) s slot = s

unfoldable pub take_ack_of : State → ℕ → TakeAckResult
unfolding ack_answer taken_ack_state
take_ack_of s slot = record { answer = ack_answer s slot; state = taken_ack_by (ack_answer s slot) s slot }

-- ---- whether a Consumed is due

abbrev pub due_told : Result Bool Refusal → Told
due_told (Ok due) = success (flag due ∷ [])
due_told (Err e) = refused e

-- "`recv_buffer` / 10, rounded down", and once the reader has closed "0: one taken byte is enough, zero is not" ([4])
abbrev pub due_above : State → ℕ
due_above s = cond s.read_open (s.rx.recv_buffer / 10) 0

abbrev pub is_due : State → Bool
is_due s = nat_lt (due_above s) s.rx.rxed_reliable_consumed

abbrev pub due_by : Verdict → State → Result Bool Refusal
due_by (Ok tt) s = Ok (is_due s)
due_by (Err e) s = Err e

unfoldable pub due_of : State → Result Bool Refusal
due_of s = due_by (state_verdict s) s

-- ---- laws

-- what each answer tells

handed-told : (v : Verdict) (t : RxTable) → hand_out_told (hand_out_by v t) ≡ told_by v (ready_values t)
unfolding hand_out_by
handed-told (Ok tt) t = refl
handed-told (Err e) t = refl

pub hand-told : {r : HandOut} (v w : Verdict) (t : RxTable) → r ≡ hand_out_by v t → v ≡ w → hand_out_told r ≡ told_by w (ready_values t)
hand-told v w t e same = ap hand_out_told e ∙ handed-told v t ∙ ap (λ x. told_by x (ready_values t)) same

ack-told : (v : Verdict) (ack : Option Seq) → take_ack_told (ack_as v ack) ≡ told_by v ((ack_in ack).0 ∷ [])
ack-told (Ok tt) ack = refl
ack-told (Err e) ack = refl

pub answer-told : (s : State) (slot : ℕ) → take_ack_told (ack_answer s slot) ≡ told_by (take_ack_verdict s slot) ((ack_in (oldest_ack (row_of s slot))).0 ∷ [])
unfolding ack_answer
answer-told s slot = ack-told (take_ack_verdict s slot) (oldest_ack (row_of s slot))

-- what an answer that is no refusal says
pub record Handed (v : Verdict) (t : RxTable) (msg : ReliableMsg) (n : Seq) (len : ℕ) : Type 0 where
  pub passed : v ≡ Ok tt
  pub ready : is_ready t ≡ true → ready_of t ≡ Some (msg, len)
  pub number : t.rx.rx_oldest ≡ n

ready-is : (held : Held) (msg : ReliableMsg) (len : ℕ) → msg_in held ≡ msg → held_bytes held ≡ len → is_full held ≡ true → held ≡ Some (msg, len)
ready-is None msg len m l e = false-true e
ready-is (Some (msg₁, len₁)) msg len m l e = ap₂ (λ (a : ReliableMsg) (b : ℕ). Some (a, b)) m l

pub handed : (v : Verdict) (t : RxTable) (msg : ReliableMsg) (n : Seq) (len : ℕ) → hand_out_by v t ≡ Ok (msg, n, len) → Handed v t msg n len
unfolding hand_out_by
handed (Ok tt) t msg n len e =
    let all : ◌≡◌ {A = ReliableMsg × Seq × ℕ} (msg_in (ready_of t), t.rx.rx_oldest, held_bytes (ready_of t)) (msg, n, len) = cc in
    let m : msg_in (ready_of t) ≡ msg = ap (λ x. x.0) all in
    let l : held_bytes (ready_of t) ≡ len = ap (λ x. x.2) all in
    let o : t.rx.rx_oldest ≡ n = ap (λ x. x.1) all in
    record { passed = refl; ready = ready-is (ready_of t) msg len m l; number = o }
handed (Err e₁) t msg n len e = let z : ◌≡◌ {A = ℕ} 0 1 = cc in absurd (omega arith)

data-length-le : (msg : ReliableMsg) (len : ℕ) → data_length msg len ≤ len
data-length-le msg len = cases (is_data msg) (λ t. simp t (omega arith)) (λ t. simp t (omega arith))

-- a ready message is what the oldest number's record says, before the next expected number
pub ready_held : (t : RxTable) (msg : ReliableMsg) (len : ℕ) → ready_of t ≡ Some (msg, len)
    → (held_at t.rx.cells t.records t.rx.rx_oldest.0 ≡ Some (msg, len)) × ((t.rx.rx_oldest.0 == t.rx.rx_seq.0) ≡ false)
unfolding ready_of
ready_held t msg len e =
    cases (t.rx.rx_oldest.0 == t.rx.rx_seq.0)
    (λ b. let z : ◌≡◌ {A = Held} None (Some (msg, len)) = simp b at e in let z' : ◌≡◌ {A = ℕ} 0 1 = cc in absurd (omega arith))
    (λ b. (simp b at e, b))

-- the next expected number, where it isn't the oldest, is past it
expected-past : (n o : ℕ) → n < 2 ^ 32 → o < 2 ^ 32 → past n o < 2 ^ 30 → (o == n) ≡ false → 0 < past n o
expected-past n o hn ho close ne =
    let n-is : plus o (past n o) ≡ n = ap (plus o) (past_near n o close) ∙ plus-difference n o hn ho in
    elim (ℕ_discrete (past n o) 0) [
      | yes z ↦ absurd (eqb-false o n ne (sym (plus-zero o ho) ∙ ap (plus o) (sym z) ∙ n-is))
      | no nz ↦ omega arith
    ]

-- its bytes fit its cell of the store
pub ready-short : (s : State) (records : List ℕ) (msg : ReliableMsg) (len : ℕ) → Shaped s → Sound s → SoundRecords (table_of s.rx records)
    → ready_of (table_of s.rx records) ≡ Some (msg, len) → data_length msg len ≤ DATA_BYTES
ready-short s records msg len shape fine recorded e =
    let t = table_of s.rx records in
    let o = s.rx.rx_oldest.0 in
    let count = cell-count s.rx.cells fine.cell-count in
    let here = ready_held t msg len e in
    let some : 0 < expected_at s.rx = expected-past s.rx.rx_seq.0 o shape.expected-u32 shape.oldest-u32 (omega (arith, fine.near, fine.used, count.few)) here.1 in
    let used : 0 < in_use s.rx = omega (arith, fine.near) in
    let is : cell_at t 0 ≡ Some (msg, len) =
    view-held s.rx.cells count t 0 used ∙ ap (held_at s.rx.cells records) (plus-zero o shape.oldest-u32) ∙ here.0 in
    let long : length_ok msg len ≡ true = rw is at (recorded.cell-length 0 used) in
    omega (arith, data-length-le msg len, length-le msg len long)

-- what is shown lies within the store
pub shown-within : (s : State) (store : ℕ) (records : List ℕ) (msg : ReliableMsg) (seq : Seq) (len : ℕ) → Shaped s → showing_of s store records ≡ Ok (msg, seq, len)
    → (0 < s.rx.cells) × (cell_start s.rx.cells seq.0 + data_length msg len ≤ store)
unfolding showing_of show_verdict hand_out_by sound_withb
shown-within s store records msg seq len shape e =
    let t = table_of s.rx records in
    let h = handed (show_verdict s store records) t msg seq len e in
    let e2 = gate-pass (lengths_ok s.rx store (length records)) _ _ h.passed in
    let e1 = gate-pass (sound_withb s records) _ _ e2.1 in
    let e19 = gate-pass (is_ready t) _ _ e1.1 in
    let both = split (soundb s) (recordsb t) e1.0 in
    let stored = eqb-true store (s.rx.cells * DATA_BYTES) (split (store == s.rx.cells * DATA_BYTES) (length records == s.rx.cells) e2.0).0 in
    let some = (cell-count s.rx.cells (sound s both.0).cell-count).some in
    let at : seq.0 % s.rx.cells < s.rx.cells = mod-lt seq.0 some in
    let short = ready-short s records msg len shape (sound s both.0) (records-sound t both.1) (h.ready e19.0) in
    (some, omega arith)

-- a part named by its start and its end
pub part_same : (start len : ℕ) (store : List ℕ) → take (start + len - start) (drop start store) ≡ take len (drop start store)
part_same start len store =
    let e : start + len - start ≡ len = omega arith in
    ap (λ n. take n (drop start store)) e

-- a message that is taken was ready, in a sound state with its records, and the taken-and-untold count stays a total
pub record Taking (s : State) (records : List ℕ) (msg : ReliableMsg) (seq : Seq) (len : ℕ) : Type 0 where
  pub fine : Sound s
  pub recorded : SoundRecords (table_of s.rx records)
  pub ready : ready_of (table_of s.rx records) ≡ Some (msg, len)
  pub number : s.rx.rx_oldest ≡ seq
  pub total : s.rx.rxed_reliable_consumed + data_length msg len < 2 ^ 32

pub taking : (s : State) (records : List ℕ) (msg : ReliableMsg) (seq : Seq) (len : ℕ) → hand_out_by (take_verdict s records) (table_of s.rx records) ≡ Ok (msg, seq, len)
    → Taking s records msg seq len
unfolding take_verdict sound_withb
taking s records msg seq len e =
    let t = table_of s.rx records in
    let h = handed (take_verdict s records) t msg seq len e in
    let e2 = gate-pass (length records == s.rx.cells) _ _ h.passed in
    let e1 = gate-pass (sound_withb s records) _ _ e2.1 in
    let e9 = gate-pass (fits s.rx.rxed_reliable_consumed (ready_bytes (ready_of t)) MAX_TOTAL) _ _ e1.1 in
    let e19 = gate-pass (is_ready t) _ _ e9.1 in
    let both = split (soundb s) (recordsb t) e1.0 in
    record {
      fine = sound s both.0;
      recorded = records-sound t both.1;
      ready = h.ready e19.0;
      number = h.number;
      total = rw (ap ready_bytes (h.ready e19.0)) at (total-fits s.rx.rxed_reliable_consumed (ready_bytes (ready_of t)) e9.0);
    }

-- an ack that is taken was waiting, on a live link
pub record TakeAckPassed (s : State) (slot : ℕ) : Type 0 where
  pub at : AtSlot s slot
  pub waits : is_waiting (oldest_ack (row_of s slot)) ≡ true

pub take-ack-passed : (s : State) (slot : ℕ) → take_ack_verdict s slot ≡ Ok tt → TakeAckPassed s slot
unfolding take_ack_verdict
take-ack-passed s slot e =
    let e1 = gate-pass (soundb s) _ _ e in
    let e4 = gate-pass (slot_ok s slot) _ _ e1.1 in
    let e19 = gate-pass (is_waiting (oldest_ack (row_of s slot))) _ _ e4.1 in
    record { at = slot-ok s slot e1.0 e4.0; waits = e19.0 }

-- a ready message's data bytes are all that its cell counts
pub data-all : (msg : ReliableMsg) (len : ℕ) → is_ready_kind msg ≡ true → length_ok msg len ≡ true → data_length msg len ≡ len
data-all Data len r w = refl
data-all (Consumed n) len r w = false-true r
data-all SendFinish len r w = sym (length_none SendFinish len refl w)
data-all ReceiveClose len r w = false-true r
data-all ReceiveFinish len r w = false-true r
