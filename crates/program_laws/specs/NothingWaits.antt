-- Document 01, "The replay program": "acks and ready messages are taken after each frame". In every session that the replay reaches, nothing
-- waits: taking an ack is refused with 19, and so is taking a message, but for the one refusal that stands before 19, of a count that
-- has no room (9), which no input below 2^32 bytes reaches (TakenBytes). Assumes nothing.
use Rattle.std.specs.Prelude.{◌≡◌, refl, Bool, cond, List, [], ◌∷◌, ℕ, eqb, length, get_or, set, Some, None, Option, Ok, Err, Result}
use Rattle.refusal.specs.declared.Refusal.{Refusal}
use Rattle.engine.specs.Held.{HandOut}
use Rattle.std.proofs.Math.Path.{sym, ap}
use Rattle.std.proofs.Common.{◌∙◌, arith, get_or-set_same, eq-eqb}
use Rattle.std.proofs.Math.Bool.{true, false}
use borrow.Table.Steps.{cases}
use Rattle.refusal.specs.declared.Refusal.TheVariants as refusals
use Rattle.refusal.specs.Tests.{false-true}
use Rattle.refusal.specs.Verdicts.{gate}
use Rattle.seq.specs.declared.Seq.{Seq}
use Rattle.seq.specs.Numbers.{seq_of}
use Rattle.msg.specs.declared.reliable.ReliableMsg.{ReliableMsg}
use Rattle.link.specs.declared.row.LinkRow.{LinkRow}
use Rattle.link.specs.Acks.{oldest_ack, ack_taken, ack_queued}
use Rattle.link.specs.Row.{no_row, empty_row, fresh_row}
use Rattle.link.specs.Sizes.{ACKS}
use Rattle.engine.specs.declared.state.State.{State}
use Rattle.engine.specs.CellCount.{is_cell_count}
use Rattle.engine.specs.Received.{RxTable, table_of}
use Rattle.engine.specs.Decide.{soundb, sound-true, sound_withb, records-true}
use Rattle.engine.specs.Sound.{SoundRecords, row_at}
use Rattle.engine.specs.Rows.{row_of, row-of, slot_ok}
use Rattle.engine.specs.Turns.{turns-keep, turns_same}
use Rattle.engine.specs.Cells.{is_repeat, put_in, can_advance, passed_over}
use Rattle.engine.specs.Fields.{with_row}
use Rattle.engine.specs.Totals.{fits, MAX_TOTAL}
use Rattle.engine.specs.Starting.{fresh_of, fresh_verdict, fresh_state, fresh_records}
use Rattle.engine.specs.Links.{add_of, lowest_empty, is_taken}
use Rattle.engine.specs.Receiving.{receive_of, receive_records, receive_verdict, repeated_state, effect_state, received_state}
use Rattle.engine.specs.HandingOut.{take_ack_of, ack_as, ack_answer, taken_ack_by, is_waiting, take_of, take_verdict, taken_by, taken_state, taken_in, can_skip, passed_by, hand_out_by, is_ready, ready_of, ready_bytes}
use Rattle.engine.specs.Answer.{changed-keeps}
use Rattle.laws.specs.Calls as calls
use Rattle.laws.specs.Good.{Good}
use Rattle.laws.specs.AcksKept.{queued-who, taken-who}
use Rattle.laws.specs.SoundKept.{kept, fresh-good}
use Rattle.laws.specs.RecordsKept.{records-kept, fresh-recorded}
use Rattle.replaying.specs.declared.session.Replay.{Replay}
use Rattle.replaying.specs.Sizes.{CELLS, RECEIVED_BYTES}
use Rattle.replaying.specs.Session.{beginning, begun, begun_records}
use Rattle.replaying.specs.Taking.{is_ack, is_message, has_ack, after_ack, without_acks, Recorded, recorded, has_message, after_message, without_ready, without_all, ended}
use Rattle.replaying.specs.Taken.{no-ack-left, no-message, no-message-left}
use Rattle.replaying.specs.Line.{Left, received}
use Rattle.replaying.specs.Feeding.{Told, Carrying, begun_with, line_left, line_ended, byte_fed, fed_by, absent_as, absent_of, last_line, last_of, closed, every-line}

-- nothing waits on link 0, and no message is ready
pub record NothingWaits (h : Recorded) : Type 0 where
  pub acks : (take_ack_of h.state 0).answer ≡ Err refusals.Nothing
  pub messages : fits h.state.rx.rxed_reliable_consumed (ready_bytes (ready_of (table_of h.state.rx h.records))) MAX_TOTAL ≡ true
      → (take_of h.state h.records).answer ≡ Err refusals.Nothing

-- ---- link 0 lives, in a sound state with sound records

-- what every call of the replay keeps
pub record Living (h : Recorded) : Type 0 where
  pub good : Good h.state
  pub recorded : SoundRecords (table_of h.state.rx h.records)
  pub cells : h.state.rx.cells ≡ CELLS
  pub live : (row_at h.state 0).live ≡ true

-- what a call finds, with whatever store
abbrev holding : Recorded → List ℕ → calls.Holding
holding h store = record { state = h.state; sent = []; received = store; records = h.records }

-- link 0 lives on under a row that lives as the old one does
row-lives : (h : Recorded) (row : LinkRow) → Living h → row.live ≡ (row_of h.state 0).live → (get_or (set h.state.links 0 row) 0 no_row).live ≡ true
row-lives h row l same =
    ap (λ r. r.live) (get_or-set_same h.state.links 0 row no_row (omega (arith, l.good.shaped.links-full)))
    ∙ same
    ∙ ap (λ r. r.live) (row-of h.state 0 (omega arith))
    ∙ l.live

-- when an ack is taken
ack-lives : (h : Recorded) → Living h → Living (recorded (take_ack_of h.state 0).state h.records)
unfolding take_ack_of
ack-lives h l = record {
  good = kept (calls.TakeAck 0) (holding h []) tt l.good;
  recorded = records-kept (calls.TakeAck 0) (holding h []) tt l.good l.recorded;
  cells = by-cells (ack_answer h.state 0);
  live = by_answer (ack_answer h.state 0);
}
  where
    by-cells : (a : Result Seq Refusal) → (taken_ack_by a h.state 0).rx.cells ≡ CELLS
    by-cells (Ok seq) = l.cells
    by-cells (Err e) = l.cells

    by_answer : (a : Result Seq Refusal) → (row_at (taken_ack_by a h.state 0) 0).live ≡ true
    by_answer (Ok seq) = row-lives h (ack_taken (row_of h.state 0)) l (taken-who (row_of h.state 0)).0
    by_answer (Err e) = l.live

-- when a message is taken: the links stay as they are, and so many cells
links-stay : (a : HandOut) (h : Recorded) → (taken_by a h.state h.records).links ≡ h.state.links
unfolding taken_state
links-stay (Ok (msg, seq, len)) h = refl
links-stay (Err e) h = refl

take-links : (h : Recorded) → (take_of h.state h.records).state.links ≡ h.state.links
unfolding take_of
take-links h = links-stay (hand_out_by (take_verdict h.state h.records) (table_of h.state.rx h.records)) h

cells_stay : (a : HandOut) (h : Recorded) → (taken_by a h.state h.records).rx.cells ≡ h.state.rx.cells
unfolding taken_state taken_in passed_by
cells_stay (Ok (msg, seq, len)) h = turns_same (can_skip h.state.rx.cells _) passed_by (λ r. r.cells) (λ r. refl) h.state.rx.cells _
cells_stay (Err e) h = refl

take_cells : (h : Recorded) → (take_of h.state h.records).state.rx.cells ≡ h.state.rx.cells
unfolding take_of
take_cells h = cells_stay (hand_out_by (take_verdict h.state h.records) (table_of h.state.rx h.records)) h

pub take-lives : (h : Recorded) → Living h → Living (after_message h)
take-lives h l = record {
  good = kept calls.Take (holding h []) tt l.good;
  recorded = records-kept calls.Take (holding h []) tt l.good l.recorded;
  cells = take_cells h ∙ l.cells;
  live = ap (λ x. (get_or x 0 no_row).live) (take-links h) ∙ l.live;
}

-- when a message is received: what there is then
abbrev pub received_with : Recorded → List ℕ → ReliableMsg → ℕ → List ℕ → Recorded
received_with h store msg n bytes =
    recorded (receive_of h.state (length store) h.records 0 msg n (length bytes)).state
    (receive_records h.state (length store) h.records 0 msg n (length bytes))

stored-cells : (h : Recorded) (msg : ReliableMsg) (n len : ℕ) → (received_state h.state h.records 0 msg n len).rx.cells ≡ h.state.rx.cells
unfolding received_state effect_state put_in passed_over
stored-cells h msg n len =
    turns_same (can_advance h.state.rx.cells) (passed_over h.state.rx.cells) (λ t. t.rx.cells) (λ t. refl) h.state.rx.cells _

pub receive-lives : (h : Recorded) (store : List ℕ) (msg : ReliableMsg) (n : ℕ) (bytes : List ℕ) → Living h → Living (received_with h store msg n bytes)
unfolding receive_of
receive-lives h store msg n bytes l =
    let s = h.state in
    let len = length bytes in
    let again = is_repeat s.rx.cells (table_of s.rx h.records) n in
    let lives = row-lives h (ack_queued (row_of s 0) (seq_of n)) l (queued-who (row_of s 0) (seq_of n)).0 in
    let verdict = receive_verdict s (length store) h.records 0 msg n len in
    let then = cond again (repeated_state s 0 n) (received_state s h.records 0 msg n len) in
    record {
      good = kept (calls.Receive 0 msg n bytes) (holding h store) tt l.good;
      recorded = records-kept (calls.Receive 0 msg n bytes) (holding h store) tt l.good l.recorded;
      cells =
          changed-keeps (λ x. x.rx.cells ≡ CELLS) verdict s then l.cells
          (λ v. cases again (λ t. simp t l.cells) (λ f. simp f (stored-cells h msg n len ∙ l.cells)));
      live =
          changed-keeps (λ x. (row_at x 0).live ≡ true) verdict s then l.live
          (λ v. cases again (λ t. simp t lives) (λ f. simp f lives));
    }

-- ---- taking all

-- link 0 lives, and no ack waits on it
pub record Quiet (h : Recorded) : Type 0 where
  pub living : Living h
  pub none : is_waiting (oldest_ack (row_of h.state 0)) ≡ false

-- and taking a message is refused: what the end of a frame leaves
pub record Settled (h : Recorded) : Type 0 where
  pub quiet : Quiet h
  pub taken : has_message h ≡ false

-- where 1 and 4 don't refuse it and no ack is taken, none waits
unwaiting : (sound slot waiting : Bool) (ack : Option Seq) → sound ≡ true → slot ≡ true
    → is_ack (ack_as (gate sound 1 (gate slot 4 (gate waiting 19 (Ok tt)))) ack) ≡ false → waiting ≡ false
unwaiting sound slot true ack p q e = simp (p, q) at e
unwaiting sound slot false ack p q e = refl

-- 4 doesn't refuse link 0
slot-here : (h : Recorded) → Living h → slot_ok h.state 0 ≡ true
unfolding slot_ok
slot-here h l = l.live

-- taking acks keeps link 0, and ACKS turns take them all
pub acks-live : (n : ℕ) (h : Recorded) → Living h → Living (recorded (without_acks n h.state) h.records)
acks-live n h l =
    let Lives : State → Type 0 = λ s. Living (recorded s h.records) in
    turns-keep has_ack after_ack (λ k s. Lives s) Lives (λ k s g t. ack-lives (recorded s h.records) g) (λ k s g f. g) (λ s g. g) n h.state l

acks-quiet : (h : Recorded) → Living h → Quiet (recorded (without_acks ACKS h.state) h.records)
unfolding take_ack_of
acks-quiet h l =
    let s = h.state in
    let left = without_acks ACKS s in
    let living = acks-live ACKS h l in
    let few = l.good.sound.ack-count 0 (omega arith) l.live in
    let row = ap (λ r. r.ack_count) (row-of s 0 (omega arith)) in
    record {
      living = living;
      none =
          unwaiting (soundb left) (slot_ok left 0) _ (oldest_ack (row_of left 0)) (sound-true left living.good.sound) (slot-here (recorded left h.records) living)
          (no-ack-left ACKS s l.good.shaped.links-full (omega arith));
    }

-- taking messages keeps both
ready-quiet : (n : ℕ) (h : Recorded) → Quiet h → Quiet (without_ready n h)
unfolding row_of
ready-quiet =
    turns-keep has_message after_message (λ k h. Quiet h) Quiet
    (λ k h q t. record { living = take-lives h q.living; none = ap (λ x. is_waiting (oldest_ack (get_or x 0 no_row))) (take-links h) ∙ q.none })
    (λ k h q f. q) (λ h q. q)

-- CELLS turns take all messages
all_settled : (h : Recorded) → Living h → Settled (without_all h)
unfolding without_all
all_settled h l =
    let quiet = acks-quiet h l in
    let good = quiet.living.good in
    record {
      quiet = ready-quiet CELLS _ quiet;
      taken =
          no-message-left CELLS _
          (record {
            expected = good.shaped.expected-u32;
            oldest = good.shaped.oldest-u32;
            close = omega (arith, good.sound.near, good.sound.used, quiet.living.cells);
          })
          (omega (arith, good.sound.near, good.sound.used, quiet.living.cells));
    }

-- ---- nothing waits there

-- where 2, 1 and 9 don't refuse it and no message is taken, 19 does
unready : (long sound total some : Bool) (t : RxTable) → long ≡ true → sound ≡ true → total ≡ true
    → is_message (hand_out_by (gate long 2 (gate sound 1 (gate total 9 (gate some 19 (Ok tt))))) t) ≡ false
    → hand_out_by (gate long 2 (gate sound 1 (gate total 9 (gate some 19 (Ok tt))))) t ≡ Err refusals.Nothing
unfolding hand_out_by
unready long sound total true t o p q e = false-true (sym (simp (o, p, q) at e))
unready long sound total false t o p q e = simp (o, p, q)

-- 2 and 1 don't refuse taking
records-long : (h : Recorded) → Living h → eqb (length h.records) h.state.rx.cells ≡ true
records-long h l = eq-eqb (length h.records) h.state.rx.cells l.recorded.long

both-sound : (h : Recorded) → Living h → sound_withb h.state h.records ≡ true
unfolding sound_withb
both-sound h l = simp (sound-true h.state l.good.sound, records-true (table_of h.state.rx h.records) l.recorded)

pub settled-waits : (h : Recorded) → Settled h → NothingWaits h
unfolding take_ack_of take_of take_verdict
settled-waits h g =
    let living = g.quiet.living in
    let t = table_of h.state.rx h.records in
    record {
      acks = simp (sound-true h.state living.good.sound, slot-here h living, g.quiet.none);
      messages = λ total.
          unready (eqb (length h.records) h.state.rx.cells) (sound_withb h.state h.records) _ (is_ready t) t (records-long h living) (both-sound h living)
          total g.taken;
    }

-- ---- every line

-- a frame ends so, and a line that is awaited changes nothing
abbrev pub Fine : Replay → List ℕ → Type 0
Fine r records = Settled (recorded r.state records)

abbrev pub LeftFine : Left → Type 0
LeftFine l = Fine l.said.replay l.records

abbrev pub ToldFine : Told → Type 0
ToldFine t = Fine t.replay t.records

ended-fine : (number : ℕ) (h : Recorded) → Living h → Fine (ended number h).replay (without_all h).records
unfolding ended
ended-fine number h l = all_settled h l

received-fine : (h : Recorded) (store : List ℕ) (msg : ReliableMsg) (seq : Seq) (bytes : List ℕ) → Living h → LeftFine (received h store msg seq bytes)
unfolding received ended
received-fine h store msg seq bytes l = all_settled (received_with h store msg seq.0 bytes) (receive-lives h store msg seq.0 bytes l)

pub line-fine : (r : Replay) (store records line : List ℕ) (count : ℕ) → Fine r records → LeftFine (line_left r store records line count)
line-fine r store records line count g =
    let living = g.quiet.living in
    every-line LeftFine r store records line count
    (λ number. ended-fine number (recorded r.state records) living)
    (λ msg seq bytes few. received-fine (recorded r.state records) store msg seq bytes living)
    (λ seq. g)

-- ---- from the beginning to the end

-- every byte that is fed
pub byte-fine : (c : Carrying) (b : ℕ) → ToldFine c.told → ToldFine (byte_fed c b).told
unfolding byte_fed line_ended
byte-fine c b g = cases (eqb b 10) (λ t. simp t (line-fine c.told.replay _ _ c.line c.count g)) (λ f. simp f g)

pub fed-fine : (c : Carrying) (input : List ℕ) → ToldFine c.told → ToldFine (fed_by c input).told
unfolding fed_by
fed-fine c [] g = g
fed-fine c (b ∷ rest) g = fed-fine (byte_fed c b) rest (byte-fine c b g)

-- closing: the last line, and a payload that is absent
pub last-fine : (c : Carrying) → ToldFine c.told → LeftFine (last_line c)
unfolding last_line
last-fine c g = cases (eqb c.count 0) (λ t. simp t g) (λ f. simp f (line-fine c.told.replay _ _ c.line c.count g))

absent-fine : (w : Option Seq) (l : Left) → LeftFine l → LeftFine (absent_as w l)
absent-fine None l g = g
absent-fine (Some seq) l g = ended-fine 20 (recorded l.said.replay.state l.records) g.quiet.living

pub closed-fine : (c : Carrying) → ToldFine c.told → ToldFine (closed c)
unfolding closed last_of absent_of
closed-fine c g = let l = last_line c in absent-fine l.said.replay.waiting l (last-fine c g)

-- the beginning, with a record for each cell: link 0 is added to the fresh state
module _ (records : List ℕ) (long : length records ≡ CELLS) where
  accepted : fresh_verdict RECEIVED_BYTES CELLS (length records) ≡ Ok tt
  unfolding fresh_verdict is_cell_count
  accepted = simp (eq-eqb (length records) CELLS long)

  abbrev fresh : Recorded
  fresh = recorded (fresh_of 0 RECEIVED_BYTES CELLS (length records)).state (fresh_records RECEIVED_BYTES CELLS records)

  fresh-is : fresh.state ≡ fresh_state 0 RECEIVED_BYTES CELLS
  unfolding fresh_of
  fresh-is = simp accepted

  fresh-fine : Good fresh.state
  fresh-fine = fresh-good 0 RECEIVED_BYTES CELLS (omega arith) records accepted

  pub added : (add_of fresh.state 0 0 None false false).state ≡ with_row (fresh_state 0 RECEIVED_BYTES CELLS) 0 (fresh_row 0 0 None false false)
  unfolding add_of fresh_state lowest_empty is_taken empty_row
  added = let sound : soundb (fresh_state 0 RECEIVED_BYTES CELLS) ≡ true = rw (fresh-is) at (sound-true fresh.state fresh-fine.sound) in rw fresh-is (simp sound)

  pub begun-fine : Fine (begun (length records)).replay (begun_records records)
  unfolding begun beginning fresh_state fresh_row row_of oldest_ack
  begun-fine =
      let h = recorded (add_of fresh.state 0 0 None false false).state fresh.records in
      let add = calls.Add 0 0 None false false in
      record {
        quiet = record {
          living = record {
            good = kept add (holding fresh []) tt fresh-fine;
            recorded = records-kept add (holding fresh []) tt fresh-fine (fresh-recorded 0 RECEIVED_BYTES CELLS (omega arith) records accepted);
            cells = ap (λ s. s.rx.cells) added;
            live = ap (λ s. (row_at s 0).live) added;
          };
          none = ap (λ s. is_waiting (oldest_ack (row_of s 0))) added;
        };
        taken = no-message h (ap (λ s. s.rx.rx_oldest.0) added ∙ sym (ap (λ s. s.rx.rx_seq.0) added));
      }

  -- whatever was fed from the beginning, cut anywhere
  pub nothing-waits : (store line input : List ℕ) → let t = (fed_by (begun_with store records line) input).told in NothingWaits (recorded t.replay.state t.records)
  nothing-waits store line input = settled-waits _ (fed-fine (begun_with store records line) input begun-fine)

  -- and when it is closed
  pub nothing-waits-at-end : (store line input : List ℕ) → let t = closed (fed_by (begun_with store records line) input) in NothingWaits (recorded t.replay.state t.records)
  nothing-waits-at-end store line input =
      let c = begun_with store records line in
      settled-waits _ (closed-fine (fed_by c input) (fed-fine c input begun-fine))
