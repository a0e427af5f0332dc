-- The receive table's changes. Document 01: "number n uses cell n mod 64"; "Then consecutive messages advance the next expected
-- number; Data and SendFinish among them become ready." Document 02, [8]: "A number's cell is its remainder by the cell count". N is the cell
-- count. Assumes nothing.
use Rattle.std.specs.Prelude.{ℕ, ◌+◌, ◌%◌, Bool, cond, not, ◌&&◌, ◌||◌, List, replicate, ◌==◌, nat_lt, slice_index, slice_set, Some}
use Rattle.seq.specs.declared.Seq.{Seq}
use Rattle.seq.specs.Numbers.{seq_of, plus}
use Rattle.seq.specs.Distance.{before, past}
use Rattle.msg.specs.declared.reliable.ReliableMsg.{ReliableMsg}
use Rattle.engine.specs.declared.state.Receiving.{Receiving}
use Rattle.engine.specs.Records.{is_full, held_of, record_of, kept_record}
use Rattle.engine.specs.Received.{RxTable, held_at, is_used, cell_of}
use Rattle.engine.specs.Fields.{with_numbers, with_bytes, with_end}
use Rattle.engine.specs.Ring.{refilled}
use Rattle.engine.specs.Turns.{turns}

-- less than N past the number that refusal 12 counts from
unfoldable pub near_oldest : ℕ → Receiving → ℕ → Bool
near_oldest N rx n = nat_lt (past n rx.rx_oldest.0) N

-- "A number before the next expected, or already held"
unfoldable pub is_repeat : ℕ → RxTable → ℕ → Bool
unfolding cell_of
is_repeat N t n = before n t.rx.rx_seq.0 || is_full (cell_of N t n)

-- ---- "Then consecutive messages advance the next expected number"

-- the next expected message is there
unfoldable pub can_advance : ℕ → RxTable → Bool
unfolding held_at
can_advance N t = not (t.rx.rx_seq.0 == t.rx.rx_end.0) && is_full (held_at N t.records t.rx.rx_seq.0)

-- the oldest ready message's number, or the next expected one where none is ready
abbrev pub oldest_after : Seq → Seq → Seq → Bool → Seq
oldest_after oldest seq next ready = cond ready oldest (cond (oldest.0 == seq.0) next oldest)

-- the next expected message is passed: "Data and SendFinish among them become ready", and any other leaves its cell
unfoldable pub passed_over : ℕ → RxTable → RxTable
passed_over N t =
    let n = t.rx.rx_seq.0 in
    let stays = kept_record (slice_index t.records (n % N)) in
    record {
      rx = with_numbers t.rx (seq_of (plus n 1)) (oldest_after t.rx.rx_oldest t.rx.rx_seq (seq_of (plus n 1)) (is_full (held_of stays)));
      records = slice_set t.records (n % N) stays;
    }

-- as many as there are, at most k
abbrev pub advanced : ℕ → ℕ → RxTable → RxTable
advanced N k t = turns (can_advance N) (passed_over N) k t

-- ---- "A new one .. is stored"

-- a number at or past the end comes into use ..
unfoldable pub end_after : Receiving → ℕ → Seq
unfolding is_used
end_after rx n = cond (is_used rx n) rx.rx_end (seq_of (plus n 1))

-- .. with those before it from the end on, whose cells are empty then
unfoldable pub opened_records : ℕ → RxTable → ℕ → List ℕ
unfolding is_used
opened_records N t n =
    cond (is_used t.rx n) t.records
    (refilled N t.records (t.rx.rx_end.0 % N) (replicate (past n t.rx.rx_end.0) 0))

-- its record is in its cell, and "Data adds to the untaken bytes" (only Data has bytes)
unfoldable pub put_in : ℕ → RxTable → ReliableMsg → ℕ → ℕ → RxTable
unfolding end_after opened_records
put_in N t msg n len = record {
  rx = with_bytes (with_end t.rx (end_after t.rx n)) (t.rx.rxed_reliable_size + len) t.rx.rxed_reliable_consumed;
  records = slice_set (opened_records N t n) (n % N) (record_of (Some (msg, len)));
}

abbrev pub stored_in : ℕ → RxTable → ReliableMsg → ℕ → ℕ → RxTable
stored_in N t msg n len = advanced N N (put_in N t msg n len)
