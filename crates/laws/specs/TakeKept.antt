-- Taking keeps a good state good: the oldest ready message leaves its cell and the sum, and the oldest number moves on to the
-- next ready message or to the next expected number; or a link's oldest ack is taken. Assumes nothing.
use Rattle.std.specs.Prelude.{◌≡◌, refl, List, ℕ, ◌+◌, ◌-◌, ◌^◌, ◌<◌, Some, None}
use Rattle.std.proofs.Common.{sym, ◌∙◌, arith}
use Rattle.std.proofs.Math.Path.{ap}
use Rattle.std.proofs.lemmas.Bool.{eqb-false}
use Rattle.seq.specs.declared.Seq.{Seq}
use Rattle.seq.specs.Numbers.{minus}
use Rattle.seq.specs.Distance.{past, past_near}
use Rattle.msg.specs.declared.reliable.ReliableMsg.{ReliableMsg}
use Rattle.engine.specs.declared.state.State.{State}
use Rattle.engine.specs.CellCount.{CellCount, cell-count}
use Rattle.engine.specs.Received.{RxTable, table_of, expected_at, held_at, view-held, view-cell}
use Rattle.engine.specs.Turns.{turns_same}
use Rattle.engine.specs.Gates.{AtSlot}
use Rattle.engine.specs.DecidedTables.{plus-zero}
use Rattle.engine.specs.HandingOut.{Taking, data_length, data-all, ready_held, can_skip, passed_by, taken_in, taken_table, taken_state, taken_ack_state}
use Rattle.laws.specs.Good.{Good}
use Rattle.laws.specs.AcksKept.{taken-sound, taken-shaped}
use Rattle.laws.specs.CellEffects.{held_past, Passes, held_but, taken-passes, table-of, sizes, GoodWith, passed-good}

-- a number that isn't the oldest and not far past it is past it
expected-past : (e o : ℕ) → e < 2 ^ 32 → o < 2 ^ 32 → past e o < 2 ^ 30 → (o ≡ e → ⊥) → 0 < past e o
unfolding minus
expected-past e o he ho close ne = omega (arith, past_near e o close)

module _ (s : State) (good : Good s) (records : List ℕ) (msg : ReliableMsg) (seq : Seq) (len : ℕ) (taking : Taking s records msg seq len) where
  abbrev t : RxTable
  t = table_of s.rx records

  abbrev N : ℕ
  N = s.rx.cells

  count : CellCount N
  count = cell-count N good.sound.cell-count

  near : expected_at s.rx < 2 ^ 30
  near = omega (arith, good.sound.near, good.sound.used, count.few)

  -- what is ready lies before the next expected number
  pub ready-past : 0 < expected_at s.rx
  ready-past = expected-past _ _ good.shaped.expected-u32 good.shaped.oldest-u32 near (eqb-false _ _ (ready_held t msg len taking.ready).1)

  -- it is what the oldest number's cell holds
  pub ready-here : held_past N t s.rx.rx_oldest.0 0 ≡ Some (msg, len)
  ready-here =
      let o = s.rx.rx_oldest.0 in
      sym (view-cell N count t good.shaped.oldest-u32 0 (omega arith)) ∙ view-held N count t 0 (omega (arith, ready-past, good.sound.near))
      ∙ ap (held_at N records) (plus-zero o good.shaped.oldest-u32) ∙ (ready_held t msg len taking.ready).0

  -- what the passing by does
  pub taken-table-passes : Passes N t (taken_table s records (data_length msg len)) (held_but N t 0 None)
  taken-table-passes = taken-passes N count t (table-of s good records taking.recorded) (data_length msg len) ready-past

  -- all that its cell counts is data
  pub ready-data : data_length msg len ≡ len
  ready-data =
      let seen = view-cell N count t good.shaped.oldest-u32 0 (omega arith) ∙ ready-here in
      data-all msg len (rw seen at (taking.recorded.ready 0 ready-past)) (rw seen at (taking.recorded.cell-length 0 (omega (arith, ready-past, good.sound.near))))

  pub taken-good : GoodWith (taken_state s records (data_length msg len)) (taken_table s records (data_length msg len)).records
  unfolding taken_state taken_in passed_by
  taken-good =
      let rx = s.rx in
      let bytes = data_length msg len in
      let table = taken_table s records bytes in
      let same : sizes table.rx ≡ (rx.rxed_reliable_size - bytes, rx.rxed_reliable_consumed + bytes, rx.recv_buffer, rx.cells) =
      turns_same (can_skip N table.records) passed_by sizes (λ x. refl) N _ in
      let inside : 0 < taken-table-passes.end = omega (arith, taken-table-passes.grows, ready-past, good.sound.near) in
      passed-good s good records taking.recorded table 0 None taken-table-passes inside tt (λ l. tt)
      (rw ready-here (omega (arith, ap (λ t. t.0) same, ready-data))) (omega (arith, ap (λ t. t.0) same, good.sound.untaken-within)) (omega (arith, ap (λ t. t.1) same, taking.total))
      (ap (λ t. t.2) same) (ap (λ t. t.3) same)
      s.tx.txed_unconsumed s.tx.send_finish_sent s.tx.write_closed (omega arith)

-- an ack
pub take-ack-good : (s : State) → Good s → (slot : ℕ) → AtSlot s slot → Good (taken_ack_state s slot)
unfolding taken_ack_state
take-ack-good s good slot at = record { shaped = taken-shaped s slot good.shaped; sound = taken-sound s slot good.shaped good.sound at.small at.live }
