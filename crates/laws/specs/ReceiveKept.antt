-- Receive keeps a good state good: a repeat adds an ack; a new number adds one, is stored, has its effect, and the next
-- expected number advances. Assumes nothing.
use Rattle.std.specs.Prelude.{◌≡◌, refl, false, List, ℕ, ◌+◌, ◌-◌, ◌^◌, ◌<◌, ltb, Some}
use Rattle.std.proofs.Math.Path.{sym, ap}
use Rattle.std.proofs.Common.{◌∙◌, arith}
use borrow.Author.Tests.{ltb-true, ltb-false, eq-eqb}
use borrow.Table.Steps.{cases}
use Rattle.refusal.specs.Tests.{false-true}
use Rattle.seq.specs.Numbers.{seq_of, minus}
use Rattle.seq.specs.Distance.{before, past, past_near, before-behind}
use Rattle.msg.specs.declared.reliable.ReliableMsg.{ReliableMsg}
use Rattle.msg.specs.Reliable.{count_of}
use Rattle.engine.specs.declared.state.State.{State}
use Rattle.engine.specs.CellCount.{CellCount, cell-count}
use Rattle.engine.specs.Records.{is_full, held_bytes}
use Rattle.engine.specs.Received.{RxTable, table_of, expected_at, cell_of}
use Rattle.engine.specs.Turns.{turns_same}
use Rattle.engine.specs.Gates.{AtSlot}
use Rattle.engine.specs.Cells.{near_oldest, is_repeat, can_advance, passed_over, put_in}
use Rattle.engine.specs.Receiving.{ReceivePassed, effect_tx, repeated_state, effect_state, stored_table, received_state}
use Rattle.laws.specs.Good.{Good}
use Rattle.laws.specs.AcksKept.{queued-sound, queued-shaped}
use Rattle.laws.specs.CellEffects.{held_past, Passes, held_but, same-cell, stored-passes, table-of, sizes, not_full, neither, GoodWith, passed-good}

-- a repeat, or the ack of any
pub repeated-good : (s : State) → Good s → (slot n : ℕ) → AtSlot s slot → Good (repeated_state s slot n)
unfolding repeated_state
repeated-good s good slot n at =
    record { shaped = queued-shaped s slot good.shaped (seq_of n); sound = queued-sound s slot good.shaped (seq_of n) good.sound at.small at.live }

-- a number that isn't before the next expected one is as far past the oldest
before-past : (n e o : ℕ) → e < 2 ^ 32 → o < 2 ^ 32 → past e o < 2 ^ 30 → past n o < past e o → 2 ^ 32 - 2 ^ 30 < minus n e
unfolding minus
before-past n e o he ho h l = omega (arith, past_near e o h, past_near n o (omega arith))

module _ (s : State) (good : Good s) (store : ℕ) (records : List ℕ) (slot : ℕ) (msg : ReliableMsg) (n len : ℕ) (passed : ReceivePassed s store records slot msg n len)
    (new : is_repeat s.rx.cells (table_of s.rx records) n ≡ false) where
  abbrev t : RxTable
  t = table_of s.rx records

  abbrev N : ℕ
  N = s.rx.cells

  count : CellCount N
  count = cell-count N good.sound.cell-count

  -- what the advance does
  pub received-passes : Passes N t (stored_table s records msg n len) (held_but N t (past n s.rx.rx_oldest.0) (Some (msg, len)))
  received-passes = stored-passes N count t (table-of s good records passed.recorded) msg n len (passed.new new).near (omega (arith, passed.short))

  -- its cell comes into use: from the end on nothing is held
  pub stored-inside : past n s.rx.rx_oldest.0 < received-passes.end
  unfolding near_oldest
  stored-inside =
      let p = received-passes in
      let at = past n s.rx.rx_oldest.0 in
      let close = ltb-true at N (passed.new new).near in
      cases (ltb at p.end) (λ b. ltb-true at p.end b)
      (λ b.
      let ge = ltb-false at p.end b in
      let held : held_but N t at (Some (msg, len)) at ≡ Some (msg, len) = simp (eq-eqb at at refl) in
      let none = sym (p.beyond at ge (omega (arith, close, count.few))) ∙ p.ahead at (omega (arith, p.within)) close ∙ held in
      false-true (ap is_full none))

  -- its cell was empty, and no ready message's
  was-empty : (held_bytes (held_past N t s.rx.rx_oldest.0 (past n s.rx.rx_oldest.0)) ≡ 0)
      × (past n s.rx.rx_oldest.0 < expected_at s.rx → ⊥)
  unfolding is_repeat near_oldest
  was-empty =
      let e = s.rx.rx_seq.0 in
      let o = s.rx.rx_oldest.0 in
      let none = neither (before n e) (is_full (cell_of N t n)) new in
      let close = ltb-true (past n o) N (passed.new new).near in
      let few = count.few in
      let here : held_past N t o (past n o) ≡ cell_of N t n = same-cell N count t n good.shaped.oldest-u32 (omega (arith, close)) in
      let far = before-past n e o good.shaped.expected-u32 good.shaped.oldest-u32 (omega (arith, good.sound.near, good.sound.used)) in
      (ap held_bytes (here ∙ not_full (cell_of N t n) none.1), λ l. false-true (sym none.0 ∙ before-behind n e (far l)))

  -- the ack, then the effect and the table
  pub received-good : GoodWith (received_state s records slot msg n len) (stored_table s records msg n len).records
  unfolding received_state effect_state repeated_state effect_tx passed_over put_in near_oldest
  received-good =
      let rx = s.rx in
      let table = stored_table s records msg n len in
      let same : sizes table.rx ≡ (rx.rxed_reliable_size + len, rx.rxed_reliable_consumed, rx.recv_buffer, rx.cells) =
      turns_same (can_advance N) (passed_over N) (λ (x : RxTable). sizes x.rx) (λ x. refl) N _ in
      passed-good (repeated_state s slot n) (repeated-good s good slot n passed.at) records passed.recorded table (past n rx.rx_oldest.0) (Some (msg, len)) received-passes
      stored-inside passed.fits (λ l. absurd (was-empty.1 l))
      (omega (arith, ap (λ t. t.0) same, was-empty.0)) (omega (arith, ap (λ t. t.0) same, (passed.new new).within))
      (omega (arith, ap (λ t. t.1) same, good.shaped.untold-u32)) (ap (λ t. t.2) same) (ap (λ t. t.3) same)
      (s.tx.txed_unconsumed - count_of msg) _ _ (omega arith)
