-- Document 02 [5]: "22 Far, for receive and ack, checked after 7 and before 11". It is given exactly where what is checked before it passes and the
-- number is far. Assumes nothing.
use Rattle.std.specs.Prelude.{◌≡◌, refl, ◌≢◌, Bool, true, false, ◌||◌, List, [], ℕ, ltb, length, Ok, Err}
use Rattle.std.proofs.Common.{arith}
use Rattle.std.proofs.Math.Dec.{leb}
use Rattle.seq.specs.Numbers.{USABLE_INTERVAL}
use Rattle.seq.specs.Distance.{near, past}
use Rattle.msg.specs.declared.reliable.ReliableMsg.{ReliableMsg}
use Rattle.refusal.specs.declared.Refusal.{Refusal}
use Rattle.refusal.specs.Refusals.{number_of, refuse}
use Rattle.refusal.specs.Answers.{told_by}
use Rattle.refusal.specs.Verdicts.{Verdict, gate_by}
use Rattle.link.specs.Sizes.{ACKS}
use Rattle.engine.specs.declared.state.State.{State}
use Rattle.engine.specs.Decide.{soundb, sound_withb}
use Rattle.engine.specs.Rows.{row_of, slot_ok, time_ok}
use Rattle.engine.specs.Tally.{length_ok}
use Rattle.engine.specs.Cells.{near_oldest, is_repeat}
use Rattle.engine.specs.Totals.{fits}
use Rattle.engine.specs.Gates.{timed_verdict}
use Rattle.engine.specs.Received.{table_of}
use Rattle.engine.specs.Receiving.{consumed_ok, lengths_ok, message_verdict, receive_verdict}
use Rattle.engine.specs.Acking.{ack_verdict}

-- ---- what is so where a verdict says 22

record Says22 (v : Verdict) : Type 0 where
  number : (told_by v []).number ≡ 22

-- another gate is passed
passed-by : (ok : Bool) (e : Refusal) (rest : Verdict) → number_of e ≢ 22 → Says22 (gate_by ok e rest) → (ok ≡ true) × Says22 rest
passed-by true e rest other h = (refl, h)
passed-by false e rest other h = absurd (other h.number)

-- its own is shut, where no later one says 22
shut : (ok : Bool) (e : Refusal) (rest : Verdict) → (Says22 rest → ⊥) → Says22 (gate_by ok e rest) → ok ≡ false
shut true e rest none h = absurd (none h)
shut false e rest none h = refl

passes : Says22 (Ok tt) → ⊥
passes h = omega (arith, h.number)

-- ---- receive

module _ (s : State) (store : ℕ) (records : List ℕ) (slot : ℕ) (msg : ReliableMsg) (n len : ℕ) where
  -- "checked after 7": 2, 1, 4 and 7 don't apply
  pub record FarReceived : Type 0 where
    pub lent : lengths_ok s.rx store (length records) ≡ true
    pub sound : sound_withb s records ≡ true
    pub linked : slot_ok s slot ≡ true
    pub within : length_ok msg len ≡ true
    pub far : near n s.rx.rx_seq.0 ≡ false

  pub receive-far : FarReceived → receive_verdict s store records slot msg n len ≡ Err (refuse 22 tt)
  unfolding receive_verdict message_verdict
  receive-far h = simp (h.lent, h.sound, h.linked, h.within, h.far)

  pub receive-only-far : (told_by (receive_verdict s store records slot msg n len) []).number ≡ 22 → FarReceived
  unfolding receive_verdict message_verdict
  receive-only-far e =
      let again = is_repeat s.rx.cells (table_of s.rx records) n in
      let e2 = passed-by (lengths_ok s.rx store (length records)) (refuse 2 tt) _ (λ z. omega (arith, z)) (record { number = e }) in
      let e1 = passed-by (sound_withb s records) (refuse 1 tt) _ (λ z. omega (arith, z)) e2.1 in
      let e4 = passed-by (slot_ok s slot) (refuse 4 tt) _ (λ z. omega (arith, z)) e1.1 in
      let e7 = passed-by (length_ok msg len) (refuse 7 tt) _ (λ z. omega (arith, z)) e4.1 in
      record {
        lent = e2.0;
        sound = e1.0;
        linked = e4.0;
        within = e7.0;
        far = shut (near n s.rx.rx_seq.0) (refuse 22 tt) _ (λ h.
            let e11 = passed-by (again || leb (past n s.rx.rx_seq.0) USABLE_INTERVAL) (refuse 11 tt) _ (λ z. omega (arith, z)) h in
            let e12 = passed-by (again || near_oldest s.rx.cells s.rx n) (refuse 12 tt) _ (λ z. omega (arith, z)) e11.1 in
            let e13 = passed-by (ltb (row_of s slot).ack_count ACKS) (refuse 13 tt) _ (λ z. omega (arith, z)) e12.1 in
            let e14 = passed-by (again || fits s.rx.rxed_reliable_size len s.rx.recv_buffer) (refuse 14 tt) _ (λ z. omega (arith, z)) e13.1 in
            let e15 = passed-by (again || consumed_ok msg s.tx.txed_unconsumed) (refuse 15 tt) (Ok tt) (λ z. omega (arith, z)) e14.1 in
            passes e15.1) e7.1;
      }

-- ---- ack

module _ (s : State) (slot time n : ℕ) where
  pub record FarAcked : Type 0 where
    pub sound : soundb s ≡ true
    pub timed : time_ok s time ≡ true
    pub linked : slot_ok s slot ≡ true
    pub far : near n s.tx.tx_seq.0 ≡ false

  pub ack-far : FarAcked → ack_verdict s slot time n ≡ Err (refuse 22 tt)
  unfolding ack_verdict timed_verdict
  ack-far h = simp (h.sound, h.timed, h.linked, h.far)

  pub ack-only-far : (told_by (ack_verdict s slot time n) []).number ≡ 22 → FarAcked
  unfolding ack_verdict timed_verdict
  ack-only-far e =
      let e1 = passed-by (soundb s) (refuse 1 tt) _ (λ z. omega (arith, z)) (record { number = e }) in
      let e3 = passed-by (time_ok s time) (refuse 3 tt) _ (λ z. omega (arith, z)) e1.1 in
      let e4 = passed-by (slot_ok s slot) (refuse 4 tt) _ (λ z. omega (arith, z)) e3.1 in
      record { sound = e1.0; timed = e3.0; linked = e4.0; far = shut (near n s.tx.tx_seq.0) (refuse 22 tt) (Ok tt) passes e4.1 }
