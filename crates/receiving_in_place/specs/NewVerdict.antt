-- What receive asks of a new number and of one that was received already: "11, 12, 14 and 15 are for new numbers" of `messageVerdict`, in two cases. Assumes nothing.
use Rattle.std.specs.Prelude.{◌≡◌, refl, Bool, true, false, List, ℕ, leb, ltb, Ok, Err}
use Rattle.std.proofs.Common.{arith}
use Rattle.refusal.specs.declared.Refusal.{Refusal}
use Rattle.seq.specs.Distance.{near, past}
use Rattle.seq.specs.Numbers.{USABLE_INTERVAL}
use Rattle.msg.specs.declared.reliable.ReliableMsg.{ReliableMsg}
use Rattle.refusal.specs.Verdicts.{Verdict, gate, gate_by}
use Rattle.link.specs.Sizes.{ACKS}
use Rattle.engine.specs.declared.state.State.{State}
use Rattle.engine.specs.Cells.{is_repeat, near_oldest}
use Rattle.engine.specs.Received.{table_of}
use Rattle.engine.specs.Receiving.{consumed_ok, message_verdict}
use Rattle.engine.specs.Rows.{row_of, slot_ok}
use Rattle.engine.specs.Tally.{length_ok}
use Rattle.engine.specs.Totals.{fits}

unfoldable pub new_verdict : State → ℕ → ReliableMsg → ℕ → ℕ → Verdict
new_verdict s slot msg n len =
    gate (leb (past n s.rx.rx_seq.0) USABLE_INTERVAL) 11
    (gate (near_oldest s.rx.cells s.rx n) 12
    (gate (ltb (row_of s slot).ack_count ACKS) 13
    (gate (fits s.rx.rxed_reliable_size len s.rx.recv_buffer) 14
    (gate (consumed_ok msg s.tx.txed_unconsumed) 15
    (Ok tt)))))

module _ (s : State) (records : List ℕ) (slot : ℕ) (msg : ReliableMsg) (n len : ℕ) (e4 : slot_ok s slot ≡ true) (e7 : length_ok msg len ≡ true) (e22 : near n s.rx.rx_seq.0 ≡ true) where
  pub repeat-verdict : is_repeat s.rx.cells (table_of s.rx records) n ≡ true → message_verdict s records slot msg n len ≡ gate (ltb (row_of s slot).ack_count ACKS) 13 (Ok tt)
  unfolding message_verdict
  repeat-verdict again = simp (e4, e7, e22, again)

  pub new-verdict : is_repeat s.rx.cells (table_of s.rx records) n ≡ false → message_verdict s records slot msg n len ≡ new_verdict s slot msg n len
  unfolding message_verdict new_verdict
  new-verdict again = simp (e4, e7, e22, again)

-- a gate that is shut refuses by its own refusal
pub gate-stop : (ok : Bool) (e x : Refusal) → gate_by ok e (Ok tt) ≡ Err x → (ok ≡ false) × (x ≡ e)
gate-stop true e x h = let z : ◌≡◌ {A = ℕ} 0 1 = cc in absurd (omega arith)
gate-stop false e x h = let same : ◌≡◌ {A = Verdict} (Err e) (Err x) = h in (refl, cc)
