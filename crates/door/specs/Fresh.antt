-- The refusals of a fresh state that is written into lent words: those of the engine's own call, and 2 for words that are not as many as a state's. Assumes nothing.
use Rattle.std.proofs.Math.Path.{◌≡◌}
use Rattle.std.specs.Prelude.{Bool, ◌&&◌, ℕ, ◌*◌, eqb, leb, Ok, Err}
use Rattle.std.proofs.Common.{arith}
use borrow.Table.Steps.{cases}
use Rattle.refusal.specs.declared.Refusal.{Refusal}
use Rattle.refusal.specs.Verdicts.{Verdict, gate, gate-pass}
use Rattle.engine.specs.declared.state.State.{State}
use Rattle.engine.specs.CellCount.{is_cell_count}
use Rattle.engine.specs.Starting.{fresh_verdict}
use Rattle.engine.specs.Sizes.{DATA_BYTES}
use Rattle.words.specs.Layout.{WORDS}

unfoldable pub fresh_gate : (buffer cells records words : ℕ) → Verdict
fresh_gate buffer n records words =
    gate (is_cell_count n && (leb 1 buffer && leb buffer (n * DATA_BYTES))) 21
    (gate (eqb records n) 2
    (gate (eqb words WORDS) 2
    (Ok tt)))

-- a refusal leaves the state as it came
abbrev pub state_by : Verdict → State → State → State
state_by (Ok tt) old new = new
state_by (Err e) old new = old

-- ---- laws

module _ (buffer n records words : ℕ) where
  unfoldable set : Bool
  set = is_cell_count n && (leb 1 buffer && leb buffer (n * DATA_BYTES))

  -- where the engine's own call passes, the words are asked
  pub gate-passed : fresh_verdict buffer n records ≡ Ok tt → fresh_gate buffer n records words ≡ gate (eqb words WORDS) 2 (Ok tt)
  unfolding fresh_verdict fresh_gate set
  gate-passed e =
      let a = gate-pass set _ _ e in
      let b = gate-pass (eqb records n) _ _ a.1 in
      simp (a.0, b.0)

  -- .. and where it refuses, so is this
  pub gate-refused : (r : Refusal) → fresh_verdict buffer n records ≡ Err r → fresh_gate buffer n records words ≡ Err r
  unfolding fresh_verdict fresh_gate set
  gate-refused r e =
      cases set
      (λ t. cases (eqb records n) (λ u. let z : ◌≡◌ {A = ℕ} 0 1 = let w : (Ok tt) ≡ Err r = simp (t, u) at e in cc in absurd (omega arith)) (λ u. simp (t, u) (simp (t, u) at e)))
      (λ t. simp t (simp t at e))
