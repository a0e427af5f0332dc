-- Document 01, "Refusal numbers": "The smallest that applies is returned, and none otherwise." A verdict is a row of gates in
-- the order of their numbers, but for 22, "checked after 7 and before 11; this amends the smallest-number rule" (document 02 [5]): the first
-- that is shut says its number. Assumes nothing.
use Rattle.std.specs.Prelude.{◌≡◌, refl, Bool, true, false, ℕ, Result, Ok, Err}
use Rattle.std.proofs.Common.{arith}
use Rattle.refusal.specs.declared.Refusal.{Refusal}
use Rattle.refusal.specs.Refusals.{Named, Is, Unnamed, named}

-- what the refusals of a call come to: it may pass, or which of them applies
abbrev pub Verdict : Type 0
Verdict = Result Unit Refusal

abbrev pub gate_by : Bool → Refusal → Verdict → Verdict
gate_by true e rest = rest
gate_by false e rest = Err e

-- refusal n unless ok; a number that is not in the table refuses nothing
abbrev pub gate_named : Named → Bool → Verdict → Verdict
gate_named (Is e) ok rest = gate_by ok e rest
gate_named Unnamed ok rest = rest

abbrev pub gate : Bool → ℕ → Verdict → Verdict
gate ok n rest = gate_named (named n) ok rest

-- ---- laws

-- who passed, passed every gate
pub gate-pass : (ok : Bool) (e : Refusal) (rest : Verdict) → gate_by ok e rest ≡ Ok tt → (ok ≡ true) × (rest ≡ Ok tt)
gate-pass true e rest h = (refl, h)
gate-pass false e rest h = let z : ◌≡◌ {A = ℕ} 0 1 = cc in absurd (omega arith)
