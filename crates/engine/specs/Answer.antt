-- What a call answers: the paper's number, 0 for success, and the next state. "Each returns its number alone; state and lent
-- bytes stay as they came. 0 is success." Assumes nothing.
use Rattle.std.specs.Prelude.{◌≡◌, ℕ, [], refl, Ok, Err, Result}
use Rattle.refusal.specs.declared.Refusal.{Refusal}
use Rattle.refusal.specs.Verdicts.{Verdict}
use Rattle.std.proofs.Common.{ap, ◌∙◌, arith}
use Rattle.refusal.specs.Answers.{Told, success, refused, told_by}
use Rattle.engine.specs.declared.answer.Changed.{Changed}
use Rattle.engine.specs.declared.state.State.{State}

-- the paper's number of an outcome; there are no values
abbrev pub outcome_told : Result Unit Refusal → Told
outcome_told (Ok tt) = success []
outcome_told (Err e) = refused e

abbrev pub changed_by : Verdict → State → State → Changed
changed_by (Ok tt) s next = record { outcome = (Ok tt); state = next }
changed_by (Err e) s next = record { outcome = Err e; state = s }

-- ---- laws

pub changed-told : (v : Verdict) (s next : State) → outcome_told (changed_by v s next).outcome ≡ told_by v []
changed-told (Ok tt) s next = refl
changed-told (Err e) s next = refl

-- an answer by a verdict that is another
pub told-of : {r : Changed} (v w : Verdict) (s next : State) → r ≡ changed_by v s next → v ≡ w → outcome_told r.outcome ≡ told_by w []
told-of v w s next e same = ap (λ (x : Changed). outcome_told x.outcome) e ∙ changed-told v s next ∙ ap (λ x. told_by x []) same

-- a refusal isn't Done
pub done-passed : (v : Verdict) (s next : State) → (changed_by v s next).outcome ≡ Ok tt → v ≡ Ok tt
done-passed (Ok tt) s next e = refl
done-passed (Err r) s next e = let z : ◌≡◌ {A = ℕ} 0 1 = cc in absurd (omega arith)

-- a refused call leaves the state as it came, so only an accepted one has something to keep
pub changed-keeps : (P : State → Type 0) (v : Verdict) (s next : State) → P s → (v ≡ Ok tt → P next) → P (changed_by v s next).state
changed-keeps P (Ok tt) s next old new = new refl
changed-keeps P (Err e) s next old new = old
