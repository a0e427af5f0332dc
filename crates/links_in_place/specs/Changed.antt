-- What a call leaves that changes a state where its verdict lets it. Assumes nothing.
use Rattle.std.specs.Prelude.{◌≡◌, ◌≢◌, refl, List, ℕ, Ok, Err}
use Rattle.std.proofs.Common.{ap}
use Rattle.refusal.specs.Verdicts.{Verdict}
use Rattle.engine.specs.declared.state.State.{State}
use Rattle.engine.specs.Answer.{changed_by, outcome_told}
use Rattle.words.specs.Meaning.{state_of}
use Rattle.words.specs.Ready.{Left}

pub record Done (v result : Verdict) (next : State) (old new : List ℕ) : Type 0 where
  pub value : result ≡ (changed_by v (state_of old) next).outcome
  pub words_after : state_of new ≡ (changed_by v (state_of old) next).state
  pub left : Left (outcome_told result).number old new

pub done : (v result : Verdict) (next : State) (old new : List ℕ) → result ≡ v → (v ≡ Ok tt → state_of new ≡ next) → (v ≢ Ok tt → new ≡ old) → Done v result next old new
done (Ok tt) result next old new e there same = record { value = e; words_after = there refl; left = λ ne. absurd (ne (ap (λ r. (outcome_told r).number) e)) }
done (Err r) result next old new e there same =
    let kept : new ≡ old = same (λ k. cc) in
    record { value = e; words_after = ap state_of kept; left = λ ne. kept }
