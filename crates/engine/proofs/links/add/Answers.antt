-- A refusal is that of the verdict.
use Rattle.std.proofs.Common.{◌≡◌, ℕ, sym, ◌∙◌, arith, Ok, Err, Result}
use Rattle.refusal.specs.declared.Refusal.{Refusal}
use Rattle.refusal.specs.Verdicts.{Verdict}
use Rattle.engine.specs.Links.{slot_by, add_of}
use Rattle.engine.proofs.links.add.Goals as goal

refused-by : (v : Verdict) (slot : ℕ) (e : Refusal) → ◌≡◌ {A = Result ℕ Refusal} (Err e) (slot_by v slot) → ◌≡◌ {A = Verdict} v (Err e)
refused-by (Ok tt) slot e h = let z : ◌≡◌ {A = ℕ} 0 1 = cc in absurd (omega arith)
refused-by (Err f) slot e h = cc

pub returns-in-Err : goal.returns-in-Err
unfolding add_of
returns-in-Err c =
    let no = refused-by _ _ _ (sym c.in-Err.is ∙ c.slot_for-answer.ensures) in
    record { value = simp (no, c.in-Err.is); answer_value = simp (no, c.in-Err.is) }
