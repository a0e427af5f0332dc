-- A call's own gates behind those of its slot and time. Assumes nothing.
use Rattle.std.specs.Prelude.{◌≡◌, ℕ, true, Ok, Err}
use borrow.Table.Steps.{cases}
use Rattle.refusal.specs.Verdicts.{Verdict, gate-pass}
use Rattle.refusal.specs.declared.Refusal.{Refusal}
use Rattle.engine.specs.declared.state.State.{State}
use Rattle.engine.specs.Decide.{soundb}
use Rattle.engine.specs.Gates.{timed_verdict}
use Rattle.engine.specs.Rows.{slot_ok, time_ok}

module _ (s : State) (slot time : ℕ) (rest : Verdict) where
  pub timed-pass : timed_verdict s slot time (Ok tt) ≡ Ok tt → timed_verdict s slot time rest ≡ rest
  unfolding timed_verdict
  timed-pass e =
      let a = gate-pass (soundb s) _ _ e in
      let b = gate-pass (time_ok s time) _ _ a.1 in
      let d = gate-pass (slot_ok s slot) _ _ b.1 in
      simp (a.0, b.0, d.0)

  pub timed-stop : (x : Refusal) → soundb s ≡ true → timed_verdict s slot time (Ok tt) ≡ Err x → timed_verdict s slot time rest ≡ Err x
  unfolding timed_verdict
  timed-stop x judged e = cases (time_ok s time)
      (λ t. cases (slot_ok s slot)
      (λ u. let h : ◌≡◌ {A = Verdict} (Ok tt) (Err x) = simp (judged, t, u) at e in cc)
      (λ u. let h = simp (judged, t, u) at e in simp (judged, t, u) h))
      (λ t. let h = simp (judged, t) at e in simp (judged, t) h)
