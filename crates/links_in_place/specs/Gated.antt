-- What a call is refused by where the words are those of a sound state: its tests, and never 1. Assumes nothing.
use Rattle.std.specs.Prelude.{◌≡◌, refl, Bool, true, false, ℕ, ◌<◌, Ok, Err}
use Rattle.std.proofs.Common.{arith}
use Rattle.refusal.specs.declared.Refusal.{Refusal}
use Rattle.refusal.specs.Verdicts.{Verdict, gate_by, gate-pass}
use Rattle.refusal.specs.declared.Refusal.TheVariants.{Time, Slot}
use Rattle.engine.specs.declared.state.State.{State}
use Rattle.engine.specs.Decide.{soundb}
use Rattle.engine.specs.Gates.{slot_verdict, timed_verdict, slot-ok}
use Rattle.engine.specs.Rows.{slot_ok, time_ok}
use Rattle.engine.specs.Sizes.{SLOTS}

-- a gate that is shut refuses by its own refusal
pub gate-stop : (ok : Bool) (e x : Refusal) → gate_by ok e (Ok tt) ≡ Err x → (ok ≡ false) × (x ≡ e)
gate-stop true e x h = let z : ◌≡◌ {A = ℕ} 0 1 = cc in absurd (omega arith)
gate-stop false e x h = let same : ◌≡◌ {A = Verdict} (Err e) (Err x) = h in (refl, cc)

module _ (s : State) (judged : soundb s ≡ true) (slot : ℕ) where
  pub slot_small : slot_ok s slot ≡ true → slot < SLOTS
  slot_small e = (slot-ok s slot judged e).small

  pub slot-here : slot_ok s slot ≡ true → slot_verdict s slot ≡ Ok tt
  unfolding slot_verdict
  slot-here e = simp (judged, e)

  pub slot-not : slot_ok s slot ≡ false → slot_verdict s slot ≡ Err Slot
  unfolding slot_verdict
  slot-not e = simp (judged, e)

  module _ (time : ℕ) (rest : Verdict) where
    pub timed-here : time_ok s time ≡ true → slot_ok s slot ≡ true → timed_verdict s slot time rest ≡ rest
    unfolding timed_verdict
    timed-here t e = simp (judged, t, e)

    pub timed-no-slot : time_ok s time ≡ true → slot_ok s slot ≡ false → timed_verdict s slot time rest ≡ Err Slot
    unfolding timed_verdict
    timed-no-slot t e = simp (judged, t, e)

    pub timed-no-time : time_ok s time ≡ false → timed_verdict s slot time rest ≡ Err Time
    unfolding timed_verdict
    timed-no-time t = simp (judged, t)

-- a call that passed was given a slot
module _ (s : State) (slot : ℕ) where
  pub passed-small : slot_verdict s slot ≡ Ok tt → slot < SLOTS
  unfolding slot_verdict
  passed-small e = let judged = gate-pass (soundb s) _ _ e in slot_small s judged.0 slot (gate-pass (slot_ok s slot) _ _ judged.1).0

  pub timed-small : (time : ℕ) → timed_verdict s slot time (Ok tt) ≡ Ok tt → slot < SLOTS
  unfolding timed_verdict
  timed-small time e =
      let judged = gate-pass (soundb s) _ _ e in
      let timed = gate-pass (time_ok s time) _ _ judged.1 in
      slot_small s judged.0 slot (gate-pass (slot_ok s slot) _ _ timed.1).0
