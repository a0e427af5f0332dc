-- Document 01, "Refusal numbers": "A number applies only in these calls: 1, those given a state; .. 3, those given a time ..; 4,
-- those given a slot". Assumes nothing.
use Rattle.std.specs.Prelude.{◌≡◌, ℕ, ◌<◌, ◌≤◌, true, nat_le, nat_lt, Ok}
use borrow.Author.Tests.{leb-true, ltb-true}
use Rattle.refusal.specs.Tests.{split}
use Rattle.link.specs.Sizes.{MAX_TIME}
use Rattle.refusal.specs.Verdicts.{Verdict, gate, gate-pass}
use Rattle.engine.specs.declared.state.State.{State}
use Rattle.engine.specs.Decide.{soundb, sound}
use Rattle.engine.specs.Sound.{Sound, row_at}
use Rattle.engine.specs.Rows.{slot_ok, time_ok}
use Rattle.engine.specs.Sizes.{SLOTS}

-- a call given a state alone
abbrev pub state_verdict : State → Verdict
state_verdict s = gate (soundb s) 1 (Ok tt)

-- a call given a state and a slot
unfoldable pub slot_verdict : State → ℕ → Verdict
slot_verdict s slot = gate (soundb s) 1 (gate (slot_ok s slot) 4 (Ok tt))

-- a call given a state, a slot and a time, with what its own gates say
unfoldable pub timed_verdict : State → ℕ → ℕ → Verdict → Verdict
timed_verdict s slot time rest = gate (soundb s) 1 (gate (time_ok s time) 3 (gate (slot_ok s slot) 4 rest))

-- ---- laws

-- what is so where a call that is given a slot passes, and one that is given a time too
pub record AtSlot (s : State) (slot : ℕ) : Type 0 where
  pub fine : Sound s
  pub small : slot < SLOTS
  pub live : (row_at s slot).live ≡ true

pub record AtTime (s : State) (slot time : ℕ) : Type 0 where
  pub at : AtSlot s slot
  pub later : s.time ≤ time
  pub top : time ≤ MAX_TIME

module _ (s : State) (slot : ℕ) where
  pub slot-ok : soundb s ≡ true → slot_ok s slot ≡ true → AtSlot s slot
  unfolding slot_ok
  slot-ok t e = let b = split (nat_lt slot SLOTS) (row_at s slot).live e in record { fine = sound s t; small = ltb-true slot SLOTS b.0; live = b.1 }

  pub time-ok : (time : ℕ) → soundb s ≡ true → time_ok s time ≡ true → slot_ok s slot ≡ true → AtTime s slot time
  unfolding time_ok
  time-ok time t e here =
      let b = split (nat_le s.time time) (nat_le time MAX_TIME) e in
      record { at = slot-ok t here; later = leb-true s.time time b.0; top = leb-true time MAX_TIME b.1 }

  pub slot-passed : slot_verdict s slot ≡ Ok tt → AtSlot s slot
  unfolding slot_verdict
  slot-passed e =
      let e1 = gate-pass (soundb s) _ _ e in
      let e4 = gate-pass (slot_ok s slot) _ _ e1.1 in
      slot-ok e1.0 e4.0

  pub timed-passed : (time : ℕ) (rest : Verdict) → timed_verdict s slot time rest ≡ Ok tt → AtTime s slot time × (rest ≡ Ok tt)
  unfolding timed_verdict
  timed-passed time rest e =
      let e1 = gate-pass (soundb s) _ _ e in
      let e3 = gate-pass (time_ok s time) _ _ e1.1 in
      let e4 = gate-pass (slot_ok s slot) _ _ e3.1 in
      (time-ok time e1.0 e3.0 e4.0, e4.1)
