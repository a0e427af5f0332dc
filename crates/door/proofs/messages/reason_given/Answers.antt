-- The number picks its row of the table; past the rows it names none.
-- a number that is none of the four names none
use Rattle.std.specs.Prelude.{None}
use mathlib.Core.Path.{◌≡◌, refl, ◌∙◌}
use Prim.Native.Nat.{ℕ, zero, suc}
use Rattle.door.specs.Messages.{reason_given}
use Rattle.door.proofs.messages.reason_given.Goals as goal

other : (n : ℕ) → (n ≡ 1 → ⊥) → (n ≡ 2 → ⊥) → (n ≡ 3 → ⊥) → (n ≡ 4 → ⊥) → None ≡ reason_given n
unfolding reason_given
other zero a b c d = refl
other (suc zero) a b c d = absurd (a refl)
other (suc (suc zero)) a b c d = absurd (b refl)
other (suc (suc (suc zero))) a b c d = absurd (c refl)
other (suc (suc (suc (suc zero)))) a b c d = absurd (d refl)
other (suc (suc (suc (suc (suc n))))) a b c d = refl

pub returns-in-1 : goal.returns-in-1
unfolding reason_given
returns-in-1 c = c.refused_for.ensures ∙ simp c.in-1.is

pub returns-in-2 : goal.returns-in-2
unfolding reason_given
returns-in-2 c = c.refused_for-in-2.ensures ∙ simp c.in-2.is

pub returns-in-3 : goal.returns-in-3
unfolding reason_given
returns-in-3 c = c.refused_for-in-3.ensures ∙ simp c.in-3.is

pub returns-in-4 : goal.returns-in-4
unfolding reason_given
returns-in-4 c = c.refused_for-in-4.ensures ∙ simp c.in-4.is

pub returns-in_default : goal.returns-in_default
returns-in_default c = let r = c.in_default.in_default-own.rest in other c.args.number r.0.0.0.1 r.0.0.1 r.0.1 r.1
