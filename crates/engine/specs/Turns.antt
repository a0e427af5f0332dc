-- "While a test holds, at most k times": the advance of the next expected number, the passing by of empty cells, and the taking of
-- all that waits are such. Assumes nothing.
use Rattle.std.specs.Prelude.{◌≡◌, ℕ, zero, suc, ◌-◌, ◌<◌, ◌≤◌, Bool, true, false, cond}
use Rattle.std.proofs.Math.Path.{refl, ap}
use Rattle.std.proofs.Common.{◌∙◌, not-suc-le-zero}
use native.Mathlib.Omega.{arith}
use borrow.Table.Steps.{cases}

unfoldable pub turns : {A : Type 0} → (A → Bool) → (A → A) → ℕ → A → A
turns test step zero x = x
turns test step (suc k) x = cond (test x) (turns test step k (step x)) x

-- ---- laws

module _ {A : Type 0} (test : A → Bool) (step : A → A) where
  -- of a loop that has k turns left to come to y: a turn, the test's failing, and no turn left
  module _ (k : ℕ) (x y : A) (comes : turns test step k x ≡ y) where
    pub turn_on : 0 < k → test x ≡ true → turns test step (k - 1) (step x) ≡ y
    unfolding turns
    turn_on h t = by k h comes
      where
        by : (n : ℕ) → 0 < n → turns test step n x ≡ y → turns test step (n - 1) (step x) ≡ y
        by zero h e = absurd (not-suc-le-zero h)
        by (suc n) h e = let m : suc n - 1 ≡ n = omega arith in ap (λ i. turns test step i (step x)) m ∙ (simp t at e)

    pub turn-off : test x ≡ false → x ≡ y
    unfolding turns
    turn-off t = by k comes
      where
        by : (n : ℕ) → turns test step n x ≡ y → x ≡ y
        by zero e = e
        by (suc n) e = simp t at e

    pub turn-out : k ≤ 0 → x ≡ y
    unfolding turns
    turn-out h = by k h comes
      where
        by : (n : ℕ) → n ≤ 0 → turns test step n x ≡ y → x ≡ y
        by zero h e = e
        by (suc n) h e = absurd (not-suc-le-zero h)

  -- what each turn keeps, with one turn less to go, and what is so where none is left or the test fails, is so in the end
  pub turns-keep : (P : ℕ → A → Type 0) (Q : A → Type 0) → ((k : ℕ) (x : A) → P (suc k) x → test x ≡ true → P k (step x))
      → ((k : ℕ) (x : A) → P k x → test x ≡ false → Q x) → ((x : A) → P 0 x → Q x) → (k : ℕ) (x : A) → P k x → Q (turns test step k x)
  unfolding turns
  turns-keep P Q go stop none zero x h = none x h
  turns-keep P Q go stop none (suc k) x h =
      cases (test x)
      (λ t. simp t (turns-keep P Q go stop none k (step x) (go k x h t)))
      (λ t. simp t (stop (suc k) x h t))

  -- what no turn changes
  pub turns_same : {B : Type 0} (f : A → B) → ((x : A) → f (step x) ≡ f x) → (k : ℕ) (x : A) → f (turns test step k x) ≡ f x
  unfolding turns
  turns_same f same zero x = refl
  turns_same f same (suc k) x = cases (test x) (λ t. simp t (turns_same f same k (step x) ∙ same x)) (λ t. simp t)
