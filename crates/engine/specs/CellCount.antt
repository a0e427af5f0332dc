-- Document 02, [8]: "Let the received store hold 64 cells times a power of two, up to 65,536 cells". Assumes nothing.
use Rattle.std.specs.Prelude.{◌≡◌, ℕ, zero, suc, ◌+◌, ◌-◌, ◌*◌, ◌^◌, ◌<◌, ◌≤◌, Bool, true, false, ◌||◌, ◌==◌, refl}
use Rattle.std.proofs.Common.{sym, ap, subst, ◌∙◌, add-suc, add-zero, mul-one, mul_assoc, pow-suc, arith, eqb-true}
use Rattle.std.specs.Int.{◌∣◌}
use Rattle.std.proofs.Math.Nat.{dvd-mul_right, pow-le-pow_right, one-le-pow}

-- one of these eleven counts: `counted` and `is-counted` say that they are 64 times a power of two, up to 65,536
unfoldable pub is_cell_count : ℕ → Bool
is_cell_count n =
    (n == 64) || (n == 128 || (n == 256 || (n == 512 || (n == 1024 || (n == 2048 || (n == 4096 || (n == 8192 || (n == 16384 || (n == 32768 || n == 65536)))))))))

-- what the facts of the table ask of the count
pub record CellCount (N : ℕ) : Type 0 where
  pub some : 0 < N
  pub few : N ≤ 65536
  pub round : N ∣ 2 ^ 32

-- ---- laws

pow-plus : (a d : ℕ) → 2 ^ (a + d) ≡ 2 ^ a * 2 ^ d
pow-plus a zero = ap (λ x. 2 ^ x) (add-zero a) ∙ sym (mul-one (2 ^ a))
pow-plus a (suc d) = ap (λ x. 2 ^ x) (add-suc a d) ∙ pow-suc 2 (a + d) ∙ ap (λ x. x * 2) (pow-plus a d) ∙ mul_assoc (2 ^ a) (2 ^ d) 2 ∙ ap (λ x. 2 ^ a * x) (sym (pow-suc 2 d))

-- each such count is one
pub power_count : (k : ℕ) → k ≤ 10 → CellCount (64 * 2 ^ k)
power_count k h =
    let e : 6 + k + (26 - k) ≡ 32 = omega arith in
    let most : 2 ^ k ≤ 2 ^ 10 = pow-le-pow_right (omega arith) h in
    record {
      some = omega (arith, one-le-pow k 2 (omega arith));
      few = omega arith;
      round = subst (λ (n : ℕ). 64 * 2 ^ k ∣ 2 ^ n) e (rw (pow-plus (6 + k) (26 - k), pow-plus 6 k) (dvd-mul_right (64 * 2 ^ k) (2 ^ (26 - k))));
    }

-- either test
either_true : (a b : Bool) {A : Type 0} → (a || b) ≡ true → (a ≡ true → A) → (b ≡ true → A) → A
either_true true b e f g = f refl
either_true false b e f g = g e

abbrev Power : ℕ → Type 0
Power n = (k : ℕ) × (k ≤ 10) × (n ≡ 64 * 2 ^ k)

power-of : (n k m : ℕ) → m ≡ 64 * 2 ^ k → k ≤ 10 → (n == m) ≡ true → Power n
power-of n k m e h t = (k, h, eqb-true n m t ∙ e)

-- the test says so ..
pub counted : (n : ℕ) → is_cell_count n ≡ true → (k : ℕ) × (k ≤ 10) × (n ≡ 64 * 2 ^ k)
unfolding is_cell_count
counted n t =
    either_true (n == 64) _ t (power-of n 0 64 refl (omega arith))
    (λ t. either_true (n == 128) _ t (power-of n 1 128 refl (omega arith))
    (λ t. either_true (n == 256) _ t (power-of n 2 256 refl (omega arith))
    (λ t. either_true (n == 512) _ t (power-of n 3 512 refl (omega arith))
    (λ t. either_true (n == 1024) _ t (power-of n 4 1024 refl (omega arith))
    (λ t. either_true (n == 2048) _ t (power-of n 5 2048 refl (omega arith))
    (λ t. either_true (n == 4096) _ t (power-of n 6 4096 refl (omega arith))
    (λ t. either_true (n == 8192) _ t (power-of n 7 8192 refl (omega arith))
    (λ t. either_true (n == 16384) _ t (power-of n 8 16384 refl (omega arith))
    (λ t. either_true (n == 32768) (n == 65536) t (power-of n 9 32768 refl (omega arith)) (power-of n 10 65536 refl (omega arith)))))))))))

-- .. and of every such count
pub is-counted : (k : ℕ) → k ≤ 10 → is_cell_count (64 * 2 ^ k) ≡ true
unfolding is_cell_count
is-counted zero h = refl
is-counted (suc zero) h = refl
is-counted (suc (suc zero)) h = refl
is-counted (suc (suc (suc zero))) h = refl
is-counted (suc (suc (suc (suc zero)))) h = refl
is-counted (suc (suc (suc (suc (suc zero))))) h = refl
is-counted (suc (suc (suc (suc (suc (suc zero)))))) h = refl
is-counted (suc (suc (suc (suc (suc (suc (suc zero))))))) h = refl
is-counted (suc (suc (suc (suc (suc (suc (suc (suc zero)))))))) h = refl
is-counted (suc (suc (suc (suc (suc (suc (suc (suc (suc zero))))))))) h = refl
is-counted (suc (suc (suc (suc (suc (suc (suc (suc (suc (suc zero)))))))))) h = refl
is-counted (suc (suc (suc (suc (suc (suc (suc (suc (suc (suc (suc k))))))))))) h = absurd (omega arith)

pub cell-count : (n : ℕ) → is_cell_count n ≡ true → CellCount n
cell-count n t = let p = counted n t in subst CellCount (sym p.2) (power_count p.0 p.1)
