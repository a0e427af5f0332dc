-- Tests as Bools: what they say one by one and joined. Assumes nothing.
use Rattle.std.specs.Prelude.{◌≡◌, refl, Bool, true, false, ◌&&◌, ℕ}
use Rattle.std.proofs.Common.{sym, ap, ◌∙◌, arith}

pub false-true : {X : Type 0} → false ≡ true → X
false-true {X} e = let z : ◌≡◌ {A = ℕ} 0 1 = cc in absurd (omega arith)

-- tests joined by `&&`, taken apart and put together
pub split : (a b : Bool) → (a && b) ≡ true → (a ≡ true) × (b ≡ true)
split true b e = (refl, e)
split false b e = false-true e

pub join : {a b : Bool} → a ≡ true → b ≡ true → (a && b) ≡ true
join {a} {b} p q = simp (p, q)

pub and-eq : {a b c d : Bool} → a ≡ b → c ≡ d → (a && c) ≡ (b && d)
and-eq {a} {b} {c} {d} p q = ap (λ x. x && c) p ∙ ap (λ x. b && x) q

pub and-true-first : {a b : Bool} → a ≡ true → (a && b) ≡ b
and-true-first {a} {b} p = simp p

-- two tests that hold together are one
pub same_test : (a b : Bool) → (a ≡ true → b ≡ true) → (b ≡ true → a ≡ true) → a ≡ b
same_test true b f g = sym (f refl)
same_test false true f g = false-true (g refl)
same_test false false f g = refl
