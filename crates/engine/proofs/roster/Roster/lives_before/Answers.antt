-- The definition looks at the last of the slots first.
use Rattle.std.proofs.Common.{◌≡◌, ℕ, zero, suc, ◌+◌, ◌-◌, Bool, true, false, cond, ◌||◌, refl, ap, ◌∙◌, arith, rules, tests}
use Rattle.std.specs.List.{list_any, range_with_len}
use Rattle.std.proofs.lemmas.Iterator.{YieldsList-from_range}
use Rattle.std.proofs.lemmas.Iterator.Search.{any_from_yields_List}
use Rattle.engine.specs.declared.roster.Roster.{Roster}
use Rattle.engine.specs.Roster.{lives_in, lives_before}
use Rattle.engine.proofs.roster.Roster.lives_before.Goals as goal

last-first : (x y z : Bool) → (x || cond y true z) ≡ cond y true (x || z)
last-first true true z = refl
last-first true false z = refl
last-first false true z = refl
last-first false false z = refl

one : (x : Bool) → (x || false) ≡ cond x true false
one true = refl
one false = refl

-- one number more at the end of a range
any-more : (test : ℕ → Bool) (a n : ℕ) → list_any test (range_with_len a (suc n)) ≡ cond (test (a + n)) true (list_any test (range_with_len a n))
any-more test a zero = let e : a ≡ a + 0 = omega arith in one (test a) ∙ ap (λ k. cond (test k) true false) e
any-more test a (suc n) =
    let e : a + 1 + n ≡ a + suc n = omega arith in
    let rest = list_any test (range_with_len (a + 1) n) in
    ap (λ b. test a || b) (any-more test (a + 1) n ∙ ap (λ k. cond (test k) true rest) e) ∙ last-first (test a) (test (a + suc n)) rest

each : (r : Roster) (id n : ℕ) → list_any (λ j. lives_in r j id) (range_with_len 0 n) ≡ lives_before r n id
unfolding lives_before
each r id zero = refl
each r id (suc n) =
    let e : 0 + n ≡ n = omega arith in
    any-more (λ j. lives_in r j id) 0 n
    ∙ ap (λ k. cond (lives_in r k id) true (list_any (λ j. lives_in r j id) (range_with_len 0 n))) e
    ∙ ap (cond (lives_in r n id) true) (each r id n)

pub returns : goal.returns
returns c = let a = c.args in
    let all : a.n - 0 ≡ a.n = omega arith in
    any_from_yields_List (λ j. lives_in a.self j a.id) _ _ c.any.result c.any.ensures.ran (YieldsList-from_range 0 a.n a.n (cc) all) (λ x b q k. search (rules, tests))
    ∙ each a.self a.id a.n
