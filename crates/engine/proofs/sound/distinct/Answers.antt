-- The definition looks at the last of the slots first.
use Rattle.std.proofs.Common.{◌≡◌, ℕ, zero, suc, ◌+◌, Bool, true, false, cond, not, ◌&&◌, ◌||◌, get_or, refl, ap, ◌∙◌, arith, rules, tests}
use Rattle.std.specs.List.{list_all, range_with_len}
use Rattle.std.proofs.lemmas.Iterator.{YieldsList-from_range}
use Rattle.std.proofs.lemmas.Iterator.Search.{all_from_yields_List}
use Rattle.engine.specs.declared.roster.Roster.{Roster}
use Rattle.engine.specs.Roster.{lives_before}
use Rattle.engine.specs.Found.{distinct_below}
use Rattle.engine.proofs.sound.distinct.Goals as goal

-- no slot before this one has its identity
abbrev alone : Roster → ℕ → Bool
alone r j = not (get_or r.live j false) || not (lives_before r j (get_or r.ids j 0))

assoc : (x y z : Bool) → (x && (y && z)) ≡ ((x && y) && z)
assoc true y z = refl
assoc false y z = refl

one : (x : Bool) → (x && true) ≡ x
one true = refl
one false = refl

last-first : (x y d : Bool) → (d && (not x || not y)) ≡ cond (x && y) false d
last-first true true true = refl
last-first true true false = refl
last-first true false true = refl
last-first true false false = refl
last-first false y true = refl
last-first false y false = refl

-- one number more at the end of a range
all-more : (test : ℕ → Bool) (a n : ℕ) → list_all test (range_with_len a (suc n)) ≡ (list_all test (range_with_len a n) && test (a + n))
all-more test a zero = let e : a ≡ a + 0 = omega arith in one (test a) ∙ ap test e
all-more test a (suc n) =
    let e : a + 1 + n ≡ a + suc n = omega arith in
    let rest = list_all test (range_with_len (a + 1) n) in
    ap (λ b. test a && b) (all-more test (a + 1) n ∙ ap (λ k. rest && test k) e) ∙ assoc (test a) rest (test (a + suc n))

each : (r : Roster) (n : ℕ) → list_all (alone r) (range_with_len 0 n) ≡ distinct_below r n
unfolding distinct_below
each r zero = refl
each r (suc n) =
    let e : 0 + n ≡ n = omega arith in
    all-more (alone r) 0 n
    ∙ ap (λ k. list_all (alone r) (range_with_len 0 n) && alone r k) e
    ∙ ap (λ d. d && alone r n) (each r n)
    ∙ last-first (get_or r.live n false) (lives_before r n (get_or r.ids n 0)) (distinct_below r n)

pub returns : goal.returns
returns c =
    all_from_yields_List (alone c.args.roster) _ _ c.all.result c.all.ensures.ran (YieldsList-from_range 0 8 8 (cc) refl) (λ x b q k. search (rules, tests))
    ∙ each c.args.roster 8
