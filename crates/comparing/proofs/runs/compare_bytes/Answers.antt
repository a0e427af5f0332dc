-- The runs part at the first byte in which they differ, or at the end of the shorter.
use Rattle.std.specs.Prelude.{◌≡◌, refl, Bool, true, false, not, List, [], ◌∷◌, ℕ, zero, suc, ◌+◌, ◌≤◌, ◌<◌, min, eqb, length, get_or, drop, position, zip, Some, None, Option}
use Rattle.std.specs.List.{position_from}
use Rattle.std.proofs.Common.{sym, ◌∙◌, ap, arith, eqb-true, eq-eqb}
use Rattle.std.proofs.lemmas.Iterator.Adapters.{position_from-zero}
use Rattle.std.proofs.lemmas.List.Quantifiers.{position-Some}
use Rattle.std.proofs.lemmas.Slice.Zip.{get_or-zip, length-zip}
use borrow.Table.Steps.{cases}
use Rattle.comparing.specs.declared.runs.Content.TheVariants.{Equal, Differ, Begins}
use Rattle.comparing.specs.Runs.{content_from, content_of, content-step, content-differ}
use Rattle.comparing.proofs.runs.compare_bytes.Goals as goal

abbrev differ : ℕ × ℕ → Bool
differ both = not (eqb both.0 both.1)

-- where none differ, the shorter is a beginning of the longer
ended : (k : ℕ) (a b : List ℕ) → position_from differ k (zip a b) ≡ None
    → (length a ≡ length b → content_from k a b ≡ Equal) × ((length a ≡ length b → ⊥) → content_from k a b ≡ Begins (k + min (length a) (length b)))
unfolding content_from
ended k [] [] e = (λ same. refl, λ other. absurd (other refl))
ended k [] (y ∷ b) e = (λ same. absurd (omega arith), λ other. ap Begins (omega arith))
ended k (x ∷ a) [] e = (λ same. absurd (omega arith), λ other. ap Begins (omega arith))
ended k (x ∷ a) (y ∷ b) e =
    cases (eqb x y)
    (λ t.
    let rest = ended (k + 1) a b (simp t at e) in
    (λ same. simp t (rest.0 (omega arith)), λ other. simp t (rest.1 (λ same. other (omega arith)) ∙ ap Begins (omega arith))))
    (λ f. let z : ◌≡◌ {A = Option ℕ} (Some k) None = simp f at e in absurd (let q : ◌≡◌ {A = ℕ} 0 1 = cc in omega arith))

module _ (a b : List ℕ) where
  -- bytes that are equal up to a place
  reach : (i : ℕ) → i ≤ length a → i ≤ length b → ((k : ℕ) → k < i → get_or a k 0 ≡ get_or b k 0) → content_of a b ≡ content_from i (drop i a) (drop i b)
  reach zero h g same = refl
  reach (suc i) h g same =
      let on : i + 1 ≡ suc i = omega arith in
      reach i (omega arith) (omega arith) (λ k l. same k (omega arith))
      ∙ content-step a b i (omega arith) (omega arith) (same i (omega arith))
      ∙ ap (λ n. content_from n (drop n a) (drop n b)) on

  same_at : (k : ℕ) → k < length a → k < length b → differ (get_or (zip a b) k (0, 0)) ≡ false → get_or a k 0 ≡ get_or b k 0
  same_at k h g none =
      let both : not (eqb (get_or a k 0) (get_or b k 0)) ≡ false = sym (ap differ (get_or-zip a b k (0, 0) h g)) ∙ none in
      cases (eqb (get_or a k 0) (get_or b k 0))
      (λ t. eqb-true _ _ t)
      (λ f. absurd (let q : ◌≡◌ {A = Bool} true false = simp f at both in cc))

  other_at : (k : ℕ) → k < length a → k < length b → differ (get_or (zip a b) k (0, 0)) ≡ true → get_or a k 0 ≡ get_or b k 0 → ⊥
  other_at k h g one same =
      let both : not (eqb (get_or a k 0) (get_or b k 0)) ≡ true = sym (ap differ (get_or-zip a b k (0, 0) h g)) ∙ one in
      let q : ◌≡◌ {A = Bool} false true = simp (eq-eqb _ _ same) at both in cc

  found : (i : ℕ) → position differ (zip a b) ≡ Some i → (i < length a) × (i < length b) × (Differ i (get_or a i 0) (get_or b i 0) ≡ content_of a b)
  found i e =
      let at = position-Some differ (zip a b) i (0, 0) e in
      let h : i < length a = omega (arith, at.0, length-zip a b) in
      let g : i < length b = omega (arith, at.0, length-zip a b) in
      (h, g, sym (reach i (omega arith) (omega arith) (λ k l. same_at k (omega arith) (omega arith) (at.2 k l)) ∙ content-differ a b i h g (other_at i h g at.1)))

  none_found : position differ (zip a b) ≡ None
      → (length a ≡ length b → content_of a b ≡ Equal) × ((length a ≡ length b → ⊥) → content_of a b ≡ Begins (min (length a) (length b)))
  none_found e = let all = ended 0 a b (sym (position_from-zero differ (zip a b)) ∙ e) in
      (all.0, λ other. all.1 other ∙ ap Begins (omega arith))

pub returns-then-a-b : goal.returns-then-a-b
returns-then-a-b c = sym ((none_found c.args.a.now c.args.b.now (sym c.first_difference.ensures ∙ c.in_default.is)).0 c.if-a-b.true)

pub returns-else-a-b : goal.returns-else-a-b
returns-else-a-b c = ap Begins c.min.ensures ∙ sym ((none_found c.args.a.now c.args.b.now (sym c.first_difference.ensures ∙ c.in_default.is)).1 c.if-a-b.false)

pub bounds-a-place : goal.bounds-a-place
bounds-a-place c = (found c.args.a.now c.args.b.now c.in-Some.place (sym c.first_difference.ensures ∙ c.in-Some.is)).0

pub bounds-b-place : goal.bounds-b-place
bounds-b-place c = (found c.args.a.now c.args.b.now c.in-Some.place (sym c.first_difference.ensures ∙ c.in-Some.is)).1

pub returns : goal.returns
returns c = (found c.args.a.now c.args.b.now c.in-Some.place (sym c.first_difference.ensures ∙ c.in-Some.is)).2
