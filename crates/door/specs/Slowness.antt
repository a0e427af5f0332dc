-- The slow links as a host is told them: the eight places one by one. Assumes nothing.
use Rattle.std.specs.Prelude.{◌≡◌, refl, List, [], ◌∷◌, ℕ, zero, suc, ◌+◌, ◌<◌, ◌≤◌, ◌++◌, length, drop, get_or}
use Rattle.std.proofs.Common.{◌∙◌, sym, ap, append-nil, arith}
use Rattle.std.proofs.lemmas.List.Edits.{sets, sets-eq}
use Rattle.link.specs.Slow.{confirmed_link}
use Rattle.engine.specs.Slowness.{all_slow, slow_slots, slow_of, listed_in}
use Rattle.words.specs.Meaning.{row_of, links_in, decoded}

abbrev pub eight_of : List ℕ → List ℕ
eight_of l = get_or l 0 0 ∷ get_or l 1 0 ∷ get_or l 2 0 ∷ get_or l 3 0 ∷ get_or l 4 0 ∷ get_or l 5 0 ∷ get_or l 6 0 ∷ get_or l 7 0 ∷ []

-- words of another length than a state's say eight empty rows, of which none is listed
pub none-listed : slow_of (decoded []).links ≡ listed_in []
unfolding slow_of slow_slots all_slow confirmed_link decoded links_in row_of
none-listed = refl

-- eight numbers are these
eight_is : (l : List ℕ) → length l ≡ 8 → l ≡ eight_of l
eight_is [] e = absurd (omega arith)
eight_is (a ∷ []) e = absurd (omega arith)
eight_is (a ∷ b ∷ []) e = absurd (omega arith)
eight_is (a ∷ b ∷ c ∷ []) e = absurd (omega arith)
eight_is (a ∷ b ∷ c ∷ d ∷ []) e = absurd (omega arith)
eight_is (a ∷ b ∷ c ∷ d ∷ f ∷ []) e = absurd (omega arith)
eight_is (a ∷ b ∷ c ∷ d ∷ f ∷ g ∷ []) e = absurd (omega arith)
eight_is (a ∷ b ∷ c ∷ d ∷ f ∷ g ∷ h ∷ []) e = absurd (omega arith)
eight_is (a ∷ b ∷ c ∷ d ∷ f ∷ g ∷ h ∷ k ∷ []) e = refl
eight_is (a ∷ b ∷ c ∷ d ∷ f ∷ g ∷ h ∷ k ∷ x ∷ l) e = absurd (omega arith)

-- all words of a list are written, one after another
all-written : (xs vs : List ℕ) → length xs ≡ length vs → sets xs 0 vs ≡ vs
all-written xs vs e =
    let rest : drop (0 + length vs) xs ≡ [] = drop-none xs (0 + length vs) (omega arith) in
    sets-eq vs xs 0 (omega arith) ∙ ap (λ (l : List ℕ). vs ++ l) rest ∙ append-nil vs
  where
    drop-none : (l : List ℕ) (n : ℕ) → length l ≤ n → drop n l ≡ []
    drop-none [] zero h = refl
    drop-none [] (suc n) h = refl
    drop-none (x ∷ l) zero h = absurd (omega arith)
    drop-none (x ∷ l) (suc n) h = drop-none l n (omega arith)

-- eight numbers that are others one by one are written in all eight places
pub eight-written : (old ys xs : List ℕ) → length old ≡ 8 → length ys ≡ 8 → ((i : ℕ) → i < 8 → get_or ys i 0 ≡ get_or xs i 0) → ys ≡ sets old 0 (eight_of xs)
eight-written old ys xs places long one =
    eight_is ys long
    ∙ (λ i. one 0 (omega arith) i ∷ one 1 (omega arith) i ∷ one 2 (omega arith) i ∷ one 3 (omega arith) i ∷ one 4 (omega arith) i ∷ one 5 (omega arith) i ∷ one 6 (omega arith) i ∷ one 7 (omega arith) i ∷ [])
    ∙ sym (all-written old (eight_of xs) places)
