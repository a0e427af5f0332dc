-- Document 01, "The replay program": "one frame a line". Assumes nothing.
use Rattle.std.specs.Prelude.{◌≡◌, refl, cond, List, [], ◌∷◌, ◌++◌, ℕ, suc, ◌+◌, ◌-◌, ◌≤◌, ◌<◌, eqb, ltb, length, get_or, take, drop}
use Rattle.std.proofs.Common.{sym, ◌∙◌, append-nil, add-one, not-suc-le-zero, le_refl, arith, length-append, length-drop, drop_of_length-le, drop-cons, drop-drop, eq-eqb, ne_eqb, ltb-true, ltb-false}
use Rattle.std.proofs.Math.Path.{ap}
use Rattle.std.proofs.Math.Seq.{append_snoc}
use borrow.Table.Steps.{cases}

-- the lines of an input, each without its line feed; a last line without one counts, unless it is empty
unfoldable pub lines_from : List ℕ → List ℕ → List (List ℕ)
lines_from line [] = cond (eqb (length line) 0) [] (line ∷ [])
lines_from line (b ∷ rest) = cond (eqb b 10) (line ∷ lines_from [] rest) (lines_from (line ++ (b ∷ [])) rest)

abbrev pub lines_of : List ℕ → List (List ℕ)
lines_of input = lines_from [] input

-- the bytes before the next line feed, or all where there is none
unfoldable pub until_feed : List ℕ → List ℕ
until_feed [] = []
until_feed (b ∷ rest) = cond (eqb b 10) [] (b ∷ until_feed rest)

-- ---- laws

-- the place where a line ends
module _ (piece : List ℕ) (at : ℕ) where
  pub byte-first : at < length piece → drop at piece ≡ get_or piece at 0 ∷ drop (at + 1) piece
  byte-first h = drop-cons piece at 0 h ∙ ap (λ k. get_or piece at 0 ∷ drop k piece) (sym (add-one at))

  pub until-here : at < length piece → get_or piece at 0 ≡ 10 → until_feed (drop at piece) ≡ []
  unfolding until_feed
  until-here h e = ap until_feed (byte-first h) ∙ simp (eq-eqb (get_or piece at 0) 10 e)

  pub until-next : at < length piece → (get_or piece at 0 ≡ 10 → ⊥) → until_feed (drop at piece) ≡ get_or piece at 0 ∷ until_feed (drop (at + 1) piece)
  unfolding until_feed
  until-next h e = ap until_feed (byte-first h) ∙ simp (ne_eqb (get_or piece at 0) 10 e)

  pub until_end : length piece ≤ at → until_feed (drop at piece) ≡ []
  unfolding until_feed
  until_end h = ap until_feed (drop_of_length-le piece h)

-- the first line and the others, behind what was already read of the first
lines_cut : (line input : List ℕ) → length (until_feed input) < length input
    → lines_from line input ≡ (line ++ until_feed input) ∷ lines_of (drop (suc (length (until_feed input))) input)
unfolding lines_from until_feed
lines_cut line [] h = absurd (not-suc-le-zero h)
lines_cut line (b ∷ rest) h =
    cases (eqb b 10)
    (λ e. simp (e, append-nil))
    (λ e.
    let u : until_feed (b ∷ rest) ≡ b ∷ until_feed rest = simp e in
    let g : length (until_feed rest) < length rest = omega (arith, ap length u) in
    simp e
    (lines_cut (line ++ (b ∷ [])) rest g
    ∙ ap (λ l. l ∷ lines_of (drop (suc (length (until_feed rest))) rest)) (append_snoc line b (until_feed rest))))

lines-open : (line input : List ℕ) → length input ≤ length (until_feed input) → 0 < length line + length input
    → lines_from line input ≡ (line ++ until_feed input) ∷ []
unfolding lines_from until_feed
lines-open line [] h g = simp (ne_eqb (length line) 0 (λ z. omega arith), append-nil)
lines-open line (b ∷ rest) h g =
    cases (eqb b 10)
    (λ e. let u : until_feed (b ∷ rest) ≡ [] = simp e in absurd (omega (arith, ap length u)))
    (λ e.
    let u : until_feed (b ∷ rest) ≡ b ∷ until_feed rest = simp e in
    let n : length rest ≤ length (until_feed rest) = omega (arith, ap length u) in
    simp e
    (lines-open (line ++ (b ∷ [])) rest n (simp length-append (omega arith))
    ∙ ap (λ l. l ∷ []) (append_snoc line b (until_feed rest))))

until-short : (input : List ℕ) → length (until_feed input) ≤ length input
unfolding until_feed
until-short [] = le_refl 0
until-short (b ∷ rest) =
    cases (eqb b 10)
    (λ e. let u : until_feed (b ∷ rest) ≡ [] = simp e in omega (arith, ap length u))
    (λ e.
    let u : until_feed (b ∷ rest) ≡ b ∷ until_feed rest = simp e in
    omega (arith, ap length u, until-short rest))

module _ (input : List ℕ) (at : ℕ) where
  pub line-ended : at + length (until_feed (drop at input)) < length input
      → lines_of (drop at input) ≡ until_feed (drop at input) ∷ lines_of (drop (at + length (until_feed (drop at input)) + 1) input)
  line-ended h =
      let k : at + suc (length (until_feed (drop at input))) ≡ at + length (until_feed (drop at input)) + 1 = omega arith in
      lines_cut [] (drop at input) (simp length-drop (omega arith))
      ∙ ap (λ l. until_feed (drop at input) ∷ lines_of l) (drop-drop (suc (length (until_feed (drop at input)))) at input ∙ ap (λ n. drop n input) k)

  pub line-last : at < length input → length input ≤ at + length (until_feed (drop at input))
      → lines_of (drop at input) ≡ until_feed (drop at input) ∷ []
  line-last h g = lines-open [] (drop at input) (simp length-drop (omega arith)) (simp length-drop (omega arith))

  pub line-none : length input ≤ at → lines_of (drop at input) ≡ []
  unfolding lines_from
  line-none h = ap (lines_from []) (drop_of_length-le input h)

  pub until-within : at ≤ length input → at + length (until_feed (drop at input)) ≤ length input
  until-within h = omega (arith, until-short (drop at input), length-drop at input)

-- the bytes before a line feed are a beginning of the input
until-part : (input : List ℕ) → take (length (until_feed input)) input ≡ until_feed input
unfolding until_feed
until-part [] = refl
until-part (b ∷ rest) = cases (eqb b 10) (λ e. simp e) (λ e. simp e (ap (λ l. b ∷ l) (until-part rest)))

-- the line that begins at a place stands before the others
pub line_first : (input : List ℕ) (at end : ℕ) → end ≡ at + length (until_feed (drop at input)) → at < length input
    → lines_of (drop at input) ≡ take (end - at) (drop at input) ∷ lines_of (drop (end + 1) input)
line_first input at end ends h =
    let k : length (until_feed (drop at input)) ≡ end - at = omega arith in
    let line : until_feed (drop at input) ≡ take (end - at) (drop at input) = sym (until-part (drop at input)) ∙ ap (λ n. take n (drop at input)) k in
    cases (ltb end (length input))
    (λ t.
    line-ended input at (omega (arith, ltb-true end (length input) t))
    ∙ ap (λ n. until_feed (drop at input) ∷ lines_of (drop (n + 1) input)) (sym ends)
    ∙ ap (λ l. l ∷ lines_of (drop (end + 1) input)) line)
    (λ f.
    let past = ltb-false end (length input) f in
    line-last input at h (omega arith)
    ∙ ap (λ l. until_feed (drop at input) ∷ l) (sym (line-none input (end + 1) (omega arith)))
    ∙ ap (λ l. l ∷ lines_of (drop (end + 1) input)) line)
