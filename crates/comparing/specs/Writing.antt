-- The lines of `compare`, as its page gives them: `NUMBER first`, `NUMBER second`, `NUMBER differ PLACE XX YY`, `NUMBER begins LENGTH`,
-- `NUMBER conflict first`, `NUMBER conflict second`, `refused 20 first LINE`, and the line that sums up. Assumes nothing.
use Rattle.std.specs.Prelude.{◌≡◌, cond, List, [], ◌∷◌, ◌++◌, ℕ, zero, suc, ◌+◌, ◌-◌, ◌/◌, ◌%◌, ◌^◌, min, ◌≤◌, ◌<◌, eqb, get_or, take, drop}
use Rattle.std.proofs.Common.{add-one, arith, lit≤, length-append, drop_of_length-le, drop-cons}
use Rattle.std.proofs.Math.ListN.{length, length-take}
use Rattle.std.proofs.Math.Seq.{get_or-take}
use borrow.Table.Steps.{cases}
use Rattle.text.specs.Hex.{hex_pair}
use Rattle.text.specs.Put.{joined, decimal_text, decimal-short}
use Rattle.refusal.specs.declared.Refusal.{Refusal}
use Rattle.refusal.specs.Refusals.{number_of}
use Rattle.comparing.specs.declared.comparison.Side.{Side}
use Rattle.comparing.specs.declared.comparison.Side.TheVariants as sides
use Rattle.comparing.specs.declared.listing.Difference.{Difference}
use Rattle.comparing.specs.declared.listing.Difference.TheVariants.{First, Second, Differ, Begins, ConflictFirst, ConflictSecond}
use Rattle.comparing.specs.Words.{number_in, kind_in, kinds, difference_in}

-- "`NUMBER` in eight digits"
abbrev pub number_parts : ℕ → List (List ℕ)
number_parts n = hex_pair (n / 16777216) ∷ hex_pair (n / 65536 % 256) ∷ hex_pair (n / 256 % 256) ∷ hex_pair (n % 256) ∷ []

-- a space, a line feed, and the words between them
abbrev pub a_space : List ℕ
a_space = 32 ∷ []

abbrev pub a_feed : List ℕ
a_feed = 10 ∷ []

abbrev pub what_parts : Difference → List (List ℕ)
what_parts First = (32 ∷ 102 ∷ 105 ∷ 114 ∷ 115 ∷ 116 ∷ 10 ∷ []) ∷ []
what_parts Second = (32 ∷ 115 ∷ 101 ∷ 99 ∷ 111 ∷ 110 ∷ 100 ∷ 10 ∷ []) ∷ []
what_parts (Differ place x y) = (32 ∷ 100 ∷ 105 ∷ 102 ∷ 102 ∷ 101 ∷ 114 ∷ 32 ∷ []) ∷ decimal_text place ∷ a_space ∷ hex_pair x ∷ a_space ∷ hex_pair y ∷ a_feed ∷ []
what_parts (Begins n) = (32 ∷ 98 ∷ 101 ∷ 103 ∷ 105 ∷ 110 ∷ 115 ∷ 32 ∷ []) ∷ decimal_text n ∷ a_feed ∷ []
what_parts ConflictFirst = (32 ∷ 99 ∷ 111 ∷ 110 ∷ 102 ∷ 108 ∷ 105 ∷ 99 ∷ 116 ∷ 32 ∷ 102 ∷ 105 ∷ 114 ∷ 115 ∷ 116 ∷ 10 ∷ []) ∷ []
what_parts ConflictSecond = (32 ∷ 99 ∷ 111 ∷ 110 ∷ 102 ∷ 108 ∷ 105 ∷ 99 ∷ 116 ∷ 32 ∷ 115 ∷ 101 ∷ 99 ∷ 111 ∷ 110 ∷ 100 ∷ 10 ∷ []) ∷ []

unfoldable pub line_text : ℕ → List ℕ
unfolding joined number_in difference_in decimal_text
line_text word = joined (number_parts (number_in word) ++ what_parts (difference_in word))

abbrev pub side_text : Side → List ℕ
side_text sides.First = 32 ∷ 102 ∷ 105 ∷ 114 ∷ 115 ∷ 116 ∷ 32 ∷ []
side_text sides.Second = 32 ∷ 115 ∷ 101 ∷ 99 ∷ 111 ∷ 110 ∷ 100 ∷ 32 ∷ []

unfoldable pub refused_text : Refusal → Side → ℕ → List ℕ
unfolding joined decimal_text
refused_text e side line = joined ((114 ∷ 101 ∷ 102 ∷ 117 ∷ 115 ∷ 101 ∷ 100 ∷ 32 ∷ []) ∷ decimal_text (number_of e) ∷ side_text side ∷ decimal_text line ∷ a_feed ∷ [])

-- how many differences are of a kind
unfoldable pub kinds_in : ℕ → List ℕ → ℕ
unfolding kind_in
kinds_in kind [] = 0
kinds_in kind (word ∷ rest) = cond (eqb (kind_in word) kind) (suc (kinds_in kind rest)) (kinds_in kind rest)

-- the numbers that both have with equal messages: those of the first that are listed neither as its own nor as differing
abbrev pub equal_in : List ℕ → ℕ → ℕ
equal_in words first = first - kinds_in 0 words - kinds_in 2 words - kinds_in 3 words

abbrev pub count_parts : List ℕ → ℕ → ℕ → List (List ℕ)
count_parts words first second =
    (110 ∷ 117 ∷ 109 ∷ 98 ∷ 101 ∷ 114 ∷ 115 ∷ 58 ∷ 32 ∷ [])
    ∷ decimal_text first ∷ (32 ∷ 102 ∷ 105 ∷ 114 ∷ 115 ∷ 116 ∷ 44 ∷ 32 ∷ [])
    ∷ decimal_text second ∷ (32 ∷ 115 ∷ 101 ∷ 99 ∷ 111 ∷ 110 ∷ 100 ∷ 59 ∷ 32 ∷ [])
    ∷ decimal_text (equal_in words first) ∷ (32 ∷ 101 ∷ 113 ∷ 117 ∷ 97 ∷ 108 ∷ 44 ∷ 32 ∷ [])
    ∷ decimal_text (kinds_in 0 words) ∷ (32 ∷ 111 ∷ 110 ∷ 108 ∷ 121 ∷ 32 ∷ 102 ∷ 105 ∷ 114 ∷ 115 ∷ 116 ∷ 44 ∷ 32 ∷ [])
    ∷ decimal_text (kinds_in 1 words) ∷ (32 ∷ 111 ∷ 110 ∷ 108 ∷ 121 ∷ 32 ∷ 115 ∷ 101 ∷ 99 ∷ 111 ∷ 110 ∷ 100 ∷ 44 ∷ 32 ∷ [])
    ∷ decimal_text (kinds_in 2 words) ∷ (32 ∷ 100 ∷ 105 ∷ 102 ∷ 102 ∷ 101 ∷ 114 ∷ 44 ∷ 32 ∷ [])
    ∷ decimal_text (kinds_in 3 words) ∷ (32 ∷ 98 ∷ 101 ∷ 103 ∷ 105 ∷ 110 ∷ 32 ∷ 97 ∷ 108 ∷ 105 ∷ 107 ∷ 101 ∷ 59 ∷ 32 ∷ 99 ∷ 111 ∷ 110 ∷ 102 ∷ 108 ∷ 105 ∷ 99 ∷ 116 ∷ 115 ∷ 58 ∷ 32 ∷ [])
    ∷ decimal_text (kinds_in 4 words) ∷ (32 ∷ 102 ∷ 105 ∷ 114 ∷ 115 ∷ 116 ∷ 44 ∷ 32 ∷ [])
    ∷ decimal_text (kinds_in 5 words) ∷ (32 ∷ 115 ∷ 101 ∷ 99 ∷ 111 ∷ 110 ∷ 100 ∷ 10 ∷ [])
    ∷ []

abbrev pub equal_parts : ℕ → List (List ℕ)
equal_parts first = (101 ∷ 113 ∷ 117 ∷ 97 ∷ 108 ∷ 58 ∷ 32 ∷ []) ∷ decimal_text first ∷ (32 ∷ 110 ∷ 117 ∷ 109 ∷ 98 ∷ 101 ∷ 114 ∷ 115 ∷ 10 ∷ []) ∷ []

-- "how many numbers each side has, how many are equal, how many differ in each way, or that the recordings are equal"
unfoldable pub summary_text : List ℕ → ℕ → ℕ → List ℕ
unfolding joined kinds_in decimal_text
summary_text words first second = cond (eqb (length words) 0) (joined (equal_parts first)) (joined (count_parts words first second))

-- a text at the start of a buffer, and what lies behind it as it was
abbrev pub starts_with : List ℕ → List ℕ → List ℕ
starts_with text out = text ++ drop (length text) out

-- ---- laws: a count from an index on

module _ (kind n : ℕ) (list : List ℕ) (i : ℕ) where
  pub kinds-past : min n (length list) ≤ i → kinds_in kind (drop i (take n list)) ≡ 0
  unfolding kinds_in
  kinds-past h =
      let past : length (take n list) ≤ i = simp length-take h in
      simp (drop_of_length-le (take n list) past)

  pub kinds-next : i < n → i < length list → kinds_in kind (drop i (take n list)) ≡ cond (eqb (kind_in (get_or list i 0)) kind) 1 0 + kinds_in kind (drop (i + 1) (take n list))
  unfolding kinds_in
  kinds-next h l =
      let ahead : i < length (take n list) = simp length-take (omega arith) in
      rw (drop-cons (take n list) i 0, get_or-take, add-one)
      (cases (eqb (kind_in (get_or list i 0)) kind) (λ t. simp t (omega arith)) (λ f. simp f (omega arith)))

pub kinds-few : (kind : ℕ) (words : List ℕ) → kinds_in kind words ≤ length words
unfolding kinds_in
kinds-few kind [] = lit≤ tt
kinds-few kind (word ∷ rest) =
    let more = kinds-few kind rest in
    cases (eqb (kind_in word) kind) (λ t. simp t (omega arith)) (λ f. simp f (omega arith))

-- ---- laws: what is written fits its buffer

what-short : (kind place x y : ℕ) → place < 2 ^ 64 → length (joined (what_parts (get_or (kinds place x y) kind ConflictSecond))) ≤ 35
unfolding joined
what-short zero place x y h = lit≤ tt
what-short (suc zero) place x y h = lit≤ tt
what-short (suc (suc zero)) place x y h = simp length-append (omega (arith, decimal-short place h))
what-short (suc (suc (suc zero))) place x y h = simp length-append (omega (arith, decimal-short place h))
what-short (suc (suc (suc (suc zero)))) place x y h = lit≤ tt
what-short (suc (suc (suc (suc (suc kind))))) place x y h = lit≤ tt

pub line-short : (word : ℕ) → length (line_text word) ≤ 43
unfolding line_text joined difference_in
line-short word = omega (arith, what-short (kind_in word) (word / 65536 % 4096) (word / 256 % 256) (word % 256) (omega arith))

side-short : (side : Side) → length (side_text side) ≤ 8
side-short sides.First = lit≤ tt
side-short sides.Second = lit≤ tt

pub refused-short : (e : Refusal) (side : Side) (line : ℕ) → number_of e < 2 ^ 64 → line < 2 ^ 64 → length (refused_text e side line) ≤ 57
unfolding refused_text joined
refused-short e side line h l = simp length-append (omega (arith, side-short side, decimal-short (number_of e) h, decimal-short line l))

pub equal-short : (first : ℕ) → first < 2 ^ 64 → length (joined (equal_parts first)) ≤ 36
unfolding joined
equal-short first f = simp length-append (omega (arith, decimal-short first f))

pub counts-short : (words : List ℕ) (first second : ℕ) → length words < 2 ^ 64 → first < 2 ^ 64 → second < 2 ^ 64 → length (joined (count_parts words first second)) ≤ 291
unfolding joined
counts-short words first second w f s =
    let kind : (k : ℕ) → length (decimal_text (kinds_in k words)) ≤ 20 = λ k. decimal-short (kinds_in k words) (omega (arith, kinds-few k words)) in
    simp length-append (omega (arith, decimal-short first f, decimal-short second s, decimal-short (equal_in words first) (omega arith), kind 0, kind 1, kind 2, kind 3, kind 4, kind 5))
