-- Decimal words: which runs of bytes are numbers, and which number each is. Assumes nothing.
use Rattle.std.specs.Prelude.{Bool, true, false, cond, not, ◌&&◌, ◌≡◌, ℕ, ◌+◌, ◌-◌, ◌*◌, ◌<◌, ◌≤◌, eqb, leb, ltb, length, get_or, drop, Some, None, Option}
use mathlib.Core.List.{List, [], ◌∷◌}
use Rattle.std.proofs.Math.Path.{refl}
use Rattle.std.proofs.Common.{le_refl, add-one, arith, drop-cons, le-leb, lt-ltb, le-ltb, eq-eqb, ne_eqb, leb-true}
use Rattle.std.proofs.lemmas.Bool.{lt-leb}
use borrow.Table.Steps.{cases}

-- `0` to `9` are worth 0 to 9; 10 says that a byte is no digit
unfoldable pub digit_value : ℕ → ℕ
digit_value b = cond (leb 48 b && leb b 57) (b - 48) 10

-- at least one byte, and no zero in front of others
unfoldable pub unpadded : List ℕ → Bool
unpadded [] = false
unpadded (b ∷ []) = true
unpadded (b ∷ c ∷ rest) = not (eqb b 48)

unfoldable pub all_digits : List ℕ → Bool
all_digits [] = true
all_digits (b ∷ rest) = ltb (digit_value b) 10 && all_digits rest

-- the number that digits spell behind a number that was already read
unfoldable pub value_from : ℕ → List ℕ → ℕ
value_from n [] = n
value_from n (b ∷ rest) = value_from (n * 10 + digit_value b) rest

-- digits alone, and a number within the limit
unfoldable pub read_from : ℕ → List ℕ → ℕ → Option ℕ
read_from n word limit = cond (all_digits word && leb (value_from n word) limit) (Some (value_from n word)) None

-- a number without leading zeros, within the limit
unfoldable pub decimal_of : List ℕ → ℕ → Option ℕ
decimal_of word limit = cond (unpadded word) (read_from 0 word limit) None

-- ---- laws of the loop over a word's bytes

value_grows : (word : List ℕ) (n : ℕ) → n ≤ value_from n word
unfolding value_from
value_grows [] n = le_refl n
value_grows (b ∷ rest) n =
    let h = value_grows rest (n * 10 + digit_value b) in
    omega arith

pub read-none : (n limit : ℕ) → n ≤ limit → read_from n [] limit ≡ Some n
unfolding read_from all_digits value_from
read-none n limit h = simp (le-leb n limit h)

-- past the limit nothing brings a number back
pub read_past : (n : ℕ) (word : List ℕ) (limit : ℕ) → limit < n → read_from n word limit ≡ None
unfolding read_from
read_past n word limit h =
    let past : limit < value_from n word = omega (arith, value_grows word n) in
    cases (all_digits word)
    (λ t. simp (t, lt-leb (value_from n word) limit past))
    (λ f. simp f)

module _ (n : ℕ) (word : List ℕ) (i limit : ℕ) (h : i < length word) where
  pub read_step : digit_value (get_or word i 0) < 10
      → read_from n (drop i word) limit ≡ read_from (n * 10 + digit_value (get_or word i 0)) (drop (i + 1) word) limit
  unfolding read_from all_digits value_from
  read_step d = rw (drop-cons word i 0, add-one) (simp (lt-ltb (digit_value (get_or word i 0)) 10 d))

  pub read-other : 10 ≤ digit_value (get_or word i 0) → read_from n (drop i word) limit ≡ None
  unfolding read_from all_digits value_from
  read-other d = rw (drop-cons word i 0) (simp (le-ltb (digit_value (get_or word i 0)) 10 d))

-- ---- laws of the word's first byte

module _ (limit : ℕ) where
  pub decimal-none : (word : List ℕ) → length word ≡ 0 → decimal_of word limit ≡ None
  unfolding decimal_of unpadded
  decimal-none [] h = refl
  decimal-none (b ∷ rest) h = absurd (omega arith)

  pub decimal-one : (word : List ℕ) → length word ≡ 1 → decimal_of word limit ≡ read_from 0 word limit
  unfolding decimal_of unpadded
  decimal-one [] h = absurd (omega arith)
  decimal-one (b ∷ []) h = refl
  decimal-one (b ∷ c ∷ rest) h = absurd (omega arith)

  pub decimal-padded : (word : List ℕ) → 1 < length word → get_or word 0 0 ≡ 48 → decimal_of word limit ≡ None
  unfolding decimal_of unpadded
  decimal-padded [] h e = absurd (omega arith)
  decimal-padded (b ∷ []) h e = absurd (omega arith)
  decimal-padded (b ∷ c ∷ rest) h e = simp (eq-eqb b 48 e)

  pub decimal-more : (word : List ℕ) → 1 < length word → (get_or word 0 0 ≡ 48 → ⊥) → decimal_of word limit ≡ read_from 0 word limit
  unfolding decimal_of unpadded
  decimal-more [] h e = absurd (omega arith)
  decimal-more (b ∷ []) h e = absurd (omega arith)
  decimal-more (b ∷ c ∷ rest) h e = simp (ne_eqb b 48 e)

-- ---- what is read is within the limit

read-within : (word : List ℕ) (limit n : ℕ) → read_from 0 word limit ≡ Some n → n ≤ limit
unfolding read_from
read-within word limit n e =
    cases (all_digits word)
    (λ t.
    cases (leb (value_from 0 word) limit)
    (λ l.
    let v : value_from 0 word ≡ n = cc (simp (t, l) at e) in
    omega (arith, leb-true (value_from 0 word) limit l))
    (λ l. let z : ◌≡◌ {A = ℕ} 0 1 = cc (simp (t, l) at e) in absurd (omega arith)))
    (λ f. let z : ◌≡◌ {A = ℕ} 0 1 = cc (simp f at e) in absurd (omega arith))

pub a-number-read-is-within : (word : List ℕ) (limit n : ℕ) → decimal_of word limit ≡ Some n → n ≤ limit
unfolding decimal_of
a-number-read-is-within word limit n e =
    cases (unpadded word)
    (λ t. read-within word limit n (simp t at e))
    (λ f. let z : ◌≡◌ {A = ℕ} 0 1 = cc (simp f at e) in absurd (omega arith))
