-- Document 02 [5]: "We want distance asked for in one place, and that place must say "far" when it is 2^30 or more either way, so that no
-- caller orders such numbers." All that is said elsewhere of where two numbers stand to each other goes through `distance_of`. Assumes
-- nothing.
use Rattle.std.specs.Prelude.{◌≡◌, ℕ, ◌+◌, ◌-◌, ◌^◌, ◌<◌, ◌≤◌, Bool, true, false, cond, not, ◌||◌, ℤ, pos, negsuc, ◌==◌, ◌≢◌, nat_le, nat_lt, Some, None, Option}
use Rattle.std.proofs.Math.Path.{refl, sym, ap}
use Rattle.std.proofs.Common.{◌∙◌, eq-eqb, ne_eqb, le-leb, ltb-true, ltb-false}
use Rattle.std.proofs.lemmas.Bool.{false≢true, lt-leb}
use Rattle.std.proofs.Math.Decide.{ℕ_discrete, dec_lt}
use native.Mathlib.Omega.{arith}
use Rattle.std.specs.Int.Signed.{mag}
use borrow.Table.Steps.{cases}
use Rattle.seq.specs.Numbers.{plus, minus, signed}
use Rattle.seq.specs.Laws.{minus-lt, signed_low, signed_high}

-- "2^30 or more either way" (`negsuc m` is −1 − m)
abbrev pub is_far : ℤ → Bool
is_far (pos n) = nat_le (2 ^ 30) n
is_far (negsuc n) = nat_le (2 ^ 30) (n + 1)

-- the one place: how far a is from b, or "far"
unfoldable pub distance_of : ℕ → ℕ → Option ℤ
unfolding minus signed
distance_of a b = cond (is_far (signed (minus a b))) None (Some (signed (minus a b)))

abbrev pub is_by : Option ℤ → Bool
is_by (Some d) = true
is_by None = false

-- a is not far from b
unfoldable pub near : ℕ → ℕ → Bool
unfolding distance_of
near a b = is_by (distance_of a b)

abbrev pub is_behind : Option ℤ → Bool
is_behind (Some (pos n)) = false
is_behind (Some (negsuc n)) = true
is_behind None = false

-- "Number a is before b when a − b is negative (P)."; [5]: "no caller orders such numbers": of two that are far apart neither is before the other
unfoldable pub before : ℕ → ℕ → Bool
unfolding distance_of
before a b = is_behind (distance_of a b)

abbrev pub past_as : Option ℤ → ℕ
past_as (Some (pos n)) = n
past_as (Some (negsuc n)) = 2 ^ 30
past_as None = 2 ^ 30

-- how many numbers past b a is: 2^30, more than any size, where it is before b or far from it
unfoldable pub past : ℕ → ℕ → ℕ
unfolding distance_of
past a b = past_as (distance_of a b)

-- ---- laws: the three cases of the wrapped difference

data Stands (d : ℕ) : Type 0 where
  ahead : d < 2 ^ 30 → Stands d
  behind : 2 ^ 32 - 2 ^ 30 < d → Stands d
  far : 2 ^ 30 ≤ d → d ≤ 2 ^ 32 - 2 ^ 30 → Stands d

stands : (d : ℕ) → Stands d
stands d =
    elim (dec_lt d (2 ^ 30)) [
      | yes y ↦ ahead y
      | no n ↦ elim (dec_lt (2 ^ 32 - 2 ^ 30) d) [ yes y ↦ behind y | no m ↦ far (omega arith) (omega arith) ]
    ]

module _ (a b : ℕ) where
  pub distance-ahead : minus a b < 2 ^ 30 → distance_of a b ≡ Some (signed (minus a b))
  unfolding distance_of
  distance-ahead h =
      let e = signed_low (minus a b) (omega arith) in
      ap (λ z. cond (is_far z) None (Some z)) e ∙ (simp (lt-leb (2 ^ 30) (minus a b) h)) ∙ sym (ap Some e)

  pub distance-behind : 2 ^ 32 - 2 ^ 30 < minus a b → distance_of a b ≡ Some (signed (minus a b))
  unfolding distance_of
  distance-behind h =
      let e = signed_high (minus a b) (omega arith) in
      ap (λ z. cond (is_far z) None (Some z)) e ∙ (simp (lt-leb (2 ^ 30) (2 ^ 32 - 1 - minus a b + 1) (omega (arith, minus-lt a b)))) ∙ sym (ap Some e)

  pub distance-far : 2 ^ 30 ≤ minus a b → minus a b ≤ 2 ^ 32 - 2 ^ 30 → distance_of a b ≡ None
  unfolding distance_of
  distance-far low high =
      cases (nat_lt (minus a b) (2 ^ 31))
      (λ t.
      let e = signed_low (minus a b) (ltb-true (minus a b) (2 ^ 31) t) in
      ap (λ z. cond (is_far z) None (Some z)) e ∙ simp (le-leb (2 ^ 30) (minus a b) low))
      (λ f.
      let e = signed_high (minus a b) (ltb-false (minus a b) (2 ^ 31) f) in
      ap (λ z. cond (is_far z) None (Some z)) e ∙ simp (le-leb (2 ^ 30) (2 ^ 32 - 1 - minus a b + 1) (omega arith)))

  -- the same without `signed`
  pub is-ahead : minus a b < 2 ^ 30 → distance_of a b ≡ Some (pos (minus a b))
  is-ahead h = distance-ahead h ∙ ap Some (signed_low (minus a b) (omega arith))

  pub is-behind : 2 ^ 32 - 2 ^ 30 < minus a b → distance_of a b ≡ Some (negsuc (2 ^ 32 - 1 - minus a b))
  is-behind h = distance-behind h ∙ ap Some (signed_high (minus a b) (omega arith))

  -- a distance that is told is the wrapped difference, read as signed ..
  pub by-signed : (d : ℤ) → distance_of a b ≡ Some d → signed (minus a b) ≡ d
  by-signed d e =
      elim (stands (minus a b)) [
        | ahead h ↦ let z = sym (distance-ahead h) ∙ e in cc
        | behind h ↦ let z = sym (distance-behind h) ∙ e in cc
        | far low high ↦ absurd (false≢true (ap is_by (sym (distance-far low high) ∙ e)))
      ]

  -- .. and below 2^30, either way
  pub by-small : (d : ℤ) → distance_of a b ≡ Some d → mag d < 2 ^ 30
  by-small d e =
      elim (stands (minus a b)) [
        | ahead h ↦ let same : pos (minus a b) ≡ d = let z = sym (is-ahead h) ∙ e in cc in omega (arith, ap mag same)
        | behind h ↦ let same : negsuc (2 ^ 32 - 1 - minus a b) ≡ d = let z = sym (is-behind h) ∙ e in cc in omega (arith, ap mag same)
        | far low high ↦ absurd (false≢true (ap is_by (sym (distance-far low high) ∙ e)))
      ]

  pub past-ahead : minus a b < 2 ^ 30 → past a b ≡ minus a b
  unfolding past
  past-ahead h = ap past_as (is-ahead h)

  -- less than 2^30 past is past by the wrapped difference ..
  pub past_near : past a b < 2 ^ 30 → past a b ≡ minus a b
  unfolding past
  past_near h =
      elim (stands (minus a b)) [
        | ahead l ↦ past-ahead l
        | behind l ↦ absurd (omega (arith, ap past_as (is-behind l)))
        | far low high ↦ absurd (omega (arith, ap past_as (distance-far low high)))
      ]

  -- .. and told by the one place
  pub past-told : past a b < 2 ^ 30 → distance_of a b ≡ Some (pos (past a b))
  past-told h = let e = past_near h in is-ahead (omega (arith, e)) ∙ ap (λ d. Some (pos d)) (sym e)

  pub before-behind : 2 ^ 32 - 2 ^ 30 < minus a b → before a b ≡ true
  unfolding before
  before-behind h = ap is_behind (is-behind h)

  not-before-ahead : minus a b < 2 ^ 30 → before a b ≡ false
  unfolding before
  not-before-ahead h = ap is_behind (is-ahead h)

  not-near : 2 ^ 30 ≤ minus a b → minus a b ≤ 2 ^ 32 - 2 ^ 30 → near a b ≡ false
  unfolding near
  not-near low high = ap is_by (distance-far low high)

  -- of two numbers that are far apart neither is before the other
  pub far-unordered : near a b ≡ false → before a b ≡ false
  unfolding near before
  far-unordered f =
      elim (stands (minus a b)) [
        | ahead h ↦ ap is_behind (is-ahead h)
        | behind h ↦ absurd (false≢true (sym f ∙ ap is_by (is-behind h)))
        | far low high ↦ ap is_behind (distance-far low high)
      ]

pub past-plus : (o k : ℕ) → o < 2 ^ 32 → k < 2 ^ 30 → past (plus o k) o ≡ k
unfolding plus minus
past-plus o k h g = let e : minus (plus o k) o ≡ k = omega arith in past-ahead (plus o k) o (omega (arith, e)) ∙ e

-- ---- laws of two numbers and of the same turned round

module _ (a b : ℕ) (ha : a < 2 ^ 32) (hb : b < 2 ^ 32) where
  turned : (a ≢ b) → minus b a + minus a b ≡ 2 ^ 32
  unfolding minus
  turned ne = omega arith

  equal : a ≡ b → minus b a ≡ 0
  unfolding minus
  equal e = omega arith

  -- far either way round
  pub far-turned : near a b ≡ near b a
  unfolding near
  far-turned =
      elim (ℕ_discrete a b) [
        | yes e ↦ rw e refl
        | no ne ↦ elim (stands (minus a b)) [
          | ahead h ↦ ap is_by (is-ahead a b h) ∙ sym (ap is_by (is-behind b a (omega (arith, turned ne))))
          | behind h ↦ ap is_by (is-behind a b h) ∙ sym (ap is_by (is-ahead b a (omega (arith, turned ne, minus-lt a b))))
          | far low high ↦ ap is_by (distance-far a b low high) ∙ sym (ap is_by (distance-far b a (omega (arith, turned ne)) (omega (arith, turned ne))))
        ]
      ]

  -- of two that are not far apart, and not one number, exactly one is before the other
  pub near-ordered : near a b ≡ true → before b a ≡ not (a == b || before a b)
  near-ordered t =
      elim (ℕ_discrete a b) [
        | yes e ↦ simp (eq-eqb a b e) (not-before-ahead b a (omega (arith, equal e)))
        | no ne ↦ simp (ne_eqb a b ne) (elim (stands (minus a b)) [
          | ahead h ↦ simp (not-before-ahead a b h) (before-behind b a (omega (arith, turned ne)))
          | behind h ↦ simp (before-behind a b h) (not-before-ahead b a (omega (arith, turned ne, minus-lt a b)))
          | far low high ↦ absurd (false≢true (sym (not-near a b low high) ∙ t))
        ])
      ]

-- ---- laws of two numbers that were counted from one start: less than 2^30 apart, all is as it is for the counts

module _ (s k l : ℕ) where
  counted-ahead : l ≤ k → k < l + 2 ^ 30 → distance_of (plus s k) (plus s l) ≡ Some (pos (k - l))
  unfolding plus minus
  counted-ahead h g =
      let e : minus (plus s k) (plus s l) ≡ k - l = omega arith in
      is-ahead (plus s k) (plus s l) (omega (arith, e)) ∙ ap (λ d. Some (pos d)) e

  counted-behind : k < l → l < k + 2 ^ 30 → distance_of (plus s k) (plus s l) ≡ Some (negsuc (l - k - 1))
  unfolding plus minus
  counted-behind h g =
      let n : 2 ^ 32 - 1 - minus (plus s k) (plus s l) ≡ l - k - 1 = omega arith in
      is-behind (plus s k) (plus s l) (omega arith) ∙ ap (λ d. Some (negsuc d)) n

  pub past-counted : l ≤ k → k < l + 2 ^ 30 → past (plus s k) (plus s l) ≡ k - l
  unfolding plus minus
  past-counted h g = let e : minus (plus s k) (plus s l) ≡ k - l = omega arith in past-ahead (plus s k) (plus s l) (omega (arith, e)) ∙ e

  pub before-counted : k < l → l < k + 2 ^ 30 → before (plus s k) (plus s l) ≡ true
  unfolding plus minus
  before-counted h g = before-behind (plus s k) (plus s l) (omega arith)

  pub not-before-counted : l ≤ k → k < l + 2 ^ 30 → before (plus s k) (plus s l) ≡ false
  unfolding plus minus
  not-before-counted h g = not-before-ahead (plus s k) (plus s l) (omega arith)

  pub near-counted : l < k + 2 ^ 30 → k < l + 2 ^ 30 → near (plus s k) (plus s l) ≡ true
  unfolding near plus minus
  near-counted h g =
      elim (dec_lt k l) [
        | yes y ↦ ap is_by (is-behind (plus s k) (plus s l) (omega arith))
        | no y ↦ ap is_by (is-ahead (plus s k) (plus s l) (omega arith))
      ]
