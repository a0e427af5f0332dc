-- The rows of a table in rising order of their ranks: where a rank stands among them, and a row more. Assumes nothing.
use Rattle.std.proofs.Math.Path.{◌≡◌, refl, ap, sym}
use Rattle.comparing.specs.declared.table.Row.{Row}
use Rattle.std.specs.Prelude.{Bool, true, false, cond, eqb, ltb, length, get_or, set, insert, drop, Some, None, Option, Ok, Err, Result, MatchResult}
use Rattle.std.specs.List.Sorted.{IsSearchInRange, IsBinarySearchResult, IsNonDecreasingBy}
use Rattle.std.specs.Ordering.{nat_cmp, ordering_index}
use Rattle.std.proofs.lemmas.Cmp.{ranked}
use Rattle.std.proofs.lemmas.List.Sorted.{IsNonDecreasingBy-from_default}
use Rattle.std.proofs.lemmas.Bool.Decides.{nat_tests}
use mathlib.Core.List.{List, [], ◌∷◌}
use Prim.Native.Nat.{ℕ, zero, suc, ◌^◌, ◌≤◌, ◌<◌}
use Rattle.std.proofs.Common.{not-suc-le-zero, le_refl, le_trans, drop_of_length-le}
use native.Mathlib.Omega.{arith}
use borrow.Author.Tests.{eqb-true, eqb-false, eq-eqb, ne_eqb, ltb-true, ltb-false, lt-ltb, le-ltb}
use borrow.Table.Steps.{cases}

abbrev pub row : ℕ → ℕ → Bool → Row
row rank place is_conflict = record { rank = rank; place = place; is_conflict = is_conflict }

abbrev pub no_row : Row
no_row = row 0 0 false

-- rising ranks, from one on and below 2^32
unfoldable pub Rising : ℕ → List Row → Type 0
Rising least [] = least ≤ 2 ^ 32
Rising least (x ∷ rest) = (least ≤ x.rank) × Rising (suc x.rank) rest

-- how many rows stand before the first that is not below a rank
unfoldable pub position_in : ℕ → List Row → ℕ
position_in rank [] = 0
position_in rank (x ∷ rest) = cond (ltb x.rank rank) (suc (position_in rank rest)) 0

unfoldable pub insert_at : ℕ → Row → List Row → List Row
insert_at zero new rows = new ∷ rows
insert_at (suc i) new [] = new ∷ []
insert_at (suc i) new (x ∷ rest) = x ∷ insert_at i new rest

-- what the first row has, if it is of this rank
abbrev pub held_if : Bool → Row → Option (ℕ × Bool) → Option (ℕ × Bool)
held_if true x other = Some (x.place, x.is_conflict)
held_if false x other = other

unfoldable pub held_first : ℕ → List Row → Option (ℕ × Bool)
held_first rank [] = None
held_first rank (x ∷ rest) = held_if (eqb x.rank rank) x None

-- what any row has
unfoldable pub held_in : ℕ → List Row → Option (ℕ × Bool)
held_in rank [] = None
held_in rank (x ∷ rest) = held_if (eqb x.rank rank) x (held_in rank rest)

-- a row that is marked as a conflict
unfoldable pub marked_at : ℕ → List Row → List Row
marked_at i [] = []
marked_at zero (x ∷ rest) = row x.rank x.place true ∷ rest
marked_at (suc i) (x ∷ rest) = x ∷ marked_at i rest

-- ---- laws of rising rows

pub rising-least : (least : ℕ) (rows : List Row) → Rising least rows → least ≤ 2 ^ 32
unfolding Rising
rising-least least [] h = h
rising-least least (x ∷ rest) h = let g = rising-least (suc x.rank) rest h.1 in omega (arith, h.0)

pub rising-from : (least other : ℕ) (rows : List Row) → other ≤ least → Rising least rows → Rising other rows
unfolding Rising
rising-from least other [] g h = le_trans g h
rising-from least other (x ∷ rest) g h = (le_trans g h.0, h.1)

-- below the least rank nothing is held
pub held_below : (rank least : ℕ) (rows : List Row) → Rising least rows → rank < least → held_in rank rows ≡ None
unfolding Rising held_in
held_below rank least [] h g = refl
held_below rank least (x ∷ rest) h g =
    simp (ne_eqb x.rank rank (λ e. omega (arith, h.0))) (held_below rank (suc x.rank) rest h.1 (omega (arith, h.0)))

-- a rank is held where it stands
pub held-position : (rank least : ℕ) (rows : List Row) → Rising least rows → held_in rank rows ≡ held_first rank (drop (position_in rank rows) rows)
unfolding Rising held_in held_first position_in
held-position rank least [] h = refl
held-position rank least (x ∷ rest) h =
    cases (ltb x.rank rank)
    (λ t.
    let g = ltb-true x.rank rank t in
    simp (t, ne_eqb x.rank rank (λ e. omega arith)) (held-position rank (suc x.rank) rest h.1))
    (λ f.
    let g = ltb-false x.rank rank f in
    cases (eqb x.rank rank)
    (λ t. simp (f, t))
    (λ n.
    let other = eqb-false x.rank rank n in
    simp (f, n) (held_below rank (suc x.rank) rest h.1 (omega arith))))

pub position-within : (rank : ℕ) (rows : List Row) → position_in rank rows ≤ length rows
unfolding position_in
position-within rank [] = le_refl 0
position-within rank (x ∷ rest) =
    cases (ltb x.rank rank)
    (λ t. simp t (omega (arith, position-within rank rest)))
    (λ f. simp f (omega arith))

rising-at : (least i : ℕ) (rows : List Row) → Rising least rows → i < length rows → least ≤ (get_or rows i no_row).rank
unfolding Rising
rising-at least i [] h g = absurd (not-suc-le-zero g)
rising-at least zero (x ∷ rest) h g = h.0
rising-at least (suc i) (x ∷ rest) h g = let l = rising-at (suc x.rank) i rest h.1 (omega arith) in omega (arith, h.0)

-- a row of a lower rank stands before a rank, any other not
pub position-after : (rank least i : ℕ) (rows : List Row) → Rising least rows → i < length rows → (get_or rows i no_row).rank < rank → i < position_in rank rows
unfolding Rising position_in
position-after rank least i [] h g l = absurd (not-suc-le-zero g)
position-after rank least zero (x ∷ rest) h g l = simp (lt-ltb x.rank rank l) (omega arith)
position-after rank least (suc i) (x ∷ rest) h g l =
    let n : i < length rest = omega arith in
    let low = rising-at (suc x.rank) i rest h.1 n in
    simp (lt-ltb x.rank rank (omega arith)) (omega (arith, position-after rank (suc x.rank) i rest h.1 n l))

pub position-before : (rank i : ℕ) (rows : List Row) → rank ≤ (get_or rows i no_row).rank → i < length rows → position_in rank rows ≤ i
unfolding position_in
position-before rank i [] h g = absurd (not-suc-le-zero g)
position-before rank zero (x ∷ rest) h g = simp (le-ltb x.rank rank h) (le_refl 0)
position-before rank (suc i) (x ∷ rest) h g =
    cases (ltb x.rank rank)
    (λ t. simp t (omega (arith, position-before rank i rest h (omega arith))))
    (λ f. simp f (omega arith))

-- a new row at its place: the rows rise as before, and it is held
module _ (new : Row) where
  pub insert-length : (i : ℕ) (rows : List Row) → length (insert_at i new rows) ≡ suc (length rows)
  unfolding insert_at
  insert-length zero rows = refl
  insert-length (suc i) [] = refl
  insert-length (suc i) (x ∷ rest) = ap suc (insert-length i rest)

  pub insert-rising : (least : ℕ) (rows : List Row) → Rising least rows → least ≤ new.rank → new.rank < 2 ^ 32
      → held_in new.rank rows ≡ None → Rising least (insert_at (position_in new.rank rows) new rows)
  unfolding Rising insert_at position_in held_in
  insert-rising least [] h g l none = (g, l)
  insert-rising least (x ∷ rest) h g l none =
      cases (eqb x.rank new.rank)
      (λ t. let z : ◌≡◌ {A = ℕ} 0 1 = cc (simp t at none) in absurd (omega arith))
      (λ n.
      let other = eqb-false x.rank new.rank n in
      cases (ltb x.rank new.rank)
      (λ t. simp t (h.0, insert-rising (suc x.rank) rest h.1 (ltb-true x.rank new.rank t) l (simp n at none)))
      (λ f. let over = ltb-false x.rank new.rank f in simp f (g, (omega arith, h.1))))

  pub insert-same : (i : ℕ) (rows : List Row) → held_in new.rank rows ≡ None → held_in new.rank (insert_at i new rows) ≡ Some (new.place, new.is_conflict)
  unfolding insert_at held_in
  insert-same zero rows none = simp (eq-eqb new.rank new.rank refl)
  insert-same (suc i) [] none = simp (eq-eqb new.rank new.rank refl)
  insert-same (suc i) (x ∷ rest) none =
      cases (eqb x.rank new.rank)
      (λ t. let z : ◌≡◌ {A = ℕ} 0 1 = cc (simp t at none) in absurd (omega arith))
      (λ n. simp n (insert-same i rest (simp n at none)))

  pub insert-other : (rank i : ℕ) (rows : List Row) → (new.rank ≡ rank → ⊥) → held_in rank (insert_at i new rows) ≡ held_in rank rows
  unfolding insert_at held_in
  insert-other rank zero rows ne = simp (ne_eqb new.rank rank ne)
  insert-other rank (suc i) [] ne = simp (ne_eqb new.rank rank ne)
  insert-other rank (suc i) (x ∷ rest) ne = ap (held_if (eqb x.rank rank) x) (insert-other rank i rest ne)

-- a row that is marked where its rank stands
pub marked-length : (i : ℕ) (rows : List Row) → length (marked_at i rows) ≡ length rows
unfolding marked_at
marked-length i [] = refl
marked-length zero (x ∷ rest) = refl
marked-length (suc i) (x ∷ rest) = ap suc (marked-length i rest)

pub marked-rising : (least i : ℕ) (rows : List Row) → Rising least rows → Rising least (marked_at i rows)
unfolding Rising marked_at
marked-rising least i [] h = h
marked-rising least zero (x ∷ rest) h = h
marked-rising least (suc i) (x ∷ rest) h = (h.0, marked-rising (suc x.rank) i rest h.1)

module _ (rank place : ℕ) (flag : Bool) where
  pub marked-same : (rows : List Row) → held_first rank (drop (position_in rank rows) rows) ≡ Some (place, flag)
      → held_in rank (marked_at (position_in rank rows) rows) ≡ Some (place, true)
  unfolding held_first held_in position_in marked_at
  marked-same [] e = let z : ◌≡◌ {A = ℕ} 0 1 = cc in absurd (omega arith)
  marked-same (x ∷ rest) e =
      cases (ltb x.rank rank)
      (λ t.
      let g = ltb-true x.rank rank t in
      simp (t, ne_eqb x.rank rank (λ q. omega arith)) (marked-same rest (simp t at e)))
      (λ f.
      cases (eqb x.rank rank)
      (λ t.
      let some : ◌≡◌ {A = Option (ℕ × Bool)} (Some (x.place, x.is_conflict)) (Some (place, flag)) = simp (f, t) at e in
      let both : ◌≡◌ {A = ℕ × Bool} (x.place, x.is_conflict) (place, flag) = cc in
      simp (f, t) (ap (λ (n : ℕ × Bool). Some (n.0, true)) both))
      (λ n. let z : ◌≡◌ {A = ℕ} 0 1 = cc (simp (f, n) at e) in absurd (omega arith)))

  pub marked_other : (q : ℕ) (rows : List Row) → (rank ≡ q → ⊥) → held_first rank (drop (position_in rank rows) rows) ≡ Some (place, flag)
      → held_in q (marked_at (position_in rank rows) rows) ≡ held_in q rows
  unfolding held_first held_in position_in marked_at
  marked_other q [] ne e = let z : ◌≡◌ {A = ℕ} 0 1 = cc in absurd (omega arith)
  marked_other q (x ∷ rest) ne e =
      cases (ltb x.rank rank)
      (λ t. simp t (ap (held_if (eqb x.rank q) x) (marked_other q rest ne (simp t at e))))
      (λ f.
      cases (eqb x.rank rank)
      (λ t.
      let same = eqb-true x.rank rank t in
      simp (f, ne_eqb x.rank q (λ z. ne (omega arith))))
      (λ n. let z : ◌≡◌ {A = ℕ} 0 1 = cc (simp (f, n) at e) in absurd (omega arith)))

-- a row that is found is one of the rows
pub found_within : (rank place : ℕ) (flag : Bool) (i : ℕ) (rows : List Row) → Some (place, flag) ≡ held_first rank (drop i rows) → i < length rows
unfolding held_first
found_within rank place flag i rows e =
    cases (ltb i (length rows))
    (λ t. ltb-true i (length rows) t)
    (λ f.
    let none : held_first rank (drop i rows) ≡ None = ap (held_first rank) (drop_of_length-le rows {i = i} (ltb-false i (length rows) f)) in
    let z : ◌≡◌ {A = ℕ} 0 1 = cc in
    absurd (omega arith))

-- ---- a row among others by the list's own operations

pub marked-set : (i : ℕ) (rows : List Row) → i < length rows → set rows i (row (get_or rows i no_row).rank (get_or rows i no_row).place true) ≡ marked_at i rows
unfolding marked_at
marked-set i [] h = absurd (not-suc-le-zero h)
marked-set zero (x ∷ rest) h = refl
marked-set (suc i) (x ∷ rest) h = ap (λ l. x ∷ l) (marked-set i rest (omega arith))

pub insert-is : (i : ℕ) (new : Row) (rows : List Row) → i ≤ length rows → insert rows i new ≡ insert_at i new rows
unfolding insert_at
insert-is zero new rows h = refl
insert-is (suc i) new [] h = absurd (omega arith)
insert-is (suc i) new (x ∷ rest) h = ap (λ l. x ∷ l) (insert-is i new rest (omega arith))

-- a row of a rank stands where the rank does
placed : (rank least i : ℕ) (rows : List Row) → Rising least rows → i < length rows → (get_or rows i no_row).rank ≡ rank
    → (position_in rank rows ≡ i) × (held_first rank (drop i rows) ≡ Some ((get_or rows i no_row).place, (get_or rows i no_row).is_conflict))
unfolding Rising position_in held_first
placed rank least i [] h g e = absurd (not-suc-le-zero g)
placed rank least zero (x ∷ rest) h g e = (simp (le-ltb x.rank rank (omega arith)), simp (eq-eqb x.rank rank e))
placed rank least (suc i) (x ∷ rest) h g e =
    let n : i < length rest = omega arith in
    let low = rising-at (suc x.rank) i rest h.1 n in
    let later = placed rank (suc x.rank) i rest h.1 n e in
    (simp (lt-ltb x.rank rank (omega arith)) (ap suc later.0), later.1)

-- a place between the lower and the higher ranks holds no row of a rank
between : (rank i : ℕ) (rows : List Row) → i ≤ length rows → ((k : ℕ) → k < i → (get_or rows k no_row).rank < rank)
    → ((k : ℕ) → i ≤ k → k < length rows → rank < (get_or rows k no_row).rank)
    → (position_in rank rows ≡ i) × (held_first rank (drop i rows) ≡ None)
unfolding position_in held_first
between rank zero [] h low high = (refl, refl)
between rank (suc i) [] h low high = absurd (omega arith)
between rank zero (x ∷ rest) h low high =
    let over = high 0 (omega arith) (omega arith) in
    (simp (le-ltb x.rank rank (omega arith)), simp (ne_eqb x.rank rank (λ e. omega arith)))
between rank (suc i) (x ∷ rest) h low high =
    let under = low 0 (omega arith) in
    let later = between rank i rest (omega arith) (λ k l. low (suc k) (omega arith)) (λ k a l. high (suc k) (omega arith) (omega arith)) in
    (simp (lt-ltb x.rank rank under) (ap suc later.0), later.1)

-- what a search among rising rows finds: a row of the rank, or its place
module _ (rank : ℕ) (rows : List Row) (rising : Rising 0 rows) where
  rows-rise : (i j : ℕ) → i ≤ j → j < length rows → (get_or rows i no_row).rank ≤ (get_or rows j no_row).rank
  rows-rise i j le lt =
      cases (ltb (get_or rows j no_row).rank (get_or rows i no_row).rank)
      (λ t.
      let under = ltb-true (get_or rows j no_row).rank (get_or rows i no_row).rank t in
      let before = position-after (get_or rows i no_row).rank 0 j rows rising lt under in
      let at = placed (get_or rows i no_row).rank 0 i rows rising (omega arith) refl in
      absurd (omega (arith, at.0)))
      (λ f. ltb-false (get_or rows j no_row).rank (get_or rows i no_row).rank f)

  answers-rise : IsNonDecreasingBy (λ (x : Row). ordering_index (nat_cmp x.rank rank)) rows
  answers-rise = IsNonDecreasingBy-from_default (λ (x : Row). ordering_index (nat_cmp x.rank rank)) rows no_row (λ i j le lt.
      let up = rows-rise i j le lt in
      grind (arith, nat_tests))

  pub search-held : (r : Result ℕ ℕ) → IsSearchInRange r (length rows) → IsBinarySearchResult (λ (x : Row). nat_cmp x.rank rank) rows r
      → MatchResult r
      (λ i. (i < length rows) × (position_in rank rows ≡ i) × (held_first rank (drop i rows) ≡ Some ((get_or rows i no_row).place, (get_or rows i no_row).is_conflict)))
      (λ i. (i ≤ length rows) × (position_in rank rows ≡ i) × (held_first rank (drop i rows) ≡ None))
  search-held (Ok i) range same =
      let at = placed rank 0 i rows rising range (ranked _ rank _ (sym (same no_row))) in
      (range, at.0, at.1)
  search-held (Err i) range parted =
      let at = between rank i rows range
      (λ k lt. ranked _ rank _ (sym ((parted answers-rise).0 k no_row (omega arith) lt)))
      (λ k le lt. ranked _ rank _ (sym ((parted answers-rise).1 k no_row le lt))) in
      (range, at.0, at.1)
