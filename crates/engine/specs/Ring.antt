-- A table of N cells that is gone round: number n is in cell n mod N. The packet table and the receive table are such. Assumes
-- nothing.
use Rattle.std.specs.Prelude.{◌≡◌, ℕ, zero, suc, ◌+◌, ◌-◌, ◌%◌, ◌<◌, ◌≤◌, cond, List, [], ◌∷◌, ◌++◌, map, length, get_or, drop, set, replicate, ◌≢◌, nat_lt, slice_index_or, slice_set}
use Rattle.std.proofs.Math.Path.{refl, sym, ap}
use Rattle.std.proofs.Common.{ap₂, ◌∙◌, not-suc-le-zero, mod-lt, mod-eq_of_lt}
use Rattle.std.proofs.Math.Nat.{mod_self, mod-add-mod, add-mod_right, mod-eq-sub-mod}
use native.Mathlib.Omega.{arith}
use borrow.Table.Steps.{cases}
use borrow.Author.Tests.{ltb-true, ltb-false}
use Rattle.std.proofs.Math.ListN.{length-set}
use Rattle.std.proofs.Math.Seq.{get_or-set_same, get_or-set_other}

-- the cell after another, going round
unfoldable pub next_cell : ℕ → ℕ → ℕ
next_cell N at = cond (nat_lt (at + 1) N) (at + 1) 0

-- the contents of n of N cells from the cell `at` on, going round (d is what an index past the table would read)
unfoldable pub window : {A : Type 0} → ℕ → A → List A → ℕ → ℕ → List A
unfolding next_cell
window N d cells at zero = []
window N d cells at (suc n) = slice_index_or cells at d ∷ window N d cells (next_cell N at) n

-- the cells from `at` on, going round, with the elements of a list in them; every other cell as it was
unfoldable pub refilled : {A : Type 0} → ℕ → List A → ℕ → List A → List A
unfolding next_cell
refilled N cells at [] = cells
refilled N cells at (x ∷ xs) = refilled N (slice_set cells at x) (next_cell N at) xs

-- ---- laws: going round

-- a sum of two that are below N, taken by N: as it is, or less N
folded : {X : Type 0} (N a k : ℕ) → a < N → k < N → ((a + k) % N ≡ a + k → a + k < N → X) → ((a + k) % N ≡ a + k - N → N ≤ a + k → X) → X
folded N a k ha hk f g =
    cases (nat_lt (a + k) N)
    (λ t. f (mod-eq_of_lt (ltb-true (a + k) N t)) (ltb-true (a + k) N t))
    (λ t.
    let h : N ≤ a + k = omega (arith, ltb-false (a + k) N t) in
    let l : a + k - N < N = omega arith in
    g (mod-eq-sub-mod h ∙ mod-eq_of_lt l) h)

-- two numbers less than N past a that share a cell are one
folded-apart : (N a j k : ℕ) → a < N → j < N → k < N → (a + j) % N ≡ (a + k) % N → j ≡ k
folded-apart N a j k ha hj hk e =
    folded N a j ha hj
    (λ p u. folded N a k ha hk (λ q w. omega arith) (λ q w. omega arith))
    (λ p u. folded N a k ha hk (λ q w. omega arith) (λ q w. omega arith))

module _ (N : ℕ) where
  pub cells-apart : (o j k : ℕ) → j < N → k < N → (o + j) % N ≡ (o + k) % N → j ≡ k
  cells-apart o j k hj hk e =
      let some : 0 < N = omega arith in
      folded-apart N (o % N) j k (mod-lt o some) hj hk (mod-add-mod o N j ∙ e ∙ sym (mod-add-mod o N k))

  pub next-cell-lt : (at : ℕ) → 0 < N → next_cell N at < N
  unfolding next_cell
  next-cell-lt at h = cases (nat_lt (at + 1) N) (λ t. simp t (ltb-true (at + 1) N t)) (λ t. simp t h)

  pub next-mod : (at : ℕ) → at < N → next_cell N at ≡ (at + 1) % N
  unfolding next_cell
  next-mod at h =
      cases (nat_lt (at + 1) N) (λ t. simp t (sym (mod-eq_of_lt (ltb-true (at + 1) N t))))
      (λ t.
      let e : at + 1 ≡ N = omega (arith, ltb-false (at + 1) N t) in
      simp t (sym (ap (λ m. m % N) e ∙ mod_self N)))

  -- k cells past the next is k + 1 past this
  pub past_next : (at k : ℕ) → at < N → (next_cell N at + k) % N ≡ (at + suc k) % N
  past_next at k h =
      let e : at + 1 + k ≡ at + suc k = omega arith in
      ap (λ m. (m + k) % N) (next-mod at h) ∙ mod-add-mod (at + 1) N k ∙ ap (λ m. m % N) e

  -- none past this is this
  here : (at : ℕ) → at < N → (at + 0) % N ≡ at
  here at h =
      let e : at + 0 ≡ at = omega arith in
      ap (λ m. m % N) e ∙ mod-eq_of_lt h

  -- another cell, less than N past this, is not this
  elsewhere : (at m : ℕ) → at < N → suc m < N → at ≢ (at + suc m) % N
  elsewhere at m h g e =
      let z : 0 ≡ suc m = cells-apart at 0 (suc m) (omega arith) g (here at h ∙ e) in
      omega arith

  -- the last cell is the one before this, where the next is the first
  pub last-cell : (at : ℕ) → at < N → (next_cell N at + (N - 1)) % N ≡ at
  last-cell at h =
      let e : at + suc (N - 1) ≡ at + N = omega arith in
      past_next at (N - 1) h ∙ ap (λ m. m % N) e ∙ add-mod_right at N ∙ mod-eq_of_lt h

-- ---- laws: what is seen through a window

module _ {A : Type 0} (N : ℕ) (d : A) (cells : List A) where
  -- one cell more: what a loop over the window takes in a turn
  pub window-step : (at n : ℕ) → 0 < n → window N d cells at n ≡ slice_index_or cells at d ∷ window N d cells (next_cell N at) (n - 1)
  unfolding window
  window-step at zero h = absurd (not-suc-le-zero h)
  window-step at (suc n) h =
      let e : n ≡ suc n - 1 = omega arith in
      ap (λ m. slice_index_or cells at d ∷ window N d cells (next_cell N at) m) e

  pub window-none : (at n : ℕ) → n ≤ 0 → window N d cells at n ≡ []
  unfolding window
  window-none at zero h = refl
  window-none at (suc n) h = absurd (not-suc-le-zero h)

  pub window-length : (at n : ℕ) → length (window N d cells at n) ≡ n
  unfolding window
  window-length at zero = refl
  window-length at (suc n) = ap suc (window-length (next_cell N at) n)

  -- the place i of the window is the cell i past its start
  pub window-at : (at n i : ℕ) → at < N → i < n → slice_index_or (window N d cells at n) i d ≡ slice_index_or cells ((at + i) % N) d
  unfolding window
  window-at at zero i h g = absurd (omega arith)
  window-at at (suc n) zero h g = ap (λ k. get_or cells k d) (sym (here N at h))
  window-at at (suc n) (suc i) h g = window-at (next_cell N at) n i (next-cell-lt N at (omega arith)) (omega arith) ∙ ap (λ k. get_or cells k d) (past_next N at i h)

  -- a cell outside the window is changed
  pub window-set-out : (at n m : ℕ) (x : A) → at < N → n ≤ m → m < N → window N d (slice_set cells ((at + m) % N) x) at n ≡ window N d cells at n
  unfolding window
  window-set-out at zero m x h g l = refl
  window-set-out at (suc n) zero x h g l = absurd (omega arith)
  window-set-out at (suc n) (suc m) x h g l =
      let head : get_or (slice_set cells ((at + suc m) % N) x) at d ≡ get_or cells at d = get_or-set_other cells ((at + suc m) % N) at x d (elsewhere N at m h l) in
      let tail : window N d (slice_set cells ((at + suc m) % N) x) (next_cell N at) n ≡ window N d cells (next_cell N at) n =
      ap (λ k. window N d (slice_set cells k x) (next_cell N at) n) (sym (past_next N at m h))
      ∙ window-set-out (next_cell N at) n m x (next-cell-lt N at (omega arith)) (omega arith) (omega arith) in
      simp (head, tail)

  -- a cell inside it is changed
  pub window-set-in : (at n m : ℕ) (x : A) → at < N → length cells ≡ N → m < n → n ≤ N
      → window N d (slice_set cells ((at + m) % N) x) at n ≡ slice_set (window N d cells at n) m x
  unfolding window
  window-set-in at zero m x h c g l = absurd (omega arith)
  window-set-in at (suc n) zero x h c g l =
      let head : get_or (slice_set cells at x) at d ≡ x = get_or-set_same cells at x d (omega arith) in
      let tail : window N d (slice_set cells at x) (next_cell N at) n ≡ window N d cells (next_cell N at) n =
      ap (λ k. window N d (slice_set cells k x) (next_cell N at) n) (sym (last-cell N at h))
      ∙ window-set-out (next_cell N at) n (N - 1) x (next-cell-lt N at (omega arith)) (omega arith) (omega arith) in
      ap (λ k. window N d (slice_set cells k x) at (suc n)) (here N at h) ∙ ap₂ (λ y ys. y ∷ ys) head tail
  window-set-in at (suc n) (suc m) x h c g l =
      let head : get_or (slice_set cells ((at + suc m) % N) x) at d ≡ get_or cells at d = get_or-set_other cells ((at + suc m) % N) at x d (elsewhere N at m h (omega arith)) in
      let tail : window N d (slice_set cells ((at + suc m) % N) x) (next_cell N at) n ≡ set (window N d cells (next_cell N at) n) m x =
      ap (λ k. window N d (slice_set cells k x) (next_cell N at) n) (sym (past_next N at m h))
      ∙ window-set-in (next_cell N at) n m x (next-cell-lt N at (omega arith)) c (omega arith) (omega arith) in
      simp (head, tail)

  -- one cell more at the end
  pub window-snoc : (at n : ℕ) (x : A) → at < N → length cells ≡ N → n < N
      → window N d (slice_set cells ((at + n) % N) x) at (suc n) ≡ window N d cells at n ++ (x ∷ [])
  unfolding window
  window-snoc at zero x h c l = simp (here N at h, get_or-set_same cells at x d (omega arith))
  window-snoc at (suc n) x h c l =
      let head : get_or (slice_set cells ((at + suc n) % N) x) at d ≡ get_or cells at d = get_or-set_other cells ((at + suc n) % N) at x d (elsewhere N at n h l) in
      let tail : window N d (slice_set cells ((at + suc n) % N) x) (next_cell N at) (suc n) ≡ window N d cells (next_cell N at) n ++ (x ∷ []) =
      ap (λ k. window N d (slice_set cells k x) (next_cell N at) (suc n)) (sym (past_next N at n h))
      ∙ window-snoc (next_cell N at) n x (next-cell-lt N at (omega arith)) c (omega arith) in
      ap (λ (y : A). y ∷ window N d (slice_set cells ((at + suc n) % N) x) (next_cell N at) (suc n)) head
      ∙ ap (λ (l : List A). slice_index_or cells at d ∷ l) tail

  -- the first k are dropped
  pub window-drop : (at n k : ℕ) → at < N → k ≤ n → drop k (window N d cells at n) ≡ window N d cells ((at + k) % N) (n - k)
  unfolding window
  window-drop at n zero h g =
      let f : n ≡ n - 0 = omega arith in
      ap (λ a. window N d cells a n) (sym (here N at h)) ∙ ap (window N d cells ((at + 0) % N)) f
  window-drop at zero (suc k) h g = absurd (omega arith)
  window-drop at (suc n) (suc k) h g =
      let f : n - k ≡ suc n - suc k = omega arith in
      window-drop (next_cell N at) n k (next-cell-lt N at (omega arith)) (omega arith)
      ∙ ap (λ a. window N d cells a (n - k)) (past_next N at k h)
      ∙ ap (window N d cells ((at + suc k) % N)) f

-- ---- laws: what is refilled

module _ {A : Type 0} (N : ℕ) (d : A) where
  pub refill-length : (cells : List A) (at : ℕ) (xs : List A) → length (refilled N cells at xs) ≡ length cells
  unfolding refilled
  refill-length cells at [] = refl
  refill-length cells at (x ∷ xs) = refill-length (slice_set cells at x) (next_cell N at) xs ∙ length-set cells at x

  -- so many cells with one content, one cell less: what a loop over them does in a turn
  pub refill-step : (cells : List A) (at n : ℕ) (x : A) → 0 < n
      → refilled N cells at (replicate n x) ≡ refilled N (slice_set cells at x) (next_cell N at) (replicate (n - 1) x)
  unfolding refilled
  refill-step cells at zero x h = absurd (not-suc-le-zero h)
  refill-step cells at (suc n) x h =
      let e : n ≡ suc n - 1 = omega arith in
      ap (λ m. refilled N (slice_set cells at x) (next_cell N at) (replicate m x)) e

  pub refill-none : (cells : List A) (at n : ℕ) (x : A) → n ≤ 0 → refilled N cells at (replicate n x) ≡ cells
  unfolding refilled
  refill-none cells at zero x h = refl
  refill-none cells at (suc n) x h = absurd (not-suc-le-zero h)

  -- a cell past the list's is as it was
  pub refill-out : (cells : List A) (at m : ℕ) (xs : List A) → at < N → length xs ≤ m → m < N
      → slice_index_or (refilled N cells at xs) ((at + m) % N) d ≡ slice_index_or cells ((at + m) % N) d
  unfolding refilled
  refill-out cells at m [] h g l = refl
  refill-out cells at zero (x ∷ xs) h g l = absurd (omega arith)
  refill-out cells at (suc m) (x ∷ xs) h g l =
      ap (λ k. get_or (refilled N (slice_set cells at x) (next_cell N at) xs) k d) (sym (past_next N at m h))
      ∙ refill-out (slice_set cells at x) (next_cell N at) m xs (next-cell-lt N at (omega arith)) (omega arith) (omega arith)
      ∙ ap (λ k. get_or (slice_set cells at x) k d) (past_next N at m h)
      ∙ get_or-set_other cells at ((at + suc m) % N) x d (λ e. elsewhere N at m h l (sym e))

  -- what was filled in is seen
  pub refill-window : (cells : List A) (at : ℕ) (xs : List A) → at < N → length cells ≡ N → length xs ≤ N
      → window N d (refilled N cells at xs) at (length xs) ≡ xs
  unfolding refilled window
  refill-window cells at [] h c l = refl
  refill-window cells at (x ∷ xs) h c l =
      let after = refilled N (slice_set cells at x) (next_cell N at) xs in
      let head : get_or after at d ≡ x =
      ap (λ k. get_or after k d) (sym (last-cell N at h))
      ∙ refill-out (slice_set cells at x) (next_cell N at) (N - 1) xs (next-cell-lt N at (omega arith)) (omega arith) (omega arith)
      ∙ ap (λ k. get_or (slice_set cells at x) k d) (last-cell N at h)
      ∙ get_or-set_same cells at x d (omega arith) in
      let tail : window N d after (next_cell N at) (length xs) ≡ xs =
      refill-window (slice_set cells at x) (next_cell N at) xs (next-cell-lt N at (omega arith)) (length-set cells at x ∙ c) (omega arith) in
      simp (head, tail)

-- each of n cells from `at` on is changed in its place: what a loop over them does in a turn
module _ {A : Type 0} (N : ℕ) (d : A) (f : A → A) where
  pub change-step : (cells : List A) (at n : ℕ) → at < N → 0 < n → n ≤ N
      → refilled N cells at (map f (window N d cells at n))
      ≡ refilled N (slice_set cells at (f (slice_index_or cells at d))) (next_cell N at) (map f (window N d (slice_set cells at (f (slice_index_or cells at d))) (next_cell N at) (n - 1)))
  unfolding refilled
  change-step cells at n h g l =
      let new = set cells at (f (slice_index_or cells at d)) in
      let rest : window N d cells (next_cell N at) (n - 1) ≡ window N d new (next_cell N at) (n - 1) =
      sym (ap (λ k. window N d (slice_set cells k (f (slice_index_or cells at d))) (next_cell N at) (n - 1)) (sym (last-cell N at h))
      ∙ window-set-out N d cells (next_cell N at) (n - 1) (N - 1) (f (slice_index_or cells at d)) (next-cell-lt N at (omega arith)) (omega arith) (omega arith)) in
      ap (λ ps. refilled N cells at (map f ps)) (window-step N d cells at n g)
      ∙ ap (λ ps. refilled N new (next_cell N at) (map f ps)) rest

  pub change-none : (cells : List A) (at n : ℕ) → n ≤ 0 → refilled N cells at (map f (window N d cells at n)) ≡ cells
  unfolding refilled
  change-none cells at n h = ap (λ ps. refilled N cells at (map f ps)) (window-none N d cells at n h)
