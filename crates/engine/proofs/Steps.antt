-- Steps taken at each cell of a window: what a loop over them does in a turn, and what they come to. Assumes nothing.
use Rattle.std.proofs.Common.{◌≡◌, ℕ, ◌-◌, ◌<◌, ◌≤◌, List, [], ◌∷◌, map, slice_index_or, slice_set, refl, sym, ap, ap₂, ◌∙◌, arith}
use Rattle.std.specs.List.{AllZip}
use Rattle.engine.specs.Ring.{window, next_cell, next-cell-lt, last-cell, window-step, window-none, window-set-out}

module _ {A : Type 0} (N : ℕ) (d : A) (R : A → A → Type 0) (cells : List A) where
  -- a step at the first cell, and then at those that are left
  pub zip-turn : (at n : ℕ) (q : A) (qs : List A) → at < N → 0 < n → n ≤ N → R (slice_index_or cells at d) q
      → AllZip R (window N d (slice_set cells at q) (next_cell N at) (n - 1)) qs → AllZip R (window N d cells at n) (q ∷ qs)
  zip-turn at n q qs h g l r z =
      let rest : window N d (slice_set cells at q) (next_cell N at) (n - 1) ≡ window N d cells (next_cell N at) (n - 1) =
      ap (λ k. window N d (slice_set cells k q) (next_cell N at) (n - 1)) (sym (last-cell N at h))
      ∙ window-set-out N d cells (next_cell N at) (n - 1) (N - 1) q (next-cell-lt N at (omega arith)) (omega arith) (omega arith) in
      rw (window-step N d cells at n g) (r, rw rest at z)

  pub zip-none : (at n : ℕ) → n ≤ 0 → AllZip R (window N d cells at n) []
  zip-none at n h = rw (window-none N d cells at n h) tt

-- steps that give what a function gives come to that function
pub zip-map : {A B : Type 0} (R : A → B → Type 0) (f : A → B) → ((x : A) (y : B) → R x y → y ≡ f x) → (xs : List A) (ys : List B) → AllZip R xs ys → ys ≡ map f xs
zip-map R f gives [] [] z = refl
zip-map R f gives [] (y ∷ ys) z = absurd z
zip-map R f gives (x ∷ xs) [] z = absurd z
zip-map R f gives (x ∷ xs) (y ∷ ys) z = ap₂ (λ a b. a ∷ b) (gives x y z.0) (zip-map R f gives xs ys z.1)
