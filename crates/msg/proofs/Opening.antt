-- `opensWith` of what is left of a head and of the bytes, as the loops of `opens_with` and `is_pattern` go through both. Assumes nothing.
use mathlib.Core.Path.{◌≡◌, refl, sym, ◌∙◌}
use mathlib.Core.Bool.{true, false, ◌&&◌}
use mathlib.Core.List.{List, [], ◌∷◌}
use Prim.Native.Nat.{ℕ, suc, ◌+◌, ◌≤◌, ◌<◌}
use native.Mathlib.Numerals.{add-one}
use lib.Dec.{eqb}
use Rattle.std.specs.List.{starts_with}
use lib.ListN.{length, drop, get_or, drop_of_length-le}
use lib.Seq.{drop-cons}
use borrow.Author.Tests.{eq-eqb, ne_eqb}
use Rattle.std.proofs.Common.{eqb-true}
use Rattle.refusal.specs.Tests.{same_test, and-eq}
use Rattle.msg.specs.Reading.{opens_with}

module _ (head bytes : List ℕ) (i : ℕ) where
  -- the head is at its end
  pub opens-end : length head ≤ i → opens_with (drop i head) (drop i bytes) ≡ true
  unfolding opens_with
  opens-end h = simp (drop_of_length-le head h)

  -- the bytes end first
  pub opens-short : i < length head → length bytes ≤ i → opens_with (drop i head) (drop i bytes) ≡ false
  unfolding opens_with
  opens-short h g = simp (drop-cons head i 0 h, drop_of_length-le bytes g)

  step : i < length head → i < length bytes → opens_with (drop i head) (drop i bytes) ≡ (eqb (get_or bytes i 0) (get_or head i 0) && opens_with (drop (suc i) head) (drop (suc i) bytes))
  unfolding opens_with
  step h g = simp (drop-cons head i 0 h, drop-cons bytes i 0 g)

  -- two bytes that differ
  pub opens-other : i < length head → i < length bytes → (get_or bytes i 0 ≡ get_or head i 0 → ⊥) → opens_with (drop i head) (drop i bytes) ≡ false
  opens-other h g n = step h g ∙ simp (ne_eqb _ _ n)

  -- two that are the same
  pub opens-same : i < length head → i < length bytes → get_or bytes i 0 ≡ get_or head i 0 → opens_with (drop (i + 1) head) (drop (i + 1) bytes) ≡ opens_with (drop i head) (drop i bytes)
  opens-same h g e = simp (add-one, step h g, eq-eqb _ _ e)

eqb-turned : (x y : ℕ) → eqb x y ≡ eqb y x
eqb-turned x y = same_test (eqb x y) (eqb y x) (λ t. eq-eqb y x (sym (eqb-true x y t))) (λ t. eq-eqb x y (sym (eqb-true y x t)))

-- std's test of a head
pub starts_opens : (head bytes : List ℕ) → starts_with eqb bytes head ≡ opens_with head bytes
unfolding opens_with
starts_opens [] bytes = refl
starts_opens (x ∷ head) [] = refl
starts_opens (x ∷ head) (y ∷ bytes) = and-eq (eqb-turned x y) (starts_opens head bytes)
