-- Facts about the start of a tile. Assumes nothing.
use Rattle.std.specs.Prelude.{◌≡◌, refl, true, false, List, [], ◌∷◌, ◌++◌, ℕ, zero, suc, ◌+◌, ◌-◌, ◌/◌, ◌%◌, ◌≤◌, ◌<◌, length, get_or, take, drop, replicate, eqb, ltb}
use Rattle.std.proofs.Common.{sym, ◌∙◌, arith, length-append, take-append-drop, ltb-true, ltb-false, eqb-true, eq-eqb}
use Rattle.std.proofs.Math.Path.{ap}
use Rattle.std.proofs.lemmas.List.{length-replicate, replicate-append-replicate, get_or_at}
use Rattle.std.proofs.Math.ListN.{get_or-append}
use Rattle.std.proofs.Math.Seq.{drop-append_seam}
use borrow.Table.Steps.{cases}
use Rattle.tiles.specs.Tiles.{tile_length, tile_byte, tile_start, tile, tile_padded, same_bytes, is_tile}

pub start-length : (shade n k : ℕ) → length (tile_start shade n k) ≡ k
unfolding tile_start
start-length shade n zero = refl
start-length shade n (suc k) = length-append (tile_start shade n k) (tile_byte shade n k ∷ []) ∙ omega (arith, start-length shade n k)

pub start-next : (shade n k : ℕ) → tile_start shade n (suc k) ≡ tile_start shade n k ++ (tile_byte shade n k ∷ [])
unfolding tile_start
start-next shade n k = refl

-- a byte that was put there stays
pub start-at : (shade n i k : ℕ) → i < k → get_or (tile_start shade n k) i 0 ≡ tile_byte shade n i
start-at shade n i zero h = absurd (omega (arith, h))
start-at shade n i (suc k) h =
    cases (ltb i k)
    (λ t. let under = ltb-true i k t in
    ap (λ (l : List ℕ). get_or l i 0) (start-next shade n k)
    ∙ get_or-append (tile_start shade n k) (tile_byte shade n k ∷ []) 0 i (rw (sym (start-length shade n k)) at under)
    ∙ start-at shade n i k under)
    (λ t. let last : i ≡ k = omega (arith, h, ltb-false i k t) in
    ap (λ (l : List ℕ). get_or l i 0) (start-next shade n k)
    ∙ get_or_at (tile_start shade n k) (tile_byte shade n k) [] 0 i (start-length shade n k ∙ sym last)
    ∙ ap (tile_byte shade n) (sym last))

pub length-range : (n : ℕ) → (3 ≤ tile_length n) × (tile_length n ≤ 1024)
unfolding tile_length
length-range n = (omega arith, omega arith)

pub tile-length : (shade n : ℕ) → length (tile shade n) ≡ tile_length n
unfolding tile
tile-length shade n = start-length shade n (tile_length n)

pub tile-at : (shade n i : ℕ) → i < tile_length n → get_or (tile shade n) i 0 ≡ tile_byte shade n i
unfolding tile
tile-at shade n i h = start-at shade n i (tile_length n) h

after : (x k n : ℕ) → k ≤ n → drop k (replicate n x) ≡ replicate (n - k) x
after x k n h =
    let all : k + (n - k) ≡ n = omega arith in
    ap (λ m. drop k (replicate m x)) (sym all)
    ∙ ap (drop k) (sym (replicate-append-replicate k (n - k) x))
    ∙ ap (λ m. drop m (replicate k x ++ replicate (n - k) x)) (sym (length-replicate k x))
    ∙ drop-append_seam (replicate k x) (replicate (n - k) x)

-- a tile at the start of 1,024 zeros
pub padded-is : (shade n : ℕ) (out : List ℕ) → take (tile_length n) out ≡ tile shade n → drop (tile_length n) out ≡ drop (tile_length n) (replicate 1024 0) → out ≡ tile_padded shade n
unfolding tile_padded
padded-is shade n out start rest =
    sym (take-append-drop (tile_length n) out)
    ∙ ap (λ l. l ++ drop (tile_length n) out) start
    ∙ ap (λ l. tile shade n ++ l) (rest ∙ after 0 (tile_length n) 1024 (length-range n).1)

same_self : (xs : List ℕ) → same_bytes xs xs ≡ true
unfolding same_bytes
same_self [] = refl
same_self (x ∷ xs) = simp (eq-eqb x x refl, same_self xs)

same-is : (xs ys : List ℕ) → same_bytes xs ys ≡ true → xs ≡ ys
unfolding same_bytes
same-is [] [] e = refl
same-is [] (y ∷ ys) e = let z : ◌≡◌ {A = ℕ} 0 1 = cc in absurd (omega arith)
same-is (x ∷ xs) [] e = let z : ◌≡◌ {A = ℕ} 0 1 = cc in absurd (omega arith)
same-is (x ∷ xs) (y ∷ ys) e =
    cases (eqb x y)
    (λ t. ap (λ b. b ∷ xs) (eqb-true x y t) ∙ ap (λ l. y ∷ l) (same-is xs ys (simp t at e)))
    (λ f. let z : ◌≡◌ {A = ℕ} 0 1 = cc (simp f at e) in absurd (omega arith))

module _ (shade n : ℕ) (bytes : List ℕ) where
  -- what the verdict means: these bytes are the tile
  pub tile-told : is_tile shade n bytes ≡ true → bytes ≡ tile shade n
  unfolding is_tile
  tile-told e = same-is bytes (tile shade n) e

  pub tile-is : bytes ≡ tile shade n → is_tile shade n bytes ≡ true
  unfolding is_tile
  tile-is e = ap (λ l. same_bytes l (tile shade n)) e ∙ same_self (tile shade n)

  pub no_tile : (bytes ≡ tile shade n → ⊥) → is_tile shade n bytes ≡ false
  no_tile other = cases (is_tile shade n bytes) (λ t. absurd (other (tile-told t))) (λ f. f)

-- no two tiles have the same bytes, whatever their shades
pub tile-own : (shade other n m : ℕ) → n < 65536 → m < 65536 → tile shade n ≡ tile other m → n ≡ m
unfolding tile_byte
tile-own shade other n m small_n small-m same =
    let high : n / 256 % 256 ≡ m / 256 % 256 = sym (tile-at shade n 1 (omega (arith, (length-range n).0))) ∙ ap (λ (l : List ℕ). get_or l 1 0) same ∙ tile-at other m 1 (omega (arith, (length-range m).0)) in
    let low : n % 256 ≡ m % 256 = sym (tile-at shade n 2 (omega (arith, (length-range n).0))) ∙ ap (λ (l : List ℕ). get_or l 2 0) same ∙ tile-at other m 2 (omega (arith, (length-range m).0)) in
    omega (arith, small_n, small-m, high, low)
