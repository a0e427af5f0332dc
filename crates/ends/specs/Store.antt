-- A store of N cells of 1,024 bytes, number n in cell n mod N: what a write into one cell leaves of the others. Assumes nothing.
use Rattle.std.specs.Prelude.{◌≡◌, refl, ℕ, ◌+◌, ◌-◌, ◌*◌, ◌%◌, ◌≤◌, ◌<◌, ◌≢◌, ◌⊎◌, List, ◌++◌, length, get_or, take, drop}
use Rattle.std.proofs.Common.{sym, ◌∙◌, ap, mod-lt, arith, inl, inr, length-append, length-take, length-drop, take_at, drop_at, get_or-append-add, get_or-take, get_or-drop, length-take-le, ext_get_or}
use Rattle.std.proofs.Math.ListN.{get_or-append}
use Rattle.std.proofs.Math.Decide.{dec_lt}
use Rattle.engine.specs.Sizes.{DATA_BYTES}
use Rattle.engine.specs.Stores.{cell_start, copied}

abbrev get : List ℕ → ℕ → ℕ → List ℕ
get d at n = take n (drop at d)

length-copied : (d : List ℕ) (at : ℕ) (v : List ℕ) → at + length v ≤ length d → length (copied d at v) ≡ length d
length-copied d at v h = simp (length-append, length-take, length-drop) (omega arith)

get-copied-same : (d : List ℕ) (at : ℕ) (v : List ℕ) → at + length v ≤ length d → get (copied d at v) at (length v) ≡ v
get-copied-same d at v h =
    ap (λ (x : List ℕ). take (length v) x) (drop_at (take at d) (v ++ drop (at + length v) d) at (length-take-le at d (omega arith)))
    ∙ take_at v (drop (at + length v) d) (length v) refl

get_d-copied-lt : (d : List ℕ) (at : ℕ) (v : List ℕ) (k : ℕ) → at ≤ length d → k < at → get_or (copied d at v) k 0 ≡ get_or d k 0
get_d-copied-lt d at v k h p =
    get_or-append (take at d) (v ++ drop (at + length v) d) 0 k (rw (length-take-le at d h) p)
    ∙ get_or-take at d k 0 p

get_d-copied-ge : (d : List ℕ) (at : ℕ) (v : List ℕ) (k : ℕ) → at ≤ length d → at + length v ≤ k → get_or (copied d at v) k 0 ≡ get_or d k 0
get_d-copied-ge d at v k h p =
    let m : ℕ = k - (at + length v) in
    let l : length (take at d) ≡ at = length-take-le at d h in
    let e : k ≡ length (take at d) + (length v + m) = omega (arith, l) in
    ap (λ (x : ℕ). get_or (copied d at v) x 0) e
    ∙ get_or-append-add (take at d) (v ++ drop (at + length v) d) (length v + m) 0
    ∙ get_or-append-add v (drop (at + length v) d) m 0
    ∙ get_or-drop (at + length v) d m 0
    ∙ ap (λ (x : ℕ). get_or d x 0) (omega (arith, e, l))

get-copied-other : (d : List ℕ) (at : ℕ) (v : List ℕ) (at2 n : ℕ) → at + length v ≤ length d → (at2 + n ≤ at) ⊎ (at + length v ≤ at2)
    → get (copied d at v) at2 n ≡ get d at2 n
get-copied-other d at v at2 n h side =
    ext_get_or 0 (get (copied d at v) at2 n) (get d at2 n) (simp (length-take, length-drop, length-copied d at v h) refl) (λ i q. each i (bound i q) side)
  where
    bound : (i : ℕ) → i < length (get (copied d at v) at2 n) → i < n
    bound i q = omega (arith, length-take n (drop at2 (copied d at v)))

    each : (i : ℕ) → i < n → (at2 + n ≤ at) ⊎ (at + length v ≤ at2) → get_or (get (copied d at v) at2 n) i 0 ≡ get_or (get d at2 n) i 0
    each i q (inl p) =
        get_or-take n (drop at2 (copied d at v)) i 0 q ∙ get_or-drop at2 (copied d at v) i 0
        ∙ get_d-copied-lt d at v (at2 + i) (omega arith) (omega arith)
        ∙ sym (get_or-take n (drop at2 d) i 0 q ∙ get_or-drop at2 d i 0)
    each i q (inr p) =
        get_or-take n (drop at2 (copied d at v)) i 0 q ∙ get_or-drop at2 (copied d at v) i 0
        ∙ get_d-copied-ge d at v (at2 + i) (omega arith) (omega arith)
        ∙ sym (get_or-take n (drop at2 d) i 0 q ∙ get_or-drop at2 d i 0)

-- ---- cells

-- the first bytes of a number's cell
abbrev pub cell_bytes : ℕ → List ℕ → ℕ → ℕ → List ℕ
cell_bytes N store n len = get store (cell_start N n) len

module _ (N : ℕ) (some : 0 < N) (store : List ℕ) (long : length store ≡ N * DATA_BYTES) (n : ℕ) (bytes : List ℕ) (short : length bytes ≤ DATA_BYTES) where
  inside : cell_start N n + length bytes ≤ length store
  inside = let l = mod-lt n some in omega arith

  -- what was written is there ..
  pub copied-here : cell_bytes N (copied store (cell_start N n) bytes) n (length bytes) ≡ bytes
  copied-here = get-copied-same store (cell_start N n) bytes inside

  -- .. every other cell is as it was ..
  pub copied-there : (m len : ℕ) → len ≤ DATA_BYTES → m % N ≢ n % N → cell_bytes N (copied store (cell_start N n) bytes) m len ≡ cell_bytes N store m len
  copied-there m len fits ne = get-copied-other store (cell_start N n) bytes (cell_start N m) len inside (which (dec_lt (m % N) (n % N)))
    where
      which : Dec (m % N < n % N) → (cell_start N m + len ≤ cell_start N n) ⊎ (cell_start N n + length bytes ≤ cell_start N m)
      which (yes p) = inl (omega arith)
      which (no p) = inr (omega arith)

  -- .. and the store as long
  pub copied-long : length (copied store (cell_start N n) bytes) ≡ N * DATA_BYTES
  copied-long = length-copied store (cell_start N n) bytes inside ∙ long
