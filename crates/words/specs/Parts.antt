-- Words by their places: a part of a list of words, what writing over a part leaves of the others, and lists with an entry for each number.
-- Assumes nothing.
use Rattle.std.specs.Prelude.{◌≡◌, refl, ◌⊎◌, List, [], ◌∷◌, ◌++◌, map, ℕ, zero, suc, ◌+◌, ◌-◌, ◌≤◌, ◌<◌, length, get_or, set, take, drop}
use Rattle.std.proofs.Common.{sym, ap, ◌∙◌, inl, inr, append_assoc, arith, length-drop, length-append, take-append-drop, length-take-le, drop_at, drop-drop, get_or-take, get_or-drop}
use Rattle.std.proofs.lemmas.List.{take-append-le, drop-append-le, set_split}
use Rattle.std.proofs.Math.Seq.{drop-append-add, take-append_seam}
use Rattle.engine.specs.Stores.{copied}

-- n words from the place a on
abbrev pub part : ℕ → ℕ → List ℕ → List ℕ
part a n w = take n (drop a w)

pub part_length : (a n : ℕ) (w : List ℕ) → a + n ≤ length w → length (part a n w) ≡ n
part_length a n w h = length-take-le n (drop a w) (rw length-drop (omega arith))

pub part_at : (a n i : ℕ) (w : List ℕ) → i < n → get_or (part a n w) i 0 ≡ get_or w (a + i) 0
part_at a n i w h = get_or-take n (drop a w) i 0 h ∙ get_or-drop a w i 0

-- a part that lies wholly in the first of two lists
front : (b m : ℕ) (xs ys : List ℕ) → b + m ≤ length xs → part b m (xs ++ ys) ≡ part b m xs
front b m xs ys h =
    let fits : m ≤ length (drop b xs) = rw length-drop (omega arith) in
    ap (take m) (drop-append-le b xs ys (omega arith)) ∙ take-append-le m (drop b xs) ys fits

-- ---- words written over a part

module _ (w vs : List ℕ) (a : ℕ) (fits : a + length vs ≤ length w) where
  first : length (take a w) ≡ a
  first = length-take-le a w (omega arith)

  pub copied-length : length (copied w a vs) ≡ length w
  copied-length = simp (length-append, length-drop, first) (omega arith)

  -- the part itself
  pub part_in : part a (length vs) (copied w a vs) ≡ vs
  part_in = ap (take (length vs)) (drop_at (take a w) (vs ++ drop (a + length vs) w) a first) ∙ take-append_seam vs (drop (a + length vs) w)

  -- one before it, and one after it
  part-before : (b m : ℕ) → b + m ≤ a → part b m (copied w a vs) ≡ part b m w
  part-before b m h =
      front b m (take a w) (vs ++ drop (a + length vs) w) (omega (arith, first))
      ∙ sym (front b m (take a w) (drop a w) (omega (arith, first)))
      ∙ ap (part b m) (take-append-drop a w)

  part-after : (b m : ℕ) → a + length vs ≤ b → part b m (copied w a vs) ≡ part b m w
  part-after b m h =
      let long : length (take a w ++ vs) + (b - (a + length vs)) ≡ b = rw length-append (omega (arith, first)) in
      let back : a + length vs + (b - (a + length vs)) ≡ b = omega arith in
      ap (λ (l : List ℕ). part b m l) (sym (append_assoc (take a w) vs (drop (a + length vs) w)))
      ∙ ap (λ n. take m (drop n ((take a w ++ vs) ++ drop (a + length vs) w))) (sym long)
      ∙ ap (take m) (drop-append-add (take a w ++ vs) (drop (a + length vs) w) (b - (a + length vs)) ∙ drop-drop (b - (a + length vs)) (a + length vs) w ∙ ap (λ n. drop n w) back)

  pub part_out : (b m : ℕ) → (b + m ≤ a) ⊎ (a + length vs ≤ b) → part b m (copied w a vs) ≡ part b m w
  part_out b m (inl h) = part-before b m h
  part_out b m (inr h) = part-after b m h

-- what is left where a part of n words was lent on, and came back as vs
pub lent-part : (w vs : List ℕ) (a n : ℕ) → length vs ≡ n → take a w ++ (vs ++ drop (a + n - a) (drop a w)) ≡ copied w a vs
lent-part w vs a n e =
    let k : a + n - a ≡ length vs = omega arith in
    ap (λ m. take a w ++ (vs ++ drop m (drop a w))) k ∙ ap (λ (l : List ℕ). take a w ++ (vs ++ l)) (drop-drop (length vs) a w)

-- one word is written
pub one_word : (w : List ℕ) (i v : ℕ) → i < length w → set w i v ≡ copied w i (v ∷ [])
one_word w i v h = let e : suc i ≡ i + 1 = omega arith in set_split w i v h ∙ ap (λ n. take i w ++ v ∷ drop n w) e

-- ---- a list with an entry for each number

abbrev pub count_from : ℕ → ℕ → List ℕ
count_from zero at = []
count_from (suc n) at = at ∷ count_from n (suc at)

-- n entries
abbrev pub entries : {X : Type 0} → ℕ → (ℕ → X) → List X
entries n F = map F (count_from n 0)

module _ {X : Type 0} (F : ℕ → X) where
  length_from : (n start : ℕ) → length (map F (count_from n start)) ≡ n
  length_from zero start = refl
  length_from (suc n) start = ap suc (length_from n (suc start))

  pub entries-length : (n : ℕ) → length (entries n F) ≡ n
  entries-length n = length_from n 0

  entry-from : (n start i : ℕ) (d : X) → i < n → get_or (map F (count_from n start)) i d ≡ F (start + i)
  entry-from zero start i d h = absurd (omega arith)
  entry-from (suc n) start zero d h = let e : start ≡ start + 0 = omega arith in ap F e
  entry-from (suc n) start (suc i) d h = let e : suc start + i ≡ start + suc i = omega arith in entry-from n (suc start) i d (omega arith) ∙ ap F e

  pub entry_at : (n i : ℕ) (d : X) → i < n → get_or (entries n F) i d ≡ F i
  entry_at n i d h = let e : 0 + i ≡ i = omega arith in entry-from n 0 i d h ∙ ap F e

module _ {X : Type 0} (F G : ℕ → X) where
  same_from : (n start : ℕ) → ((k : ℕ) → start ≤ k → k < start + n → G k ≡ F k) → map G (count_from n start) ≡ map F (count_from n start)
  same_from zero start h = refl
  same_from (suc n) start h = λ t. h start (omega arith) (omega arith) t ∷ same_from n (suc start) (λ k l r. h k (omega arith) (omega arith)) t

  -- entries that are the same, one by one
  pub same_entries : (n : ℕ) → ((k : ℕ) → k < n → G k ≡ F k) → entries n G ≡ entries n F
  same_entries n h = same_from n 0 (λ k l r. h k (omega arith))

  put-from : (n start i : ℕ) (y : X) → i < n → ((k : ℕ) → start ≤ k → k < start + n → (k ≡ start + i → ⊥) → G k ≡ F k) → G (start + i) ≡ y
      → map G (count_from n start) ≡ set (map F (count_from n start)) i y
  put-from zero start i y lt h e = absurd (omega arith)
  put-from (suc n) start zero y lt h e =
      let z : start ≡ start + 0 = omega arith in
      λ t. (ap G z ∙ e) t ∷ same_from n (suc start) (λ k l r. h k (omega arith) (omega arith) (λ q. omega arith)) t
  put-from (suc n) start (suc i) y lt h e =
      let z : suc start + i ≡ start + suc i = omega arith in
      λ t. h start (omega arith) (omega arith) (λ q. omega arith) t ∷ put-from n (suc start) i y (omega arith) (λ k l r ne. h k (omega arith) (omega arith) (λ q. ne (omega arith))) (ap G z ∙ e) t

  -- .. but for one
  pub put-entry : (n i : ℕ) (y : X) → i < n → ((k : ℕ) → k < n → (k ≡ i → ⊥) → G k ≡ F k) → G i ≡ y → entries n G ≡ set (entries n F) i y
  put-entry n i y lt h e =
      let z : 0 + i ≡ i = omega arith in
      put-from n 0 i y lt (λ k l r ne. h k (omega arith) (λ q. ne (omega arith))) (ap G z ∙ e)
