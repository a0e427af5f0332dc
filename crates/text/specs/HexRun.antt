-- Runs of lower-case hexadecimal digits, two a byte: which runs spell bytes, which bytes those are, and what a buffer that they are read
-- into holds afterwards, for every run. Assumes nothing.
use Rattle.std.proofs.Math.Path.{◌≡◌, sym, ap}
use Rattle.std.specs.Prelude.{refl, Bool, true, false, cond, ◌&&◌, List, [], ◌∷◌, ◌++◌, ℕ, suc, ◌+◌, ◌*◌, ◌/◌, ◌%◌, ◌≤◌, ◌<◌, leb, eqb, get_or, set, Some, None, Option}
use Rattle.std.proofs.Common.{◌∙◌, add-one, arith, drop_of_length-le, take-append-drop, drop-cons, take-suc-set}
use Rattle.std.proofs.Math.ListN.{length, take, drop}
use Rattle.std.proofs.Math.Seq.{append_snoc, length-take-le, take-append_seam}
use borrow.Author.Tests.{eqb-true, eqb-false, le-leb, lt-leb, leb-true}
use borrow.Table.Steps.{cases}
use Rattle.text.specs.Hex.{hex_byte}

abbrev pub is_byte : Option ℕ → Bool
is_byte (Some b) = true
is_byte None = false

-- a byte before others; nothing where there is none
abbrev pub before : Option ℕ → List ℕ → List ℕ
before (Some b) rest = b ∷ rest
before None rest = []

-- pairs of digits and nothing else
unfoldable pub spells : List ℕ → Bool
spells [] = true
spells (high ∷ []) = false
spells (high ∷ low ∷ rest) = is_byte (hex_byte high low) && spells rest

-- the bytes that the pairs spell, up to the first pair that is no byte
unfoldable pub spelt : List ℕ → List ℕ
spelt [] = []
spelt (high ∷ []) = []
spelt (high ∷ low ∷ rest) = before (hex_byte high low) (spelt rest)

-- how many bytes a run spells, where it spells bytes and there is room for them
unfoldable pub read_hex_of : List ℕ → ℕ → Option ℕ
read_hex_of run room = cond (leb (length run / 2) room && spells run) (Some (length run / 2)) None

-- the buffer afterwards: the spelt bytes at its start and the rest as it was, or all as it was where there is no room
unfoldable pub read_hex_in : List ℕ → List ℕ → List ℕ
read_hex_in run into = cond (leb (length run / 2) (length into)) (spelt run ++ drop (length (spelt run)) into) into

-- ---- laws of the loop over a run's pairs

module _ (run : List ℕ) (i : ℕ) (h : i * 2 + 1 < length run) where
  -- a run from a pair on: the pair, and the run from the next pair on
  pair-first : drop (i * 2) run ≡ get_or run (i * 2) 0 ∷ get_or run (i * 2 + 1) 0 ∷ drop ((i + 1) * 2) run
  pair-first =
      let next : suc (i * 2) ≡ i * 2 + 1 = omega arith in
      let after : suc (suc (i * 2)) ≡ (i + 1) * 2 = omega arith in
      drop-cons run (i * 2) 0 (omega arith)
      ∙ ap (λ l. get_or run (i * 2) 0 ∷ l)
      (drop-cons run (suc (i * 2)) 0 (omega arith)
      ∙ ap (λ k. get_or run k 0 ∷ drop (suc (suc (i * 2))) run) next
      ∙ ap (λ k. get_or run (i * 2 + 1) 0 ∷ drop k run) after)

  pub spells-good : (b : ℕ) → hex_byte (get_or run (i * 2) 0) (get_or run (i * 2 + 1) 0) ≡ Some b → spells (drop (i * 2) run) ≡ spells (drop ((i + 1) * 2) run)
  unfolding spells
  spells-good b e = ap spells pair-first ∙ simp e

  pub spells-bad : hex_byte (get_or run (i * 2) 0) (get_or run (i * 2 + 1) 0) ≡ None → spells (drop (i * 2) run) ≡ false
  unfolding spells
  spells-bad e = ap spells pair-first ∙ simp e

  pub spelt-bad : hex_byte (get_or run (i * 2) 0) (get_or run (i * 2 + 1) 0) ≡ None → spelt (drop (i * 2) run) ≡ []
  unfolding spelt
  spelt-bad e = ap spelt pair-first ∙ simp e

  -- one byte more stands in the buffer, and one less is to come
  pub spelt-good : (out : List ℕ) (b : ℕ) → i < length out → hex_byte (get_or run (i * 2) 0) (get_or run (i * 2 + 1) 0) ≡ Some b
      → take (i + 1) (set out i b) ++ spelt (drop ((i + 1) * 2) run) ≡ take i out ++ spelt (drop (i * 2) run)
  unfolding spelt
  spelt-good out b room e =
      ap (λ k. take k (set out i b) ++ spelt (drop ((i + 1) * 2) run)) (add-one i)
      ∙ ap (λ l. l ++ spelt (drop ((i + 1) * 2) run)) (take-suc-set out i b room)
      ∙ append_snoc (take i out) b (spelt (drop ((i + 1) * 2) run))
      ∙ sym (ap (λ l. take i out ++ l) (ap spelt pair-first ∙ simp e))

module _ (run : List ℕ) where
  -- past the last pair there is nothing, or one digit without another
  pairs-done : length run % 2 ≡ 0 → drop (length run / 2 * 2) run ≡ []
  pairs-done even = drop_of_length-le run {i = length run / 2 * 2} (omega arith)

  digit-left : (length run % 2 ≡ 0 → ⊥) → drop (length run / 2 * 2) run ≡ get_or run (length run / 2 * 2) 0 ∷ []
  digit-left odd =
      drop-cons run (length run / 2 * 2) 0 (omega arith)
      ∙ ap (λ l. get_or run (length run / 2 * 2) 0 ∷ l) (drop_of_length-le run {i = suc (length run / 2 * 2)} (omega arith))

  pub spells-even : length run % 2 ≡ 0 → spells (drop (length run / 2 * 2) run) ≡ true
  unfolding spells
  spells-even even = ap spells (pairs-done even)

  pub spells-odd : (length run % 2 ≡ 0 → ⊥) → spells (drop (length run / 2 * 2) run) ≡ false
  unfolding spells
  spells-odd odd = ap spells (digit-left odd)

  pub spelt-end : spelt (drop (length run / 2 * 2) run) ≡ []
  unfolding spelt
  spelt-end =
      cases (eqb (length run % 2) 0)
      (λ t. ap spelt (pairs-done (eqb-true (length run % 2) 0 t)))
      (λ f. ap spelt (digit-left (eqb-false (length run % 2) 0 f)))

  -- the cases of the answer
  pub hex-counted : (room : ℕ) → length run / 2 ≤ room → spells run ≡ true → Some (length run / 2) ≡ read_hex_of run room
  unfolding read_hex_of
  hex-counted room h t = simp (le-leb (length run / 2) room h, t)

  pub hex-bad : (room : ℕ) → length run / 2 ≤ room → spells run ≡ false → None ≡ read_hex_of run room
  unfolding read_hex_of
  hex-bad room h f = simp (le-leb (length run / 2) room h, f)

  pub hex-no-room : (into : List ℕ) → length into < length run / 2 → (None ≡ read_hex_of run (length into)) × (into ≡ read_hex_in run into)
  unfolding read_hex_of read_hex_in
  hex-no-room into h = (simp (lt-leb (length run / 2) (length into) h), simp (lt-leb (length run / 2) (length into) h))

  -- the buffer, where its first i bytes are the spelt ones and the others are as they were
  pub hex-left : (into out : List ℕ) (i : ℕ) → length run / 2 ≤ length into → i ≤ length out → take i out ≡ spelt run → drop i out ≡ drop i into → out ≡ read_hex_in run into
  unfolding read_hex_in
  hex-left into out i room h start rest =
      let n : length (spelt run) ≡ i = ap length (sym start) ∙ length-take-le i out h in
      sym (take-append-drop i out)
      ∙ ap (λ l. l ++ drop i out) start
      ∙ ap (λ l. spelt run ++ l) rest
      ∙ simp (le-leb (length run / 2) (length into) room, n)

-- ---- what the answer says of a run

module _ (run : List ℕ) (room : ℕ) where
  pub count-says : (n : ℕ) → read_hex_of run room ≡ Some n → (n ≡ length run / 2) × (n ≤ room) × (spells run ≡ true)
  unfolding read_hex_of
  count-says n e =
      cases (leb (length run / 2) room)
      (λ l.
      cases (spells run)
      (λ t.
      let v : length run / 2 ≡ n = cc (simp (l, t) at e) in
      (sym v, omega (arith, leb-true (length run / 2) room l), t))
      (λ f. let z : ◌≡◌ {A = ℕ} 0 1 = cc (simp (l, f) at e) in absurd (omega arith)))
      (λ l. let z : ◌≡◌ {A = ℕ} 0 1 = cc (simp l at e) in absurd (omega arith))

  pub bad-says : read_hex_of run room ≡ None → length run / 2 ≤ room → spells run ≡ false
  unfolding read_hex_of
  bad-says e h =
      cases (spells run)
      (λ t. let z : ◌≡◌ {A = ℕ} 0 1 = cc (simp (le-leb (length run / 2) room h, t) at e) in absurd (omega arith))
      (λ f. f)

spelt-byte : (b : Option ℕ) (rest : List ℕ) → is_byte b ≡ true → length (before b rest) ≡ suc (length rest)
spelt-byte (Some b) rest e = refl
spelt-byte None rest e = let z : ◌≡◌ {A = ℕ} 0 1 = cc in absurd (omega arith)

-- a run that spells bytes spells one for each pair
pub spelt-length : (run : List ℕ) → spells run ≡ true → length (spelt run) ≡ length run / 2
unfolding spells spelt
spelt-length [] e = refl
spelt-length (high ∷ []) e = let z : ◌≡◌ {A = ℕ} 0 1 = cc in absurd (omega arith)
spelt-length (high ∷ low ∷ rest) e =
    cases (is_byte (hex_byte high low))
    (λ t. spelt-byte (hex_byte high low) (spelt rest) t ∙ omega (arith, spelt-length rest (simp t at e)))
    (λ f. let z : ◌≡◌ {A = ℕ} 0 1 = cc (simp f at e) in absurd (omega arith))

-- the bytes that a counted run spells stand at the buffer's start
pub hex-start : (run into : List ℕ) → spells run ≡ true → length run / 2 ≤ length into → take (length run / 2) (read_hex_in run into) ≡ spelt run
unfolding read_hex_in
hex-start run into t h =
    simp (le-leb (length run / 2) (length into) h)
    (ap (λ k. take k (spelt run ++ drop (length (spelt run)) into)) (sym (spelt-length run t))
    ∙ take-append_seam (spelt run) (drop (length (spelt run)) into))

pub counted_start : (run into left : List ℕ) (n : ℕ) → read_hex_of run (length into) ≡ Some n → left ≡ read_hex_in run into → take n left ≡ spelt run
counted_start run into left n e now =
    let said = count-says run (length into) n e in
    ap (λ k. take k left) said.0 ∙ ap (take (length run / 2)) now ∙ hex-start run into said.2 (omega (arith, said.0, said.1))
