-- A difference as one number of 64 bits: the message's number, and in its low 31 bits three for the kind, twelve for a place or a length,
-- and both bytes. Assumes nothing.
use Rattle.std.specs.Prelude.{◌≡◌, List, [], ◌∷◌, ℕ, ◌+◌, ◌*◌, ◌/◌, ◌%◌, ◌^◌, ◌≤◌, ◌<◌, get_or}
use Rattle.std.proofs.Common.{arith, lit<}
use Rattle.std.proofs.Math.ListN.{get_or-eq_default}
use Rattle.comparing.specs.declared.listing.Difference.{Difference}
use Rattle.comparing.specs.declared.listing.Difference.TheVariants.{First, Second, Differ, Begins, ConflictFirst, ConflictSecond}

abbrev pub kind_of : Difference → ℕ
kind_of First = 0
kind_of Second = 1
kind_of (Differ place x y) = 2
kind_of (Begins n) = 3
kind_of ConflictFirst = 4
kind_of ConflictSecond = 5

abbrev pub detail_of : Difference → ℕ
detail_of First = 0
detail_of Second = 0
detail_of (Differ place x y) = place * 65536 + x * 256 + y
detail_of (Begins n) = n * 65536
detail_of ConflictFirst = 0
detail_of ConflictSecond = 0

unfoldable pub word_of : ℕ → Difference → ℕ
word_of number d = (number * 8 + kind_of d) * 2 ^ 28 + detail_of d

-- and what such a number says
unfoldable pub number_in : ℕ → ℕ
number_in word = word / 2 ^ 31 % 2 ^ 32

unfoldable pub kind_in : ℕ → ℕ
kind_in word = word / 2 ^ 28 % 8

-- the differences of the kinds 0 to 4; any other number says the last
abbrev pub kinds : ℕ → ℕ → ℕ → List Difference
kinds place x y = First ∷ Second ∷ Differ place x y ∷ Begins place ∷ ConflictFirst ∷ []

unfoldable pub difference_in : ℕ → Difference
unfolding kind_in
difference_in word = get_or (kinds (word / 65536 % 4096) (word / 256 % 256) (word % 256)) (kind_in word) ConflictSecond

-- what fits its bits
abbrev pub Fits : Difference → Type 0
Fits First = Unit
Fits Second = Unit
Fits (Differ place x y) = (place < 4096) × (x < 256) × (y < 256)
Fits (Begins n) = n < 4096
Fits ConflictFirst = Unit
Fits ConflictSecond = Unit

-- ---- laws

-- a kind past the list's end says the last
pub other-kind : (word : ℕ) → 5 ≤ kind_in word → difference_in word ≡ ConflictSecond
unfolding difference_in
other-kind word h = get_or-eq_default (kinds (word / 65536 % 4096) (word / 256 % 256) (word % 256)) ConflictSecond h

-- what fits its bits keeps to them
pub kind-and-detail-fit : (d : Difference) → Fits d → (kind_of d < 8) × (detail_of d < 2 ^ 28)
kind-and-detail-fit First f = (lit< tt, lit< tt)
kind-and-detail-fit Second f = (lit< tt, lit< tt)
kind-and-detail-fit (Differ place x y) f = (lit< tt, omega (arith, f.0, f.1, f.2))
kind-and-detail-fit (Begins n) f = (lit< tt, omega (arith, f))
kind-and-detail-fit ConflictFirst f = (lit< tt, lit< tt)
kind-and-detail-fit ConflictSecond f = (lit< tt, lit< tt)

difference-says : (number : ℕ) (d : Difference) → Fits d → kind_in (word_of number d) ≡ kind_of d → difference_in (word_of number d) ≡ d
unfolding word_of difference_in
difference-says number First f k = simp k
difference-says number Second f k = simp k
difference-says number (Differ place x y) f k =
    let word = (number * 8 + 2) * 2 ^ 28 + (place * 65536 + x * 256 + y) in
    let p : word / 65536 % 4096 ≡ place = omega (arith, f.0, f.1, f.2) in
    let a : word / 256 % 256 ≡ x = omega (arith, f.0, f.1, f.2) in
    let b : word % 256 ≡ y = omega (arith, f.0, f.1, f.2) in
    simp (k, p, a, b)
difference-says number (Begins n) f k =
    let p : ((number * 8 + 3) * 2 ^ 28 + n * 65536) / 65536 % 4096 ≡ n = omega (arith, f) in
    simp (k, p)
difference-says number ConflictFirst f k = simp k
difference-says number ConflictSecond f k = simp k

-- a number says what it was made of
pub word-says : (number : ℕ) (d : Difference) → number < 2 ^ 32 → Fits d → (number_in (word_of number d) ≡ number) × (difference_in (word_of number d) ≡ d)
unfolding word_of number_in kind_in
word-says number d h f =
    let fit = kind-and-detail-fit d f in
    (omega (arith, fit.0, fit.1), difference-says number d f (omega (arith, fit.0, fit.1)))
