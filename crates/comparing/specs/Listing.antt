-- The list that is made by going through two tables side by side. Assumes nothing.
use Rattle.std.specs.Prelude.{◌≡◌, Bool, cond, List, [], ◌∷◌, ◌++◌, ℕ, zero, suc, ◌+◌, ◌-◌, ◌*◌, ◌^◌, ◌≤◌, ◌<◌, eqb, leb, ltb, length, drop, set, Some, None, Option}
use Rattle.std.proofs.Math.Path.{refl}
use Rattle.std.proofs.Common.{sym, ◌∙◌, ap, append-nil, le_refl, not-suc-le-zero, arith, length-append, length-drop, drop_of_length-le, drop-drop, eqb-true, eq-eqb, ne_eqb, ltb-true, ltb-false, leb-true}
use Rattle.std.proofs.lemmas.List.Edits.{sets}
use Rattle.std.proofs.lemmas.Bool.{eqb-false}
use borrow.Table.Steps.{cases}
use Rattle.text.specs.HexRun.{spells, spelt-length}
use Rattle.recording.specs.Lines.{lines_of}
use Rattle.comparing.specs.declared.messages.Found.{Found}
use Rattle.comparing.specs.declared.messages.Found.TheVariants as found
use Rattle.comparing.specs.declared.runs.Content.{Content}
use Rattle.comparing.specs.declared.table.Row.{Row}
use Rattle.comparing.specs.declared.runs.Content.TheVariants as contents
use Rattle.comparing.specs.declared.listing.Difference.{Difference}
use Rattle.comparing.specs.declared.listing.Difference.TheVariants.{ConflictFirst, ConflictSecond}
use Rattle.comparing.specs.Messages.{line_found}
use Rattle.comparing.specs.Runs.{content_from, content_of, line_bytes, payload_after, run_in, run_at}
use Rattle.comparing.specs.Ranks.{number_of}
use Rattle.comparing.specs.Rows.{Rising, held_first, held_in, rising-least, held_below}
use Rattle.comparing.specs.Differences.{Listed, conflict_as, content_as, part_as, differences_on, listed_for, list_below}
use Rattle.comparing.specs.Words.{word_of}
use Rattle.comparing.specs.Compared.{words_of}
use Rattle.comparing.specs.Says.{Says, standing_held, flag_held, held_differences}

-- differences on a number, as they stand in a list
unfoldable pub words_for : ℕ → List Difference → List ℕ
unfolding word_of
words_for n [] = []
words_for n (d ∷ rest) = word_of n d ∷ words_for n rest

-- words put behind the first n of a list, and how many it has then
pub record Pushed (words : List ℕ) (old : List ℕ) (n r : ℕ) (new : List ℕ) : Type 0 where
  pub count : r ≡ n + length words
  pub list : new ≡ sets old n words

abbrev pub has_of : Option (ℕ × Bool) → ℕ
has_of None = 0
has_of (Some (place, flag)) = 1

-- the place in a content that a list has room for
abbrev pub place_of : Content → ℕ
place_of contents.Equal = 0
place_of (contents.Differ place x y) = place
place_of (contents.Begins n) = n

-- the least rank that is left in two tables
unfoldable pub next_rank : List Row → List Row → ℕ
next_rank [] [] = 0
next_rank [] (y ∷ ys) = y.rank
next_rank (x ∷ xs) [] = x.rank
next_rank (x ∷ xs) (y ∷ ys) = cond (ltb x.rank y.rank) x.rank y.rank

-- the same, none where no row is left
abbrev pub rank_left : List Row → List Row → Option ℕ
rank_left [] [] = None
rank_left [] (y ∷ ys) = Some y.rank
rank_left (x ∷ xs) [] = Some x.rank
rank_left (x ∷ xs) (y ∷ ys) = Some (cond (ltb x.rank y.rank) x.rank y.rank)

-- the rows from i on are those of a rank and more
pub record Left (rank : ℕ) (rows : List Row) (i : ℕ) : Type 0 where
  pub rises : Rising rank (drop i rows)
  pub holds : (q : ℕ) → rank ≤ q → held_in q rows ≡ held_in q (drop i rows)

-- how far the list has come: the differences on the numbers below a rank stand in it
pub record Listing (first second : List ℕ) (start : ℕ) (a b : List Row) (old : List ℕ) (i j n : ℕ) (new : List ℕ) : Type 0 where
  pub rank : ℕ
  pub left : Left rank a i
  pub right : Left rank b j
  pub first_rows : i ≤ length a
  pub second-rows : j ≤ length b
  pub few : n ≤ (i + j) * 2
  pub pushed : Pushed (words_of (list_below first second start rank)) old 0 n new

-- ---- laws of words

pub has_one : (held : Option (ℕ × Bool)) → has_of held ≤ 1
has_one None = omega arith
has_one (Some (place, flag)) = le_refl 1

pub words_append : (x y : List Listed) → words_of (x ++ y) ≡ words_of x ++ words_of y
unfolding words_of
words_append [] y = refl
words_append (d ∷ rest) y = ap (λ l. word_of d.number d.what ∷ l) (words_append rest y)

pub words-for : (n : ℕ) (ds : List Difference) → words_of (listed_for n ds) ≡ words_for n ds
unfolding words_of words_for
words-for n [] = refl
words-for n (d ∷ rest) = ap (λ l. word_of n d ∷ l) (words-for n rest)

for-append : (n : ℕ) (x y : List Difference) → words_for n (x ++ y) ≡ words_for n x ++ words_for n y
unfolding words_for
for-append n [] y = refl
for-append n (d ∷ rest) y = ap (λ l. word_of n d ∷ l) (for-append n rest y)

pub words-length : (ds : List Listed) → length (words_of ds) ≡ length ds
unfolding words_of
words-length [] = refl
words-length (d ∷ rest) = ap suc (words-length rest)

sets-append : (x y old : List ℕ) (n : ℕ) → sets old n (x ++ y) ≡ sets (sets old n x) (n + length x) y
sets-append [] y old n = ap (λ k. sets old k y) (let e : n ≡ n + 0 = omega arith in e)
sets-append (w ∷ x) y old n =
    let e : suc n + length x ≡ n + suc (length x) = omega arith in
    sets-append x y (set old n w) (suc n) ∙ ap (λ k. sets (sets (set old n w) (suc n) x) k y) e

-- words pushed behind words
pub pushed_then : (x y old middle new : List ℕ) (n m r : ℕ) → Pushed x old n m middle → Pushed y middle m r new → Pushed (x ++ y) old n r new
pushed_then x y old middle new n m r p q = record {
  count = q.count ∙ ap (λ k. k + length y) p.count ∙ (simp length-append (omega arith));
  list = q.list ∙ ap (λ l. sets l m y) p.list ∙ ap (λ k. sets (sets old n x) k y) p.count ∙ sym (sets-append x y old n);
}

pub pushed_none : (old : List ℕ) (n : ℕ) → Pushed [] old n n old
pushed_none old n = record { count = omega arith; list = refl }

-- three runs of words are the differences on a number
pub number_pushed : (first second : List ℕ) (n : ℕ) (a b : Option (ℕ × Bool))
    → words_for n (conflict_as (flag_held a) ConflictFirst) ++ (words_for n (conflict_as (flag_held b) ConflictSecond) ++ words_for n (part_as (standing_held first a) (standing_held second b)))
    ≡ words_for n (held_differences first second a b)
unfolding held_differences
number_pushed first second n a b =
    let ca = conflict_as (flag_held a) ConflictFirst in
    let cb = conflict_as (flag_held b) ConflictSecond in
    let part = part_as (standing_held first a) (standing_held second b) in
    sym (for-append n ca (cb ++ part) ∙ ap (λ l. words_for n ca ++ l) (for-append n cb part))

-- at most one conflict and one difference more for each side that has the number
pub conflict-few : (n : ℕ) (held : Option (ℕ × Bool)) (d : Difference) → length (words_for n (conflict_as (flag_held held) d)) ≤ has_of held
unfolding words_for
conflict-few n None d = le_refl 0
conflict-few n (Some (place, flag)) d = cases flag (λ t. simp t (omega arith)) (λ f. simp f (omega arith))

content-few : (n : ℕ) (content : Content) → length (words_for n (content_as content)) ≤ 1
unfolding words_for
content-few n contents.Equal = omega arith
content-few n (contents.Differ place x y) = le_refl 1
content-few n (contents.Begins k) = le_refl 1

part-few : (first second : List ℕ) (n : ℕ) (a b : Option (ℕ × Bool)) → length (words_for n (part_as (standing_held first a) (standing_held second b))) ≤ has_of a + has_of b
unfolding words_for
part-few first second n None None = le_refl 0
part-few first second n (Some (i, f)) None = le_refl 1
part-few first second n None (Some (j, g)) = le_refl 1
part-few first second n (Some (i, f)) (Some (j, g)) = omega (arith, content-few n (content_of (run_at first i) (run_at second j)))

number-few : (first second : List ℕ) (n : ℕ) (a b : Option (ℕ × Bool)) → length (words_for n (held_differences first second a b)) ≤ (has_of a + has_of b) * 2
number-few first second n a b =
    let x = conflict-few n a ConflictFirst in
    let y = conflict-few n b ConflictSecond in
    let z = part-few first second n a b in
    rw (← number_pushed) (simp length-append (omega arith))

-- ---- laws of what is left

next-least : (rank : ℕ) (xs ys : List Row) → Rising rank xs → Rising rank ys → 0 < length xs + length ys
    → (rank ≤ next_rank xs ys) × (next_rank xs ys < 2 ^ 32) × Rising (next_rank xs ys) xs × Rising (next_rank xs ys) ys × (1 ≤ has_of (held_first (next_rank xs ys) xs) + has_of (held_first (next_rank xs ys) ys))
unfolding Rising next_rank held_first
next-least rank [] [] h g some = absurd (not-suc-le-zero some)
next-least rank [] (y ∷ ys) h g some =
    let low = rising-least (suc y.rank) ys g.1 in
    (g.0, low, omega arith, (le_refl y.rank, g.1), simp (eq-eqb y.rank y.rank refl) (le_refl 1))
next-least rank (x ∷ xs) [] h g some =
    let low = rising-least (suc x.rank) xs h.1 in
    (h.0, low, (le_refl x.rank, h.1), omega arith, simp (eq-eqb x.rank x.rank refl) (le_refl 1))
next-least rank (x ∷ xs) (y ∷ ys) h g some =
    let low = rising-least (suc x.rank) xs h.1 in
    let high = rising-least (suc y.rank) ys g.1 in
    cases (ltb x.rank y.rank)
    (λ t.
    let less = ltb-true x.rank y.rank t in
    simp (t, eq-eqb x.rank x.rank refl) (h.0, low, (le_refl x.rank, h.1), (omega arith, g.1), omega arith))
    (λ f.
    let least = ltb-false x.rank y.rank f in
    simp (f, eq-eqb y.rank y.rank refl) (g.0, high, (least, h.1), (le_refl y.rank, g.1), omega arith))

-- the first row, if it is of the least rank
first-held : (rank : ℕ) (rows : List Row) → Rising rank rows → held_in rank rows ≡ held_first rank rows
unfolding Rising held_in held_first
first-held rank [] h = refl
first-held rank (x ∷ rest) h =
    cases (eqb x.rank rank)
    (λ t. simp t)
    (λ f.
    let other = eqb-false x.rank rank f in
    simp f (held_below rank (suc x.rank) rest h.1 (omega (arith, h.0))))

-- past the first row, if it is of the least rank
first-left : (rank : ℕ) (rows : List Row) → rank < 2 ^ 32 → Rising rank rows → Left (suc rank) rows (has_of (held_first rank rows))
unfolding Rising held_in held_first
first-left rank [] l h = record { rises = l; holds = λ q g. refl }
first-left rank (x ∷ rest) l h =
    cases (eqb x.rank rank)
    (λ t.
    let same = eqb-true x.rank rank t in
    simp t (record {
      rises = rw same at h.1;
      holds = λ q g. simp (ne_eqb x.rank q (λ e. omega arith));
    }))
    (λ f.
    let other = eqb-false x.rank rank f in
    simp f (record { rises = (omega (arith, h.0), h.1); holds = λ q g. refl }))

-- no more rows are passed than there are
has_within : (rank : ℕ) (rows : List Row) → has_of (held_first rank rows) ≤ length rows
unfolding held_first
has_within rank [] = le_refl 0
has_within rank (x ∷ rest) = cases (eqb x.rank rank) (λ t. simp t (omega arith)) (λ f. simp f (omega arith))

passed-within : (i : ℕ) (rows : List Row) (rank : ℕ) → i ≤ length rows → i + has_of (held_first rank (drop i rows)) ≤ length rows
passed-within i rows rank h = let l = has_within rank (drop i rows) in omega (arith, length-drop i rows)

left_step : (rank next i : ℕ) (rows : List Row) → Left rank rows i → rank ≤ next → next < 2 ^ 32 → Rising next (drop i rows)
    → Left (suc next) rows (i + has_of (held_first next (drop i rows)))
left_step rank next i rows left h l rises =
    let k = has_of (held_first next (drop i rows)) in
    let step = first-left next (drop i rows) l rises in
    record {
      rises = rw drop-drop at step.rises;
      holds = λ q g. left.holds q (omega arith) ∙ step.holds q g ∙ ap (held_in q) (drop-drop k i rows);
    }

none_left : (rows : List Row) → rows ≡ [] → Rising (2 ^ 32) rows
unfolding Rising
none_left rows e = rw e (le_refl (2 ^ 32))

-- a stretch of ranks without differences
below-gap : (first second : List ℕ) (start k d : ℕ) → ((q : ℕ) → k ≤ q → q < k + d → differences_on first second (number_of start q) ≡ [])
    → list_below first second start (k + d) ≡ list_below first second start k
unfolding list_below
below-gap first second start k zero none = ap (list_below first second start) (let e : k + 0 ≡ k = omega arith in e)
below-gap first second start k (suc d) none =
    let e : k + suc d ≡ suc (k + d) = omega arith in
    ap (list_below first second start) e
    ∙ ap (λ l. list_below first second start (k + d) ++ listed_for (number_of start (k + d)) l) (none (k + d) (omega arith) (omega arith))
    ∙ append-nil (list_below first second start (k + d))
    ∙ below-gap first second start k d (λ q h g. none q h (omega arith))

-- the words of the ranks below one and of it
below-words : (first second : List ℕ) (start r : ℕ)
    → words_of (list_below first second start (suc r)) ≡ words_of (list_below first second start r) ++ words_for (number_of start r) (differences_on first second (number_of start r))
unfolding list_below
below-words first second start r =
    let n = number_of start r in
    let ds = differences_on first second n in
    words_append (list_below first second start r) (listed_for n ds) ∙ ap (λ l. words_of (list_below first second start r) ++ l) (words-for n ds)

none-held : (first second : List ℕ) (a b : Option (ℕ × Bool)) → a ≡ None → b ≡ None → held_differences first second a b ≡ []
unfolding held_differences
none-held first second a b p q = simp (p, q)

-- ---- the list from its start to its end

module _ (first second : List ℕ) (start : ℕ) (a b : List Row) (old : List ℕ) where
  pub listing_start : Rising 0 a → Rising 0 b → Listing first second start a b old 0 0 0 old
  unfolding list_below words_of
  listing_start h g = record {
    rank = 0;
    left = record { rises = h; holds = λ q l. refl };
    right = record { rises = g; holds = λ q l. refl };
    first_rows = omega arith;
    second-rows = omega arith;
    few = omega arith;
    pushed = pushed_none old 0;
  }

  module _ (i j n : ℕ) (new : List ℕ) (says : Says first second start a b) (so_far : Listing first second start a b old i j n new) where
    -- a row is left
    some : i + j < length a + length b → 0 < length (drop i a) + length (drop j b)
    some more = simp length-drop (omega (arith, so_far.first_rows, so_far.second-rows))

    -- no differences on the numbers from the rank up to one that nothing left is below
    gap : (r : ℕ) → so_far.rank ≤ r → Rising r (drop i a) → Rising r (drop j b) → list_below first second start r ≡ list_below first second start so_far.rank
    gap r h x y =
        let l = rising-least r (drop i a) x in
        let e : r ≡ so_far.rank + (r - so_far.rank) = omega arith in
        ap (list_below first second start) e
        ∙ below-gap first second start so_far.rank (r - so_far.rank)
        (λ q from below.
        says.on q (omega arith)
        ∙ none-held first second (held_in q a) (held_in q b)
        (so_far.left.holds q from ∙ held_below q r (drop i a) x (omega arith))
        (so_far.right.holds q from ∙ held_below q r (drop j b) y (omega arith)))

    -- the words below a rank and of it, the least that is left
    step_words : (r : ℕ) → so_far.rank ≤ r → r < 2 ^ 32 → Rising r (drop i a) → Rising r (drop j b)
        → words_of (list_below first second start (suc r)) ≡ words_of (list_below first second start so_far.rank) ++ words_for (number_of start r) (held_differences first second (held_first r (drop i a)) (held_first r (drop j b)))
    step_words r h l x y =
        let left = so_far.left.holds r h ∙ first-held r (drop i a) x in
        let right = so_far.right.holds r h ∙ first-held r (drop j b) y in
        below-words first second start r ∙ simp (gap r h x y, says.on r l, left, right)

    listing-rank : i + j < length a + length b → next_rank (drop i a) (drop j b) < 2 ^ 32
    listing-rank more = (next-least so_far.rank (drop i a) (drop j b) so_far.left.rises so_far.right.rises (some more)).1

    listing-room : i + j < length a + length b → length a ≤ 1024 → length b ≤ 1024
        → n + (has_of (held_first (next_rank (drop i a) (drop j b)) (drop i a)) + has_of (held_first (next_rank (drop i a) (drop j b)) (drop j b))) * 2 ≤ 4096
    listing-room more h g =
        let r = next_rank (drop i a) (drop j b) in
        omega (arith, so_far.few, passed-within i a r so_far.first_rows, passed-within j b r so_far.second-rows)

    listing-less : i + j < length a + length b
        → i + j < i + has_of (held_first (next_rank (drop i a) (drop j b)) (drop i a)) + (j + has_of (held_first (next_rank (drop i a) (drop j b)) (drop j b)))
    listing-less more =
        omega (arith, (next-least so_far.rank (drop i a) (drop j b) so_far.left.rises so_far.right.rises (some more)).4)

    listing_step : (m : ℕ) (next : List ℕ) → i + j < length a + length b
        → Pushed (words_for (number_of start (next_rank (drop i a) (drop j b))) (held_differences first second (held_first (next_rank (drop i a) (drop j b)) (drop i a)) (held_first (next_rank (drop i a) (drop j b)) (drop j b)))) new n m next
        → Listing first second start a b old (i + has_of (held_first (next_rank (drop i a) (drop j b)) (drop i a))) (j + has_of (held_first (next_rank (drop i a) (drop j b)) (drop j b))) m next
    listing_step m next more pushed =
        let r = next_rank (drop i a) (drop j b) in
        let x = held_first r (drop i a) in
        let y = held_first r (drop j b) in
        let least = next-least so_far.rank (drop i a) (drop j b) so_far.left.rises so_far.right.rises (some more) in
        record {
          rank = suc r;
          left = left_step so_far.rank r i a so_far.left least.0 least.1 least.2;
          right = left_step so_far.rank r j b so_far.right least.0 least.1 least.3;
          first_rows = passed-within i a r so_far.first_rows;
          second-rows = passed-within j b r so_far.second-rows;
          few = omega (arith, so_far.few, pushed.count, number-few first second (number_of start r) x y);
          pushed =
              rw (step_words r least.0 least.1 least.2 least.3)
              (pushed_then (words_of (list_below first second start so_far.rank)) (words_for (number_of start r) (held_differences first second x y)) old new next 0 n m so_far.pushed pushed);
        }

    listing-end : length a + length b ≤ i + j → Pushed (words_of (list_below first second start (2 ^ 32))) old 0 n new
    listing-end done =
        let l = rising-least so_far.rank (drop i a) so_far.left.rises in
        let x = drop_of_length-le a {i = i} (omega (arith, so_far.first_rows, so_far.second-rows)) in
        let y = drop_of_length-le b {i = j} (omega (arith, so_far.first_rows, so_far.second-rows)) in
        rw (gap (2 ^ 32) l (none_left (drop i a) x) (none_left (drop j b) y)) so_far.pushed

-- ---- what fits a list's numbers

within-from : (k : ℕ) (x y : List ℕ) → place_of (content_from k x y) ≤ k + length x
unfolding content_from
within-from k [] [] = omega arith
within-from k [] (y ∷ ys) = omega arith
within-from k (x ∷ xs) [] = omega arith
within-from k (x ∷ xs) (y ∷ ys) = cases (eqb x y) (λ t. simp t (omega (arith, within-from (k + 1) xs ys))) (λ f. simp f (omega arith))

-- runs part within them
pub content-within : (x y : List ℕ) → place_of (content_of x y) ≤ length x
content-within x y = omega (arith, within-from 0 x y)

bytes-few : (line : List ℕ) → length (line_bytes line) ≤ 1040
unfolding line_bytes
bytes-few line =
    cases (leb (length line) 2080)
    (λ l.
    let h = leb-true (length line) 2080 l in
    cases (spells line)
    (λ t. simp (l, t) (omega (arith, spelt-length line t)))
    (λ f. simp (l, f) (omega arith)))
    (λ l. simp l (omega arith))

payload-few : (found : Found) (line : List ℕ) → length (payload_after found line) ≤ 1040
payload-few found.Bad line = omega arith
payload-few (found.Awaits m) line = bytes-few line
payload-few (found.Holds m) line = omega arith
payload-few found.Passes line = omega arith

lines-few : (lines : List (List ℕ)) → length (run_in lines) ≤ 2080
lines-few [] = omega arith
lines-few (frame ∷ []) = omega (arith, bytes-few frame)
lines-few (frame ∷ payload ∷ rest) =
    simp length-append (omega (arith, bytes-few frame, payload-few (line_found None 0 0 frame) payload))

-- a run is two lines, of at most 1,040 bytes each
pub run_short : (input : List ℕ) (at : ℕ) → length (run_at input at) ≤ 2080
unfolding run_at
run_short input at = lines-few (lines_of (drop at input))

-- where two messages part, a list has room for the place
pub part-near : (first second : List ℕ) (i j : ℕ) (content : Content) → content ≡ content_of (run_at first i) (run_at second j) → place_of content < 4096
part-near first second i j content e =
    omega (arith, ap place_of e, content-within (run_at first i) (run_at second j), run_short first i)

-- what of two tables is left to be listed, and the list so far
pub record Merging (first second : List ℕ) (start : ℕ) (a b : List Row) (old : List ℕ) (xs ys : List Row) (n : ℕ) (new : List ℕ) : Type 0 where
  pub i : ℕ
  pub j : ℕ
  pub rest-first : xs ≡ drop i a
  pub rest-second : ys ≡ drop j b
  pub listing : Listing first second start a b old i j n new

rank-some : (xs ys : List Row) (rank : ℕ) → rank_left xs ys ≡ Some rank → (rank ≡ next_rank xs ys) × (0 < length xs + length ys)
unfolding next_rank
rank-some [] [] rank e = let z : ◌≡◌ {A = ℕ} 0 1 = cc in absurd (omega arith)
rank-some [] (y ∷ ys) rank e = (cc, omega arith)
rank-some (x ∷ xs) [] rank e = (cc, omega arith)
rank-some (x ∷ xs) (y ∷ ys) rank e = (cc, omega arith)

rank-none : (xs ys : List Row) → rank_left xs ys ≡ None → length xs + length ys ≡ 0
rank-none [] [] e = omega arith
rank-none [] (y ∷ ys) e = let z : ◌≡◌ {A = ℕ} 0 1 = cc in absurd (omega arith)
rank-none (x ∷ xs) [] e = let z : ◌≡◌ {A = ℕ} 0 1 = cc in absurd (omega arith)
rank-none (x ∷ xs) (y ∷ ys) e = let z : ◌≡◌ {A = ℕ} 0 1 = cc in absurd (omega arith)

pub has-first : (rank : ℕ) (rows : List Row) → has_of (held_first rank rows) ≤ length rows
has-first rank rows = has_within rank rows

-- one turn over two tables: from where the list has come to the differences on the next number
module _ {first second : List ℕ} {start : ℕ} {a b : List Row} {old : List ℕ} {xs ys : List Row} {k : ℕ} {list : List ℕ}
    (says : Says first second start a b) (so_far : Merging first second start a b old xs ys k list) where
  left-first : length a ≡ so_far.i + length xs
  left-first = omega (arith, ap length so_far.rest-first, length-drop so_far.i a, so_far.listing.first_rows)

  left-second : length b ≡ so_far.j + length ys
  left-second = omega (arith, ap length so_far.rest-second, length-drop so_far.j b, so_far.listing.second-rows)

  pub turn_end : rank_left xs ys ≡ None → Pushed (words_of (list_below first second start (2 ^ 32))) old 0 k list
  turn_end done =
      listing-end first second start a b old so_far.i so_far.j k list says so_far.listing (omega (arith, left-first, left-second, rank-none xs ys done))

  pub turn-few : length a ≤ 1024 → length b ≤ 1024 → k ≤ 4096
  turn-few h g = omega (arith, so_far.listing.few, left-first, left-second)

  module _ (rank : ℕ) (ranked : rank_left xs ys ≡ Some rank) where
    named-rank : rank ≡ next_rank (drop so_far.i a) (drop so_far.j b)
    named-rank = (rank-some xs ys rank ranked).0 ∙ ap (λ l. next_rank l ys) so_far.rest-first ∙ ap (next_rank (drop so_far.i a)) so_far.rest-second

    left_over : so_far.i + so_far.j < length a + length b
    left_over = omega (arith, left-first, left-second, (rank-some xs ys rank ranked).1)

    pub turn-rank : rank < 2 ^ 32
    turn-rank = omega (arith, named-rank, listing-rank first second start a b old so_far.i so_far.j k list says so_far.listing left_over)

    same-first : held_first rank xs ≡ held_first (next_rank (drop so_far.i a) (drop so_far.j b)) (drop so_far.i a)
    same-first = ap (λ r. held_first r xs) named-rank ∙ ap (held_first (next_rank (drop so_far.i a) (drop so_far.j b))) so_far.rest-first

    same-second : held_first rank ys ≡ held_first (next_rank (drop so_far.i a) (drop so_far.j b)) (drop so_far.j b)
    same-second = ap (λ r. held_first r ys) named-rank ∙ ap (held_first (next_rank (drop so_far.i a) (drop so_far.j b))) so_far.rest-second

    pub turn-room : length a ≤ 1024 → length b ≤ 1024 → k + (has_of (held_first rank xs) + has_of (held_first rank ys)) * 2 ≤ 4096
    turn-room h g =
        omega (arith, ap has_of same-first, ap has_of same-second, listing-room first second start a b old so_far.i so_far.j k list says so_far.listing left_over h g)

    pub turn-less : 1 ≤ has_of (held_first rank xs) + has_of (held_first rank ys)
    turn-less =
        omega (arith, ap has_of same-first, ap has_of same-second, listing-less first second start a b old so_far.i so_far.j k list says so_far.listing left_over)

    pub turn_step : (number l : ℕ) (next : List ℕ) → number ≡ number_of start rank
        → Pushed (words_for number (held_differences first second (held_first rank xs) (held_first rank ys))) list k l next
        → Merging first second start a b old (drop (has_of (held_first rank xs)) xs) (drop (has_of (held_first rank ys)) ys) l next
    turn_step number l next named pushed = record {
      i = so_far.i + has_of (held_first rank xs);
      j = so_far.j + has_of (held_first rank ys);
      rest-first = ap (drop (has_of (held_first rank xs))) so_far.rest-first ∙ drop-drop (has_of (held_first rank xs)) so_far.i a;
      rest-second = ap (drop (has_of (held_first rank ys))) so_far.rest-second ∙ drop-drop (has_of (held_first rank ys)) so_far.j b;
      listing =
          rw (same-first, same-second)
          (listing_step first second start a b old so_far.i so_far.j k list says so_far.listing l next left_over
          (rw (same-first, same-second, named, named-rank) at pushed));
    }

pub merging_start : {first second : List ℕ} {start : ℕ} {a b : List Row} {old : List ℕ} → Rising 0 a → Rising 0 b → Merging first second start a b old a b 0 old
merging_start {first} {second} {start} {a} {b} {old} h g =
    record { i = 0; j = 0; rest-first = refl; rest-second = refl; listing = listing_start first second start a b old h g }
