-- Document 02 [6]: "lists the messages by number"; "Listing each difference exactly once, in number order". What the list of two recordings
-- is, in theorems: each difference is there, each once and in order, nothing else is, and the list of the two exchanged is the list
-- exchanged; and each message stands at its place. Assumes nothing.
use Rattle.std.specs.Prelude.{◌≡◌, Bool, true, false, ◌↔◌, ◌≢◌, eqb, ltb, ℤ, pos, negsuc, get_or, take, drop, Some, None, Option, Ok, Err, Result}
use Rattle.refusal.specs.declared.Refusal.{Refusal}
use Rattle.msg.specs.declared.reliable.ReliableMsg.{ReliableMsg}
use Rattle.msg.specs.declared.link_msg.LinkMsg.{LinkMsg}
use Rattle.std.proofs.Math.Path.{refl, sym, ap}
use Rattle.std.proofs.Common.{◌∙◌, subst, add-one, le_refl, arith, drop-drop}
use Rattle.std.proofs.Math.Logic.{inl, inr}
use mathlib.Core.List.Memᴰ
use mathlib.Core.List.{List, [], ◌∷◌, ◌++◌, append-nil, map, Memᴰ}
use Prim.Native.Nat.{ℕ, zero, suc, ◌+◌, ◌-◌, ◌*◌, ◌^◌, ◌≤◌, ◌<◌, min}
use Rattle.std.proofs.Math.Nat.{le_trans}
use Rattle.std.specs.Int.Signed.{mag, lt_z}
use Rattle.std.proofs.Math.ListN.{length}
use borrow.Author.Tests.{eq-eqb, ne_eqb, eqb-true, eqb-false, lt-ltb, le-ltb, ltb-true, ltb-false}
use borrow.Table.Steps.{cases}
use Rattle.seq.specs.declared.Seq.{Seq}
use Rattle.seq.specs.Distance.{distance_of, by-small}
use Rattle.msg.specs.declared.reliable.ReliableMsg.TheVariants as reliable
use Rattle.msg.specs.Reliable.{from_link}
use Rattle.recording.specs.Lines.{lines_of, until_feed, line-ended, line-last, line-none}
use Rattle.recording.specs.Frames.{frame_of}
use Rattle.recording.specs.Payloads.{is_payload}
use Rattle.comparing.specs.declared.messages.Message.{Message}
use Rattle.comparing.specs.declared.messages.Found.{Found}
use Rattle.comparing.specs.declared.messages.Found.TheVariants as found
use Rattle.comparing.specs.declared.runs.Content.{Content}
use Rattle.comparing.specs.declared.runs.Content.TheVariants as contents
use Rattle.comparing.specs.declared.listing.Difference.{Difference}
use Rattle.comparing.specs.declared.listing.Difference.TheVariants.{First, Second, Differ, Begins, ConflictFirst, ConflictSecond}
use Rattle.comparing.specs.Messages.{Body, start_line, found_carried, found_reading, found_payload, line_found, body_as, body_from, body_after, body_in, body_of, start_of}
use Rattle.comparing.specs.Runs.{content_from, content_of, content-same, line_bytes, payload_after, run_in, run_at}
use Rattle.comparing.specs.Sanity.{start_small}
use Rattle.comparing.specs.Ranks.{rank_by, number_of, number_lt, rank_of, rank_lt, rank-of-number, number-of-rank, rank-by}
use Rattle.comparing.specs.Differences.{Standing, Absent, Run, standing, conflicted, conflict_as, content_as, part_as, differences_on, Listed, listed_for, list_below, list_of}

-- ---- two runs

-- what is said of two runs: they are equal; or all bytes before a place are, and both go on there, with bytes that differ; or one is a
-- beginning of the other, as long as the shorter, and the other is longer
abbrev pub Says : List ℕ → List ℕ → Content → Type 0
Says x y contents.Equal = x ≡ y
Says x y (contents.Differ p u v) = (p < min (length x) (length y)) × (take p x ≡ take p y) × (get_or x p 0 ≡ u) × (get_or y p 0 ≡ v) × (u ≢ v)
Says x y (contents.Begins n) = (n ≡ min (length x) (length y)) × (take n x ≡ take n y) × (length x ≢ length y)

-- a byte more before the place
abbrev later : Content → Content
later contents.Equal = contents.Equal
later (contents.Differ p u v) = contents.Differ (suc p) u v
later (contents.Begins n) = contents.Begins (suc n)

content-later : (k : ℕ) (x y : List ℕ) → content_from (k + 1) x y ≡ later (content_from k x y)
unfolding content_from
content-later k [] [] = refl
content-later k [] (v ∷ y) = ap contents.Begins (add-one k)
content-later k (u ∷ x) [] = ap contents.Begins (add-one k)
content-later k (u ∷ x) (v ∷ y) =
    cases (eqb u v) (λ t. simp t (content-later (k + 1) x y)) (λ f. simp f (ap (λ n. contents.Differ n u v) (add-one k)))

says-later : (b : ℕ) (x y : List ℕ) (c : Content) → Says x y c → Says (b ∷ x) (b ∷ y) (later c)
says-later b x y contents.Equal h = ap (λ l. b ∷ l) h
says-later b x y (contents.Differ p u v) h = (omega (arith, h.0), ap (λ l. b ∷ l) h.1, h.2, h.3, h.4)
says-later b x y (contents.Begins n) h = (omega (arith, h.0), ap (λ l. b ∷ l) h.1, omega (arith, h.2))

-- what is said of two runs is so
pub content-says : (x y : List ℕ) → Says x y (content_of x y)
unfolding content_from
content-says [] [] = refl
content-says [] (v ∷ y) = (omega arith, refl, omega arith)
content-says (u ∷ x) [] = (omega arith, refl, omega arith)
content-says (u ∷ x) (v ∷ y) =
    cases (eqb u v)
    (λ t. simp (t, content-later 0 x y, ← eqb-true u v t) (says-later u x y (content_of x y) (content-says x y)))
    (λ f. simp f (omega arith, refl, refl, refl, eqb-false u v f))

-- two runs are said to be equal exactly when they are
pub content-equal-same : (x y : List ℕ) → content_of x y ≡ contents.Equal ↔ x ≡ y
content-equal-same x y = (λ e. subst (Says x y) e (content-says x y), λ e. subst (λ z. content_of x z ≡ contents.Equal) e (content-same 0 x))

-- ---- ranks

same_test : (a b c d : ℕ) → (a < b → c < d) → (b ≤ a → d ≤ c) → ltb a b ≡ ltb c d
same_test a b c d f g = cases (ltb a b) (λ t. t ∙ sym (lt-ltb c d (f (ltb-true a b t)))) (λ t. t ∙ sym (le-ltb c d (g (ltb-false a b t))))

-- ranks rise as signed distances do
pub rank_rises : (x y : ℤ) → mag x < 2 ^ 31 → mag y < 2 ^ 31 → lt_z x y ≡ ltb (rank_by x) (rank_by y)
rank_rises (pos d) (pos e) h g = same_test d e (2 ^ 31 + d) (2 ^ 31 + e) (λ l. omega arith) (λ l. omega arith)
rank_rises (pos d) (negsuc e) h g = sym (le-ltb (2 ^ 31 + d) (2 ^ 31 - 1 - e) (omega arith))
rank_rises (negsuc d) (pos e) h g = sym (lt-ltb (2 ^ 31 - 1 - d) (2 ^ 31 + e) (omega arith))
rank_rises (negsuc d) (negsuc e) h g = same_test e d (2 ^ 31 - 1 - d) (2 ^ 31 - 1 - e) (λ l. omega arith) (λ l. omega arith)

-- so of two numbers that are not far from the start number the one of the lower rank is the one of the lower distance
pub near-rises : (start n m : ℕ) (x y : ℤ) → start < 2 ^ 32 → distance_of n start ≡ Some x → distance_of m start ≡ Some y
    → lt_z x y ≡ ltb (rank_of start n) (rank_of start m)
near-rises start n m x y s h g =
    rw (← rank-by start n x s h, ← rank-by start m y s g) (rank_rises x y (omega (arith, by-small n start x h)) (omega (arith, by-small m start y g)))

-- ---- which differences are listed

infix 4 ◌∈◌
abbrev pub ◌∈◌ : {A : Type 0} → A → List A → Type 0
x ∈ list = Memᴰ x list

abbrev pub entry : ℕ → Difference → Listed
entry n d = record { number = n; what = d }

list-says : (a b : List ℕ) → list_of a b ≡ list_below a b (start_of a) (2 ^ 32)
unfolding list_of
list-says a b = refl

for-exact : (n : ℕ) (ds : List Difference) (d : Listed) → d ∈ listed_for n ds → (d.number ≡ n) × (d.what ∈ ds)
for-exact n [] d m = absurd (Memᴰ.not-nil m)
for-exact n (x ∷ ds) d (Memᴰ.head e) = (ap (λ l. l.number) e, Memᴰ.head (ap (λ l. l.what) e))
for-exact n (x ∷ ds) d (Memᴰ.tail m) = let h = for-exact n ds d m in (h.0, Memᴰ.tail h.1)

for-complete : (n : ℕ) {d : Difference} {ds : List Difference} → d ∈ ds → entry n d ∈ listed_for n ds
for-complete n (Memᴰ.head e) = Memᴰ.head (ap (entry n) e)
for-complete n (Memᴰ.tail m) = Memᴰ.tail (for-complete n m)

module _ (a b : List ℕ) (start : ℕ) where
  below-exact : (k : ℕ) (d : Listed) → d ∈ list_below a b start k → (d.number < 2 ^ 32) × (d.what ∈ differences_on a b d.number)
  unfolding list_below
  below-exact zero d m = absurd (Memᴰ.not-nil m)
  below-exact (suc k) d m =
      elim (Memᴰ.append_cases (list_below a b start k) m) [
        | inl i ↦ below-exact k d i
        | inr i ↦ let h = for-exact (number_of start k) _ d i in rw h.0 (number_lt start k, h.1)
      ]

  below-complete : (k rank n : ℕ) (d : Difference) → rank < k → number_of start rank ≡ n → d ∈ differences_on a b n → entry n d ∈ list_below a b start k
  unfolding list_below
  below-complete zero rank n d h e m = absurd (omega arith)
  below-complete (suc k) rank n d h e m =
      cases (eqb rank k)
      (λ t.
      let here : number_of start k ≡ n = sym (ap (number_of start) (eqb-true rank k t)) ∙ e in
      Memᴰ.append_right (list_below a b start k) (rw here (for-complete n m)))
      (λ f.
      let other = eqb-false rank k f in
      Memᴰ.append_left _ (below-complete k rank n d (omega arith) e m))

module _ (a b : List ℕ) where
  -- each entry is a difference on its number
  pub listed-exact : (d : Listed) → d ∈ list_of a b → (d.number < 2 ^ 32) × (d.what ∈ differences_on a b d.number)
  listed-exact d m = below-exact a b (start_of a) (2 ^ 32) d (rw list-says at m)

  -- each difference on a number has an entry
  pub listed-complete : (n : ℕ) (d : Difference) → n < 2 ^ 32 → d ∈ differences_on a b n → entry n d ∈ list_of a b
  listed-complete n d h m =
      let start = start_of a in
      rw list-says (below-complete a b start (2 ^ 32) (rank_of start n) n d (rank_lt start n) (number-of-rank start n (start_small a) h) m)

-- ---- the differences on a number

-- what a recording has of a number, and whether a repeat of it has other content
abbrev pub standing_of : List ℕ → ℕ → Standing
standing_of a n = standing a (body_of a).messages n

abbrev pub conflict_of : List ℕ → ℕ → Bool
conflict_of a n = conflicted a (body_of a).messages n

all_of : Bool → Bool → Standing → Standing → List Difference
all_of c e s t = conflict_as c ConflictFirst ++ (conflict_as e ConflictSecond ++ part_as s t)

on-says : (a b : List ℕ) (n : ℕ) → differences_on a b n ≡ all_of (conflict_of a n) (conflict_of b n) (standing_of a n) (standing_of b n)
unfolding differences_on all_of
on-says a b n = refl

-- ---- their order

module _ {A : Type 0} (key : A → ℕ) where
  -- the keys rise strictly, from the least on and below the limit
  unfoldable pub Rising : ℕ → ℕ → List A → Type 0
  Rising least limit [] = least ≤ limit
  Rising least limit (x ∷ rest) = (least ≤ key x) × Rising (suc (key x)) limit rest

  rising-from : (least other limit : ℕ) (list : List A) → other ≤ least → Rising least limit list → Rising other limit list
  unfolding Rising
  rising-from least other limit [] h r = le_trans h r
  rising-from least other limit (x ∷ rest) h r = (le_trans h r.0, r.1)

  rising-append : (least middle limit : ℕ) (xs ys : List A) → Rising least middle xs → Rising middle limit ys → Rising least limit (xs ++ ys)
  unfolding Rising
  rising-append least middle limit [] ys r s = rising-from middle least limit ys r s
  rising-append least middle limit (x ∷ xs) ys r s = (r.0, rising-append (suc (key x)) middle limit xs ys r.1 s)

-- a conflict of the first, a conflict of the second, the rest
abbrev pub place_of : Difference → ℕ
place_of ConflictFirst = 0
place_of ConflictSecond = 1
place_of First = 2
place_of Second = 2
place_of (Differ p u v) = 2
place_of (Begins n) = 2

-- by the number's rank, and on one number by the place
abbrev pub key_of : ℕ → Listed → ℕ
key_of start d = rank_of start d.number * 3 + place_of d.what

conflict-rises : (c : Bool) (d : Difference) → Rising place_of (place_of d) (suc (place_of d)) (conflict_as c d)
unfolding Rising
conflict-rises true d = omega arith
conflict-rises false d = omega arith

content-rises : (c : Content) → Rising place_of 2 3 (content_as c)
unfolding Rising
content-rises contents.Equal = omega arith
content-rises (contents.Differ p u v) = omega arith
content-rises (contents.Begins n) = omega arith

part-rises : (s t : Standing) → Rising place_of 2 3 (part_as s t)
unfolding Rising
part-rises Absent Absent = omega arith
part-rises (Run x) Absent = omega arith
part-rises Absent (Run y) = omega arith
part-rises (Run x) (Run y) = content-rises (content_of x y)

all-rises : (c e : Bool) (s t : Standing) → Rising place_of 0 3 (all_of c e s t)
unfolding all_of
all-rises c e s t =
    rising-append place_of 0 1 3 _ _ (conflict-rises c ConflictFirst) (rising-append place_of 1 2 3 _ _ (conflict-rises e ConflictSecond) (part-rises s t))

for-rises : (start n least limit low high : ℕ) (ds : List Difference) → least ≤ rank_of start n * 3 + low → rank_of start n * 3 + high ≤ limit
    → Rising place_of low high ds → Rising (key_of start) least limit (listed_for n ds)
unfolding Rising
for-rises start n least limit low high [] h g r = omega arith
for-rises start n least limit low high (d ∷ ds) h g r =
    (omega (arith, r.0), for-rises start n (suc (key_of start (entry n d))) limit (suc (place_of d)) high ds (omega arith) g r.1)

below-rises : (a b : List ℕ) (start k : ℕ) → start < 2 ^ 32 → k ≤ 2 ^ 32 → Rising (key_of start) 0 (k * 3) (list_below a b start k)
unfolding list_below Rising
below-rises a b start zero s h = omega arith
below-rises a b start (suc k) s h =
    let n = number_of start k in
    let e = rank-of-number start k s h in
    rising-append (key_of start) 0 (k * 3) (suc k * 3) (list_below a b start k) _ (below-rises a b start k s (omega arith))
    (for-rises start n (k * 3) (suc k * 3) 0 3 (differences_on a b n) (omega arith) (omega arith) (rw on-says (all-rises _ _ _ _)))

-- the entries rise by the number's rank and then the place, so each stands there once
pub listed-in-order : (a b : List ℕ) → Rising (key_of (start_of a)) 0 (2 ^ 32 * 3) (list_of a b)
listed-in-order a b = rw list-says (below-rises a b (start_of a) (2 ^ 32) (start_small a) (le_refl _))

-- ---- where nothing is listed

none_of : {A : Type 0} (list : List A) → ((x : A) → x ∈ list → ⊥) → list ≡ []
none_of [] h = refl
none_of (x ∷ rest) h = absurd (h x (Memᴰ.head refl))

none_in : {A : Type 0} {list : List A} {x : A} → list ≡ [] → x ∈ list → ⊥
none_in e m = Memᴰ.not-nil (rw e at m)

never : {A X : Type 0} {x : A} {rest : List A} → x ∷ rest ≡ [] → X
never e = let z : ◌≡◌ {A = ℕ} 0 1 = cc in absurd (omega arith)

same-content : (x y : List ℕ) (c : Content) → Says x y c → content_as c ≡ [] → x ≡ y
same-content x y contents.Equal h e = h
same-content x y (contents.Differ p u v) h e = never e
same-content x y (contents.Begins n) h e = never e

same-part : (s t : Standing) → part_as s t ≡ [] → s ≡ t
same-part Absent Absent e = refl
same-part (Run x) Absent e = never e
same-part Absent (Run y) e = never e
same-part (Run x) (Run y) e = ap Run (same-content x y (content_of x y) (content-says x y) e)

part_same : (s : Standing) → part_as s s ≡ []
part_same Absent = refl
part_same (Run x) = ap content_as (content-same 0 x)

-- the same stands in both, and neither has a conflict
abbrev pub Agree : List ℕ → List ℕ → ℕ → Type 0
Agree a b n = (standing_of a n ≡ standing_of b n) × (conflict_of a n ≡ false) × (conflict_of b n ≡ false)

all-agree : (c e : Bool) (s t : Standing) → all_of c e s t ≡ [] → (s ≡ t) × (c ≡ false) × (e ≡ false)
unfolding all_of
all-agree true e s t h = never h
all-agree false true s t h = never h
all-agree false false s t h = (same-part s t h, refl, refl)

agree-all : (c e : Bool) (s t : Standing) → (s ≡ t) × (c ≡ false) × (e ≡ false) → all_of c e s t ≡ []
unfolding all_of
agree-all c e s t h = rw (h.0, h.1, h.2) (part_same t)

on_none : (a b : List ℕ) (n : ℕ) → differences_on a b n ≡ [] ↔ Agree a b n
on_none a b n = rw on-says (all-agree _ _ _ _, agree-all _ _ _ _)

-- nothing is listed exactly when the recordings agree on every number
pub listed-none : (a b : List ℕ) → list_of a b ≡ [] ↔ ((n : ℕ) → n < 2 ^ 32 → Agree a b n)
listed-none a b = (
  λ e n h. (on_none a b n).0 (none_of _ (λ d m. none_in e (listed-complete a b n d h m))),
  λ h. none_of _ (λ d m. let l = listed-exact a b d m in none_in ((on_none a b d.number).1 (h d.number l.0)) l.1),
)

-- ---- the recordings exchanged

-- a difference as it is with the recordings exchanged, and an entry
abbrev pub turned : Difference → Difference
turned First = Second
turned Second = First
turned (Differ p u v) = Differ p v u
turned (Begins n) = Begins n
turned ConflictFirst = ConflictSecond
turned ConflictSecond = ConflictFirst

abbrev pub exchanged : Listed → Listed
exchanged d = entry d.number (turned d.what)

turned-twice : (d : Difference) → turned (turned d) ≡ d
turned-twice First = refl
turned-twice Second = refl
turned-twice (Differ p u v) = refl
turned-twice (Begins n) = refl
turned-twice ConflictFirst = refl
turned-twice ConflictSecond = refl

-- exchanged twice, an entry is as it was
pub exchanged-twice : (d : Listed) → exchanged (exchanged d) ≡ d
exchanged-twice d = ap (entry d.number) (turned-twice d.what)

conflict-turned : (c : Bool) (x : Difference) {d : Difference} → d ∈ conflict_as c x → turned d ∈ conflict_as c (turned x)
conflict-turned true x m = Memᴰ.map turned m
conflict-turned false x m = Memᴰ.map turned m

content-turned : (k : ℕ) (x y : List ℕ) → content_as (content_from k y x) ≡ map turned (content_as (content_from k x y))
unfolding content_from
content-turned k [] [] = refl
content-turned k [] (v ∷ y) = refl
content-turned k (u ∷ x) [] = refl
content-turned k (u ∷ x) (v ∷ y) =
    cases (eqb u v)
    (λ t. simp (t, eq-eqb v u (sym (eqb-true u v t))) (content-turned (k + 1) x y))
    (λ f. simp (f, ne_eqb v u (λ e. eqb-false u v f (sym e))))

part_turned : (s t : Standing) {d : Difference} → d ∈ part_as s t → turned d ∈ part_as t s
part_turned Absent Absent m = Memᴰ.map turned m
part_turned (Run x) Absent m = Memᴰ.map turned m
part_turned Absent (Run y) m = Memᴰ.map turned m
part_turned (Run x) (Run y) m = rw (content-turned 0 x y) (Memᴰ.map turned m)

all-turned : (c e : Bool) (s t : Standing) {d : Difference} → d ∈ all_of c e s t → turned d ∈ all_of e c t s
unfolding all_of
all-turned c e s t m =
    elim (Memᴰ.append_cases (conflict_as c ConflictFirst) m) [
      | inl i ↦ Memᴰ.append_right (conflict_as e ConflictFirst) (Memᴰ.append_left _ (conflict-turned c ConflictFirst i))
      | inr r ↦ elim (Memᴰ.append_cases (conflict_as e ConflictSecond) r) [
        | inl i ↦ Memᴰ.append_left _ (conflict-turned e ConflictSecond i)
        | inr i ↦ Memᴰ.append_right (conflict_as e ConflictFirst) (Memᴰ.append_right (conflict_as c ConflictSecond) (part_turned s t i))
      ]
    ]

-- an entry of the list, exchanged, is an entry of the list of the recordings exchanged
pub listed-exchanged : (a b : List ℕ) (d : Listed) → d ∈ list_of a b → exchanged d ∈ list_of b a
listed-exchanged a b d m =
    let h = listed-exact a b d m in
    listed-complete b a d.number (turned d.what) h.0 (rw on-says (all-turned _ _ _ _ (rw on-says at h.1)))

-- ---- the place of a message

-- the lines of a recording from a place and a line on, counted from 1
abbrev pub LinesAt : List ℕ → ℕ → ℕ → List (List ℕ) → Type 0
LinesAt input at line lines = (lines_of (drop at input) ≡ lines) × (drop (line - 1) (lines_of input) ≡ lines)

-- the line of a message's frame begins at its place, a Data's payload is the next line, and its run is what they spell
pub data Stands (input : List ℕ) (m : Message) : Type 0 where
  alone : (frame : List ℕ) (rest : List (List ℕ)) → LinesAt input m.at m.line (frame ∷ rest) → line_found None m.at m.line frame ≡ found.Holds m
      → run_at input m.at ≡ line_bytes frame → Stands input m
  with-payload : (frame payload : List ℕ) (rest : List (List ℕ)) → LinesAt input m.at m.line (frame ∷ payload ∷ rest)
      → line_found None m.at m.line frame ≡ found.Awaits m → is_payload payload ≡ true → run_at input m.at ≡ line_bytes frame ++ line_bytes payload
      → Stands input m

clash : {X : Type 0} → ◌≡◌ {A = ℕ} 0 1 → X
clash z = absurd (omega arith)

-- a frame's line is found the same wherever it stands, but for the place and the line
abbrev HoldsAt : Found → Found → ℕ → ℕ → Message → Type 0
HoldsAt f g at line m = f ≡ found.Holds m → (m.at ≡ at) × (m.line ≡ line) × ((text : List ℕ) → payload_after g text ≡ [])

abbrev AwaitsAt : Found → Found → ℕ → ℕ → Message → Type 0
AwaitsAt f g at line m = f ≡ found.Awaits m → (m.at ≡ at) × (m.line ≡ line) × ((text : List ℕ) → payload_after g text ≡ line_bytes text)

module _ (at line : ℕ) (m : Message) where
  placed : {P : Type 0} (n : Seq) → m ≡ record { number = n; at = at; line = line } → P → (m.at ≡ at) × (m.line ≡ line) × P
  placed n e p = (ap (λ x. x.at) e, ap (λ x. x.line) e, p)

  carried-holds : (f : Option (ReliableMsg × Seq)) → HoldsAt (found_carried f at line) (found_carried f 0 0) at line m
  carried-holds (Some (reliable.Data, n)) e = clash (cc)
  carried-holds (Some ((reliable.Consumed k), n)) e = placed n (cc) (λ text. refl)
  carried-holds (Some (reliable.SendFinish, n)) e = placed n (cc) (λ text. refl)
  carried-holds (Some (reliable.ReceiveClose, n)) e = placed n (cc) (λ text. refl)
  carried-holds (Some (reliable.ReceiveFinish, n)) e = placed n (cc) (λ text. refl)
  carried-holds None e = clash (cc)

  carried-awaits : (f : Option (ReliableMsg × Seq)) → AwaitsAt (found_carried f at line) (found_carried f 0 0) at line m
  carried-awaits (Some (reliable.Data, n)) e = placed n (cc) (λ text. refl)
  carried-awaits (Some ((reliable.Consumed k), n)) e = clash (cc)
  carried-awaits (Some (reliable.SendFinish, n)) e = clash (cc)
  carried-awaits (Some (reliable.ReceiveClose, n)) e = clash (cc)
  carried-awaits (Some (reliable.ReceiveFinish, n)) e = clash (cc)
  carried-awaits None e = clash (cc)

  reading-holds : (r : Result LinkMsg Refusal) → HoldsAt (found_reading r at line) (found_reading r 0 0) at line m
  reading-holds (Ok msg) e = carried-holds (from_link msg) e
  reading-holds (Err r) e = clash (cc)

  reading-awaits : (r : Result LinkMsg Refusal) → AwaitsAt (found_reading r at line) (found_reading r 0 0) at line m
  reading-awaits (Ok msg) e = carried-awaits (from_link msg) e
  reading-awaits (Err r) e = clash (cc)

  frame-holds : (text : List ℕ) → HoldsAt (line_found None at line text) (line_found None 0 0 text) at line m
  unfolding line_found
  frame-holds text e = reading-holds (frame_of text) e

  frame-awaits : (text : List ℕ) → AwaitsAt (line_found None at line text) (line_found None 0 0 text) at line m
  unfolding line_found
  frame-awaits text e = reading-awaits (frame_of text) e

payload-holds : (b : Bool) (n m : Message) → found_payload b n ≡ found.Holds m → (b ≡ true) × (m ≡ n)
payload-holds true n m e = (refl, cc)
payload-holds false n m e = clash (cc)

payload-waits : (b : Bool) (n m : Message) → found_payload b n ≡ found.Awaits m → ⊥
payload-waits true n m e = clash (cc)
payload-waits false n m e = clash (cc)

-- the run of a line with nothing behind it that is its payload
run_alone : (frame : List ℕ) (rest : List (List ℕ)) → ((text : List ℕ) → payload_after (line_found None 0 0 frame) text ≡ []) → run_in (frame ∷ rest) ≡ line_bytes frame
run_alone frame [] h = refl
run_alone frame (payload ∷ rest) h = ap (λ l. line_bytes frame ++ l) (h payload) ∙ append-nil (line_bytes frame)

-- the line after one begins behind its line feed
next-lines : (input : List ℕ) (at : ℕ) (text : List ℕ) (rest : List (List ℕ)) → lines_of (drop at input) ≡ text ∷ rest → lines_of (drop (at + length text + 1) input) ≡ rest
next-lines input at text rest e =
    let first = until_feed (drop at input) in
    cases (ltb (at + length first) (length input))
    (λ t.
    let l = line-ended input at (ltb-true (at + length first) (length input) t) in
    let same : first ≡ text = cc in
    let others : lines_of (drop (at + length first + 1) input) ≡ rest = cc in
    ap (λ x. lines_of (drop (at + length x + 1) input)) (sym same) ∙ others)
    (λ f.
    let past = ltb-false (at + length first) (length input) f in
    cases (ltb at (length input))
    (λ t.
    let l = line-last input at (ltb-true at (length input) t) past in
    let same : first ≡ text = cc in
    let none : [] ≡ rest = cc in
    line-none input (at + length text + 1) (omega (arith, ap length same)) ∙ none)
    (λ g. never (sym e ∙ line-none input at (ltb-false at (length input) g))))

next-at : (input : List ℕ) (at line : ℕ) (text : List ℕ) (rest : List (List ℕ)) → 0 < line → LinesAt input at line (text ∷ rest)
    → LinesAt input (at + length text + 1) (line + 1) rest
next-at input at line text rest h here =
    let k : line - 1 + 1 ≡ line + 1 - 1 = omega arith in
    (next-lines input at text rest here.0, sym (ap (λ n. drop n (lines_of input)) k) ∙ sym (drop-drop 1 (line - 1) (lines_of input)) ∙ ap (drop 1) here.1)

-- the frame of a payload that is waited for stands just before
abbrev Before : List ℕ → Option Message → List (List ℕ) → Type 0
Before input None lines = Unit {0}
Before input (Some m) lines = (frame : List ℕ) × LinesAt input m.at m.line (frame ∷ lines) × (line_found None m.at m.line frame ≡ found.Awaits m)

module _ (input : List ℕ) where
  -- a message's own place and line are those at which it was found
  own : (at line : ℕ) (m : Message) (lines : List (List ℕ)) → m.at ≡ at → m.line ≡ line → LinesAt input at line lines → LinesAt input m.at m.line lines
  own at line m lines p q here = (ap (λ k. lines_of (drop k input)) p ∙ here.0, ap (λ k. drop (k - 1) (lines_of input)) q ∙ here.1)

  is-alone : (at line : ℕ) (m : Message) (text : List ℕ) (rest : List (List ℕ)) → LinesAt input at line (text ∷ rest)
      → line_found None at line text ≡ found.Holds m → Stands input m
  unfolding run_at
  is-alone at line m text rest here e =
      let h = frame-holds at line m text e in
      let lines = own at line m (text ∷ rest) h.0 h.1 here in
      alone text rest lines (cc) (ap run_in lines.0 ∙ run_alone text rest h.2)

  is-before : (at line : ℕ) (m : Message) (text : List ℕ) (rest : List (List ℕ)) → LinesAt input at line (text ∷ rest)
      → line_found None at line text ≡ found.Awaits m → Before input (Some m) rest
  is-before at line m text rest here e =
      let h = frame-awaits at line m text e in
      (text, own at line m (text ∷ rest) h.0 h.1 here, cc)

  is-with : (m : Message) (text : List ℕ) (rest : List (List ℕ)) → Before input (Some m) (text ∷ rest) → is_payload text ≡ true → Stands input m
  unfolding run_at
  is-with m text rest b t =
      let h = frame-awaits m.at m.line m b.0 b.2 in
      with-payload b.0 text rest b.1 b.2 t (ap run_in b.1.0 ∙ ap (λ l. line_bytes b.0 ++ l) (h.2 text))

  module _ (text : List ℕ) (rest : List (List ℕ)) (at line : ℕ) (here : LinesAt input at line (text ∷ rest)) (after : Option Message → Body)
      (later-stands : (v : Option Message) → Before input v rest → (m : Message) → m ∈ (after v).messages → Stands input m) (m : Message) where
    step-stands : (w : Option Message) (f : Found) → Before input w (text ∷ rest) → line_found w at line text ≡ f → m ∈ (body_as f line after).messages → Stands input m
    unfolding line_found
    step-stands w found.Bad b e i = absurd (Memᴰ.not-nil i)
    step-stands None (found.Awaits n) b e i = later-stands (Some n) (is-before at line n text rest here e) m i
    step-stands (Some n) (found.Awaits k) b e i = absurd (payload-waits (is_payload text) n k e)
    step-stands None (found.Holds n) b e (Memᴰ.head p) = is-alone at line m text rest here (e ∙ ap found.Holds (sym p))
    step-stands (Some n) (found.Holds k) b e (Memᴰ.head p) =
        let h = payload-holds (is_payload text) n k e in
        let same : n ≡ m = sym (p ∙ h.1) in
        is-with m text rest (subst (λ x. Before input (Some x) (text ∷ rest)) same b) h.0
    step-stands w (found.Holds n) b e (Memᴰ.tail i) = later-stands None tt m i
    step-stands w found.Passes b e i = later-stands None tt m i

  from-stands : (w : Option Message) (at line : ℕ) (lines : List (List ℕ)) → 0 < line → LinesAt input at line lines → Before input w lines
      → (m : Message) → m ∈ (body_from w at line lines).messages → Stands input m
  unfolding body_from
  from-stands w at line [] h here b m i = absurd (Memᴰ.not-nil i)
  from-stands w at line (text ∷ rest) h here b m i =
      step-stands text rest at line here (λ v. body_from v (at + length text + 1) (line + 1) rest)
      (λ v. from-stands v (at + length text + 1) (line + 1) rest (omega arith) (next-at input at line text rest h here))
      m w (line_found w at line text) b refl i

  after-stands : (s : Option Seq) (text : List ℕ) (rest : List (List ℕ)) → lines_of input ≡ text ∷ rest → (m : Message) → m ∈ (body_after s text rest).messages → Stands input m
  after-stands (Some start) text rest e m i =
      let same : length text ≡ 0 + length text = omega arith in
      let next = next-at input 0 1 text rest (omega arith) (e, e) in
      from-stands None (length text + 1) 2 rest (omega arith) (ap (λ k. lines_of (drop (k + 1) input)) same ∙ next.0, next.1) tt m i
  after-stands None text rest e m i = absurd (Memᴰ.not-nil i)

  in-stands : (lines : List (List ℕ)) → lines_of input ≡ lines → (m : Message) → m ∈ (body_in lines).messages → Stands input m
  in-stands [] e m i = absurd (Memᴰ.not-nil i)
  in-stands (text ∷ rest) e m i = after-stands (start_line text) text rest e m i

  -- each message of a recording stands at its place and its line
  pub message-stands : (m : Message) → m ∈ (body_of input).messages → Stands input m
  unfolding body_of
  message-stands m i = in-stands (lines_of input) refl m i
