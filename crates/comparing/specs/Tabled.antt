-- A table that is filled message by message says what the messages say: which numbers there are, what stands for each, and which are in
-- conflict. Assumes nothing.
use Rattle.std.specs.Prelude.{◌≡◌, Bool, true, false, cond, ◌||◌, ltb, length, drop, Some, None, Option, ℤ}
use Rattle.std.proofs.Math.Path.{refl, sym, ap}
use Rattle.std.proofs.Common.{◌∙◌, arith}
use mathlib.Core.List.{List, [], ◌∷◌}
use Prim.Native.Nat.{ℕ, zero, suc, ◌^◌, ◌≤◌, ◌<◌}
use Rattle.std.proofs.Math.Dec.{eqb}
use borrow.Author.Tests.{eqb-true, eqb-false, ne_eqb, ltb-true, ltb-false, lt-ltb, le-ltb}
use borrow.Table.Steps.{cases}
use Rattle.seq.specs.Distance.{distance_of, by-small}
use Rattle.comparing.specs.declared.messages.Message.{Message}
use Rattle.comparing.specs.declared.table.Row.{Row}
use Rattle.comparing.specs.Messages.{body_of, start_of}
use Rattle.comparing.specs.Runs.{content_from, content_of, is_equal, run_at, content-same}
use Rattle.comparing.specs.Ranks.{rank_by, number_of, far_as, far_at, rank-by-lt, number_lt, rank_of, rank-of-number, number-of-rank, rank-by}
use Rattle.comparing.specs.Rows.{row, Rising, position_in, insert_at, held_first, held_in, held-position, insert-length, insert-rising, insert-same, insert-other, marked-length, marked-rising, marked-same, marked_other}
use Rattle.comparing.specs.Table.{earliest, Table, no_numbers, repeated, added, entered_as, entered_at, entered_by, entered, tabled, added-room, added_full}
use Rattle.comparing.specs.Differences.{Standing, Absent, Run, standing, other_than, conflicted_as, conflicted, differences_on}
use Rattle.comparing.specs.Judging.{far_line, is_among, with_number, numbers_with, many_line, line_in}
use Rattle.comparing.specs.Says.{Sane, standing_held, flag_held, held_differences, Says}
use Rattle.comparing.specs.Sanity.{body-sane, start_small}

-- ---- what a message makes of a table: it is far, or its number is held already, or it is new, or it is new to a full table

-- a far message has no rank: the 0 that stands for it is asked for nowhere
abbrev rank_as : Option ℤ → ℕ
rank_as (Some d) = rank_by d
rank_as None = 0

abbrev rank_for : ℕ → Message → ℕ
rank_for start m = rank_as (distance_of m.number.0 start)

-- the row where its number stands, and what is held there
abbrev row_for : ℕ → Table → Message → ℕ
row_for start t m = position_in (rank_for start m) t.rows

abbrev held_for : ℕ → Table → Message → Option (ℕ × Bool)
held_for start t m = held_first (rank_for start m) (drop (row_for start t m) t.rows)

abbrev entered_with : Table → List Row → Option ℕ → Table
entered_with t rows many = record { rows = rows; far = t.far; many = many }

data Enters (input : List ℕ) (start : ℕ) (t : Table) (m : Message) : Type 0 where
  again : (place : ℕ) (flag : Bool) → far_at start m ≡ 0 → held_for start t m ≡ Some (place, flag)
      → entered input start t m ≡ entered_with t (repeated input place m.at (row_for start t m) t.rows) t.many → Enters input start t m
  new : far_at start m ≡ 0 → held_for start t m ≡ None → length t.rows < 1024
      → entered input start t m ≡ entered_with t (insert_at (row_for start t m) (row (rank_for start m) m.at false) t.rows) t.many → Enters input start t m
  full : far_at start m ≡ 0 → held_for start t m ≡ None → 1024 ≤ length t.rows
      → entered input start t m ≡ entered_with t t.rows (earliest t.many m.line) → Enters input start t m
  far : far_at start m ≡ m.line → entered input start t m ≡ record { rows = t.rows; far = earliest t.far m.line; many = t.many } → Enters input start t m

-- by whether a line is told
told-or : {X : Type 0} (line : Option ℕ) → (line ≡ None → X) → ((line ≡ None → ⊥) → X) → X
told-or None without with_it = without refl
told-or (Some n) without with_it = with_it (λ e. let z : ◌≡◌ {A = ℕ} 0 1 = cc in omega arith)

module _ (start : ℕ) (m : Message) where
  small-as : (a : Option ℤ) → distance_of m.number.0 start ≡ a → rank_as a < 2 ^ 32
  small-as (Some d) e = rank-by-lt d (omega (arith, by-small m.number.0 start d e))
  small-as None e = omega arith

  rank-small : rank_for start m < 2 ^ 32
  rank-small = small-as (distance_of m.number.0 start) refl

  -- a message that is not far has its number's rank
  near-as : (a : Option ℤ) → distance_of m.number.0 start ≡ a → start < 2 ^ 32 → 0 < m.line → far_as a m.line ≡ 0 → rank_as a ≡ rank_of start m.number.0
  near-as (Some d) e low counted near = rank-by start m.number.0 d low e
  near-as None e low counted near = absurd (omega arith)

  rank-near : start < 2 ^ 32 → 0 < m.line → far_at start m ≡ 0 → rank_for start m ≡ rank_of start m.number.0
  unfolding far_at
  rank-near low counted near = near-as (distance_of m.number.0 start) refl low counted near

module _ (input : List ℕ) (start : ℕ) (t : Table) (m : Message) where
  enters-as : (held : Option (ℕ × Bool)) → far_at start m ≡ 0 → held_for start t m ≡ held → entered input start t m ≡ entered_at input (rank_for start m) m t → Enters input start t m
  enters-as None near e is =
      cases (ltb (length t.rows) 1024)
      (λ b.
      let room = ltb-true (length t.rows) 1024 b in
      new near e room (is ∙ rw e (added-room (row_for start t m) (rank_for start m) m t room)))
      (λ b.
      let past = ltb-false (length t.rows) 1024 b in
      full near e past (is ∙ rw e (added_full (row_for start t m) (rank_for start m) m t past)))
  enters-as (Some (place, flag)) near e is = again place flag near e (is ∙ rw e)

  enters-by : (a : Option ℤ) → distance_of m.number.0 start ≡ a → Enters input start t m
  unfolding entered far_at
  enters-by (Some d) e = enters-as (held_for start t m) (rw e) refl (rw e)
  enters-by None e = far (rw e) (rw e)

  enters : Enters input start t m
  enters = enters-by (distance_of m.number.0 start) refl

  -- in rising rows a number is held nowhere else
  held-there : Rising 0 t.rows → held_in (rank_for start m) t.rows ≡ held_for start t m
  held-there h = held-position (rank_for start m) 0 t.rows h

-- ---- the rows rise, at most 1,024

rising_none : Rising 0 []
unfolding Rising
rising_none = omega arith

module _ (input : List ℕ) (first at i : ℕ) (rows : List Row) where
  repeated-length : length (repeated input first at i rows) ≡ length rows
  unfolding repeated
  repeated-length = cases (is_equal (content_of (run_at input first) (run_at input at))) (λ t. simp t) (λ f. simp f (marked-length i rows))

  repeated-rising : Rising 0 rows → Rising 0 (repeated input first at i rows)
  unfolding repeated
  repeated-rising h = cases (is_equal (content_of (run_at input first) (run_at input at))) (λ t. simp t h) (λ f. simp f (marked-rising 0 i rows h))

module _ (input : List ℕ) (start : ℕ) (t : Table) (m : Message) where
  pub entered-rising : Rising 0 t.rows → Rising 0 (entered input start t m).rows
  entered-rising h =
      elim (enters input start t m) [
        | again place flag close e is ↦ rw is (repeated-rising input place m.at (row_for start t m) t.rows h)
        | new close e room is ↦
            rw is (insert-rising (row (rank_for start m) m.at false) 0 t.rows h (omega arith) (rank-small start m) (held-there input start t m h ∙ e))
        | full close e past is ↦ rw is h
        | far line is ↦ rw is h
      ]

  pub entered-length : length t.rows ≤ 1024 → length (entered input start t m).rows ≤ 1024
  entered-length h =
      elim (enters input start t m) [
        | again place flag close e is ↦ rw is (omega (arith, repeated-length input place m.at (row_for start t m) t.rows))
        | new close e room is ↦ rw is (omega (arith, insert-length (row (rank_for start m) m.at false) (row_for start t m) t.rows))
        | full close e past is ↦ rw is h
        | far line is ↦ rw is h
      ]

rising-after : (input : List ℕ) (start : ℕ) (t : Table) (ms : List Message) → Rising 0 t.rows → Rising 0 (tabled input start t ms).rows
unfolding tabled
rising-after input start t [] h = h
rising-after input start t (m ∷ rest) h = rising-after input start (entered input start t m) rest (entered-rising input start t m h)

pub tabled-rising : (input : List ℕ) (start : ℕ) (ms : List Message) → Rising 0 (tabled input start no_numbers ms).rows
tabled-rising input start ms = rising-after input start no_numbers ms rising_none

-- ---- the line of the first far message

-- the line that is told in the end
told_then : Option ℕ → ℕ → Option ℕ
told_then None line = line_in line
told_then (Some told) line = Some told

then-none : (line : Option ℕ) → told_then line 0 ≡ line
unfolding told_then
then-none None = refl
then-none (Some told) = refl

then-far : (line : Option ℕ) (first : ℕ) → 0 < first → earliest line first ≡ told_then line first
unfolding told_then
then-far None zero h = absurd (omega arith)
then-far None (suc n) h = refl
then-far (Some told) first h = refl

then-assoc : (line : Option ℕ) (b c : ℕ) → told_then (told_then line b) c ≡ told_then line (cond (eqb b 0) c b)
unfolding told_then
then-assoc None zero c = refl
then-assoc None (suc n) c = simp (ne_eqb (suc n) 0 (λ e. omega arith))
then-assoc (Some told) b c = refl

entered-far : (input : List ℕ) (start : ℕ) (t : Table) (m : Message) → 0 < m.line → (entered input start t m).far ≡ told_then t.far (far_at start m)
entered-far input start t m counted =
    elim (enters input start t m) [
      | again place flag close e is ↦ rw (is, close) (sym (then-none t.far))
      | new close e room is ↦ rw (is, close) (sym (then-none t.far))
      | full close e past is ↦ rw (is, close) (sym (then-none t.far))
      | far line is ↦ rw (is, line) (then-far t.far m.line counted)
    ]

far-after : (input : List ℕ) (start : ℕ) (t : Table) (ms : List Message) → Sane ms → (tabled input start t ms).far ≡ told_then t.far (far_line start ms)
unfolding tabled far_line Sane
far-after input start t [] sane = sym (then-none t.far)
far-after input start t (m ∷ rest) sane =
    far-after input start (entered input start t m) rest sane.1
    ∙ ap (λ line. told_then line (far_line start rest)) (entered-far input start t m sane.0.1)
    ∙ then-assoc t.far (far_at start m) (far_line start rest)

pub tabled-far-line : (input : List ℕ) (start : ℕ) (ms : List Message) → Sane ms → (tabled input start no_numbers ms).far ≡ line_in (far_line start ms)
unfolding told_then
tabled-far-line input start ms sane = far-after input start no_numbers ms sane

-- the line of a message that is far, else what the later ones tell
abbrev far_or : Option ℤ → ℕ → Option ℕ → Option ℕ
far_or None line rest = Some line
far_or (Some d) line rest = rest

-- the line of the first message whose number is far from the start number, if there is one
unfoldable pub far_told : ℕ → List Message → Option ℕ
unfolding distance_of
far_told start [] = None
far_told start (m ∷ rest) = far_or (distance_of m.number.0 start) m.line (far_told start rest)

-- a line that was told before, else another
abbrev pub first_told : Option ℕ → Option ℕ → Option ℕ
first_told None line = line
first_told (Some told) line = Some told

earliest_first : (told : Option ℕ) (line : ℕ) (rest : Option ℕ) → first_told (earliest told line) rest ≡ first_told told (Some line)
earliest_first None line rest = refl
earliest_first (Some told) line rest = refl

-- a message that is not far tells of no far one, whatever is held of its number
as_far : (held : Option (ℕ × Bool)) (input : List ℕ) (i rank : ℕ) (m : Message) (t : Table) → (entered_as held input i rank m t).far ≡ t.far
unfolding added
as_far None input i rank m t = cases (ltb (length t.rows) 1024) (λ b. simp b) (λ b. simp b)
as_far (Some (first, flag)) input i rank m t = refl

by_far : (a : Option ℤ) (input : List ℕ) (t : Table) (m : Message) (rest : Option ℕ) → first_told (entered_by a input t m).far rest ≡ first_told t.far (far_or a m.line rest)
by_far None input t m rest = earliest_first t.far m.line rest
by_far (Some d) input t m rest =
    ap (λ told. first_told told rest) (as_far (held_first (rank_by d) (drop (position_in (rank_by d) t.rows) t.rows)) input (position_in (rank_by d) t.rows) (rank_by d) m t)

-- whatever table the messages are entered into, and whatever their lines
pub tabled-far : (input : List ℕ) (start : ℕ) (t : Table) (ms : List Message) → (tabled input start t ms).far ≡ first_told t.far (far_told start ms)
unfolding tabled far_told entered
tabled-far input start t [] = none_told t.far
  where
    none_told : (told : Option ℕ) → told ≡ first_told told None
    none_told None = refl
    none_told (Some line) = refl
tabled-far input start t (m ∷ rest) =
    tabled-far input start (entered input start t m) rest
    ∙ by_far (distance_of m.number.0 start) input t m (far_told start rest)

-- where no message is far, the first isn't, nor is any later
near-all : (start : ℕ) (m : Message) (rest : List Message) → far_line start (m ∷ rest) ≡ 0 → (far_at start m ≡ 0) × (far_line start rest ≡ 0)
unfolding far_line
near-all start m rest none =
    cases (eqb (far_at start m) 0)
    (λ t. (eqb-true (far_at start m) 0 t, simp t at none))
    (λ f. absurd (eqb-false (far_at start m) 0 f (simp f at none)))

-- ---- the line of the first number past 1,024 stays once it is told

earliest-told : (line : Option ℕ) (b : ℕ) → (line ≡ None → ⊥) → earliest line b ≡ line
earliest-told None b told = absurd (told refl)
earliest-told (Some n) b told = refl

earliest-next : (line : Option ℕ) (b : ℕ) → line ≡ None → earliest line b ≡ Some b
earliest-next line b none = rw none

earliest-some : (line : Option ℕ) (b : ℕ) → earliest line b ≡ None → ⊥
earliest-some None b e = let z : ◌≡◌ {A = ℕ} 0 1 = cc in omega arith
earliest-some (Some n) b e = let z : ◌≡◌ {A = ℕ} 0 1 = cc in omega arith

told-stays : (input : List ℕ) (start : ℕ) (t : Table) (m : Message) → (t.many ≡ None → ⊥) → (entered input start t m).many ≡ t.many
told-stays input start t m told =
    elim (enters input start t m) [
      | again place flag close e is ↦ rw is
      | new close e room is ↦ rw is
      | full close e past is ↦ rw is (earliest-told t.many m.line told)
      | far line is ↦ rw is
    ]

many-stays : (input : List ℕ) (start : ℕ) (t : Table) (ms : List Message) → (t.many ≡ None → ⊥) → (tabled input start t ms).many ≡ t.many
unfolding tabled
many-stays input start t [] told = refl
many-stays input start t (m ∷ rest) told =
    let same = told-stays input start t m told in
    many-stays input start (entered input start t m) rest (λ z. told (sym same ∙ z)) ∙ same

-- so none was told before where none is at the end
many-none : (input : List ℕ) (start : ℕ) (t : Table) (ms : List Message) → (tabled input start t ms).many ≡ None → t.many ≡ None
many-none input start t ms none =
    told-or t.many (λ b. b) (λ b. absurd (b (sym (many-stays input start t ms b) ∙ none)))

-- ---- what a table has of a number after a message of it, and after any

abbrev held_then : List ℕ → Option (ℕ × Bool) → ℕ → Option (ℕ × Bool)
held_then input None at = Some (at, false)
held_then input (Some (place, flag)) at = Some (place, (cond (is_equal (content_of (run_at input place) (run_at input at))) flag true))

abbrev held_after : List ℕ → ℕ → Option (ℕ × Bool) → Message → Option (ℕ × Bool)
held_after input n held m = cond (eqb m.number.0 n) (held_then input held m.at) held

module _ (input : List ℕ) (rank place : ℕ) (flag : Bool) (at : ℕ) (rows : List Row) (e : held_first rank (drop (position_in rank rows) rows) ≡ Some (place, flag)) where
  repeated-same : held_in rank rows ≡ Some (place, flag) → held_in rank (repeated input place at (position_in rank rows) rows) ≡ held_then input (Some (place, flag)) at
  unfolding repeated
  repeated-same held =
      cases (is_equal (content_of (run_at input place) (run_at input at)))
      (λ t. simp t held)
      (λ f. simp f (marked-same rank place flag rows e))

  repeated-elsewhere : (q : ℕ) → (rank ≡ q → ⊥) → held_in q (repeated input place at (position_in rank rows) rows) ≡ held_in q rows
  unfolding repeated
  repeated-elsewhere q ne =
      cases (is_equal (content_of (run_at input place) (run_at input at)))
      (λ t. simp t)
      (λ f. simp f (marked_other rank place flag q rows ne e))

-- where it was not far and not past 1,024
module _ (input : List ℕ) (start : ℕ) (t : Table) (m : Message) (h : Rising 0 t.rows) (counted : 0 < m.line) (near : far_at start m ≡ 0) (none : (entered input start t m).many ≡ None) where
  not_full : {X : Type 0} → entered input start t m ≡ entered_with t t.rows (earliest t.many m.line) → X
  not_full {X} is = absurd (earliest-some t.many m.line (sym (ap (λ u. u.many) is) ∙ none))

  held_same : held_in (rank_for start m) (entered input start t m).rows ≡ held_then input (held_in (rank_for start m) t.rows) m.at
  held_same =
      elim (enters input start t m) [
        | again place flag close e is ↦
            let held = held-there input start t m h ∙ e in
            rw (is, held) (repeated-same input (rank_for start m) place flag m.at t.rows e held)
        | new close e room is ↦
            let held = held-there input start t m h ∙ e in
            rw (is, held) (insert-same (row (rank_for start m) m.at false) (row_for start t m) t.rows held)
        | full close e past is ↦ not_full is
        | far line is ↦ absurd (omega arith)
      ]

  held-elsewhere : (q : ℕ) → (rank_for start m ≡ q → ⊥) → held_in q (entered input start t m).rows ≡ held_in q t.rows
  held-elsewhere q ne =
      elim (enters input start t m) [
        | again place flag close e is ↦ rw is (repeated-elsewhere input (rank_for start m) place flag m.at t.rows e q ne)
        | new close e room is ↦ rw is (insert-other (row (rank_for start m) m.at false) q (row_for start t m) t.rows ne)
        | full close e past is ↦ not_full is
        | far line is ↦ absurd (omega arith)
      ]

  held-after : start < 2 ^ 32 → m.number.0 < 2 ^ 32 → (n : ℕ) → n < 2 ^ 32
      → held_in (rank_of start n) (entered input start t m).rows ≡ held_after input n (held_in (rank_of start n) t.rows) m
  held-after low small n within =
      let rank = rank-near start m low counted near in
      cases (eqb m.number.0 n)
      (λ b.
      let same = rank ∙ ap (rank_of start) (eqb-true m.number.0 n b) in
      simp b
      (ap (λ q. held_in q (entered input start t m).rows) (sym same)
      ∙ held_same
      ∙ ap (λ q. held_then input (held_in q t.rows) m.at) same))
      (λ b.
      simp b
      (held-elsewhere (rank_of start n)
      (λ r.
      eqb-false m.number.0 n b
      (sym (number-of-rank start m.number.0 low small) ∙ ap (number_of start) (sym rank ∙ r) ∙ number-of-rank start n low within))))

-- ---- how many numbers there are

abbrev is_held : Option (ℕ × Bool) → Bool
is_held None = false
is_held (Some (place, flag)) = true

then-held : (input : List ℕ) (held : Option (ℕ × Bool)) (at : ℕ) → is_held (held_then input held at) ≡ true
then-held input None at = refl
then-held input (Some (place, flag)) at = refl

after-held : (input : List ℕ) (n : ℕ) (held : Option (ℕ × Bool)) (m : Message) → is_held (held_after input n held m) ≡ (eqb m.number.0 n || is_held held)
after-held input n held m = cases (eqb m.number.0 n) (λ t. simp t (then-held input held m.at)) (λ f. simp f)

after-among : (k n : ℕ) (seen : List ℕ) → is_among n (with_number k seen) ≡ (eqb k n || is_among n seen)
unfolding is_among with_number
after-among k n seen =
    cases (is_among k seen)
    (λ t.
    cases (eqb k n)
    (λ s. simp (t, s) (ap (λ j. is_among j seen) (sym (eqb-true k n s)) ∙ t))
    (λ s. simp (t, s)))
    (λ f. simp f)

-- the rows are of the numbers of a list
record Kept (start : ℕ) (seen : List ℕ) (rows : List Row) : Type 0 where
  count : length seen ≡ length rows
  among : (n : ℕ) → n < 2 ^ 32 → is_among n seen ≡ is_held (held_in (rank_of start n) rows)

kept-none : (start : ℕ) → Kept start [] []
unfolding is_among held_in
kept-none start = record { count = refl; among = λ n within. refl }

module _ (input : List ℕ) (start : ℕ) (low : start < 2 ^ 32) where
  module _ (seen : List ℕ) (t : Table) (m : Message) (kept : Kept start seen t.rows) (h : Rising 0 t.rows) (sane : (m.number.0 < 2 ^ 32) × (0 < m.line)) (near : far_at start m ≡ 0) where
    among-as : (held : Option (ℕ × Bool)) → held_for start t m ≡ held → is_among m.number.0 seen ≡ is_held held
    among-as held e =
        kept.among m.number.0 sane.0 ∙ ap is_held (ap (λ q. held_in q t.rows) (sym (rank-near start m low sane.1 near)) ∙ held-there input start t m h ∙ e)

    kept-after : (entered input start t m).many ≡ None → Kept start (with_number m.number.0 seen) (entered input start t m).rows
    unfolding with_number
    kept-after none = record {
      count =
          elim (enters input start t m) [
            | again place flag close e is ↦
                rw is (simp (among-as (Some (place, flag)) e) (kept.count ∙ sym (repeated-length input place m.at (row_for start t m) t.rows)))
            | new close e room is ↦
                rw is (simp (among-as None e) (ap suc kept.count ∙ sym (insert-length (row (rank_for start m) m.at false) (row_for start t m) t.rows)))
            | full close e past is ↦ not_full input start t m h sane.1 near none is
            | far line is ↦ absurd (omega arith)
          ];
      among = λ n within.
          after-among m.number.0 n seen
          ∙ ap (λ b. eqb m.number.0 n || b) (kept.among n within)
          ∙ sym (after-held input n (held_in (rank_of start n) t.rows) m)
          ∙ ap is_held (sym (held-after input start t m h sane.1 near none low sane.0 n within));
    }

    -- a line is told first where a full table meets a new number
    told-full : t.many ≡ None → ((entered input start t m).many ≡ None → ⊥) → ((entered input start t m).many ≡ Some m.line) × (1024 < length (with_number m.number.0 seen))
    unfolding with_number
    told-full none told =
        elim (enters input start t m) [
          | again place flag close e is ↦ absurd (told (rw is none))
          | new close e room is ↦ absurd (told (rw is none))
          | full close e past is ↦ (rw is (earliest-next t.many m.line none), simp (among-as None e) (omega (arith, kept.count)))
          | far line is ↦ absurd (omega arith)
        ]

  line-some : (line : ℕ) → 0 < line → ◌≡◌ {A = Option ℕ} (Some line) (line_in line)
  line-some zero h = absurd (omega arith)
  line-some (suc n) h = refl

  many-after : (seen : List ℕ) (t : Table) (ms : List Message) → Kept start seen t.rows → Rising 0 t.rows → length t.rows ≤ 1024 → t.many ≡ None → Sane ms → far_line start ms ≡ 0
      → (tabled input start t ms).many ≡ line_in (many_line seen ms)
  unfolding tabled many_line Sane
  many-after seen t [] kept h short none sane no-far = none
  many-after seen t (m ∷ rest) kept h short none sane no-far =
      let near = near-all start m rest no-far in
      told-or (entered input start t m).many
      (λ still.
      let after = kept-after seen t m kept h sane.0 near.0 still in
      let room = entered-length input start t m short in
      simp (le-ltb 1024 (length (with_number m.number.0 seen)) (omega (arith, after.count)))
      (many-after (with_number m.number.0 seen) (entered input start t m) rest after (entered-rising input start t m h) room still sane.1 near.1))
      (λ told.
      let first = told-full seen t m kept h sane.0 near.0 none told in
      simp (lt-ltb 1024 (length (with_number m.number.0 seen)) first.1) (many-stays input start (entered input start t m) rest told ∙ first.0 ∙ line-some m.line sane.0.1))

  count-after : (seen : List ℕ) (t : Table) (ms : List Message) → Kept start seen t.rows → Rising 0 t.rows → Sane ms → far_line start ms ≡ 0 → (tabled input start t ms).many ≡ None
      → length (tabled input start t ms).rows ≡ length (numbers_with seen ms)
  unfolding tabled numbers_with Sane
  count-after seen t [] kept h sane no-far none = sym kept.count
  count-after seen t (m ∷ rest) kept h sane no-far none =
      let near = near-all start m rest no-far in
      count-after (with_number m.number.0 seen) (entered input start t m) rest
      (kept-after seen t m kept h sane.0 near.0 (many-none input start (entered input start t m) rest none))
      (entered-rising input start t m h) sane.1 near.1 none

  pub tabled-many : (ms : List Message) → Sane ms → far_line start ms ≡ 0 → (tabled input start no_numbers ms).many ≡ line_in (many_line [] ms)
  tabled-many ms sane no-far = many-after [] no_numbers ms (kept-none start) rising_none (omega arith) refl sane no-far

  pub tabled-count : (ms : List Message) → Sane ms → far_line start ms ≡ 0 → (tabled input start no_numbers ms).many ≡ None
      → length (tabled input start no_numbers ms).rows ≡ length (numbers_with [] ms)
  tabled-count ms sane no-far none = count-after [] no_numbers ms (kept-none start) rising_none sane no-far none

-- ---- what a table has of a number after all messages

unfoldable held_all : List ℕ → ℕ → Option (ℕ × Bool) → List Message → Option (ℕ × Bool)
unfolding run_at content_from
held_all input n held [] = held
held_all input n held (m ∷ rest) = held_all input n (held_after input n held m) rest

module _ (input : List ℕ) (n : ℕ) where
  -- the first stands
  held-stands : (place : ℕ) (flag : Bool) (ms : List Message) → standing_held input (held_all input n (Some (place, flag)) ms) ≡ Run (run_at input place)
  unfolding held_all
  held-stands place flag [] = refl
  held-stands place flag (m ∷ rest) =
      cases (eqb m.number.0 n)
      (λ t. simp t (held-stands place (cond (is_equal (content_of (run_at input place) (run_at input m.at))) flag true) rest))
      (λ f. simp f (held-stands place flag rest))

  -- its flag is set from the first repeat with other content on
  held-flag : (place : ℕ) (flag : Bool) (ms : List Message) → flag_held (held_all input n (Some (place, flag)) ms) ≡ (flag || other_than (run_at input place) input ms n)
  unfolding held_all other_than
  held-flag place flag [] = cases flag (λ t. simp t) (λ f. simp f)
  held-flag place flag (m ∷ rest) =
      cases (eqb m.number.0 n)
      (λ t.
      cases (is_equal (content_of (run_at input place) (run_at input m.at)))
      (λ s. simp (t, s) (held-flag place flag rest))
      (λ s. simp (t, s) (held-flag place true rest ∙ cases flag (λ z. simp z) (λ z. simp z))))
      (λ f. simp f (held-flag place flag rest))

  all-stands : (ms : List Message) → standing input ms n ≡ standing_held input (held_all input n None ms)
  unfolding held_all standing
  all-stands [] = refl
  all-stands (m ∷ rest) =
      cases (eqb m.number.0 n)
      (λ t. simp t (sym (held-stands m.at false rest)))
      (λ f. simp f (all-stands rest))

  -- a message of another number is no conflict
  other-passed : (s : Standing) (m : Message) (rest : List Message) → eqb m.number.0 n ≡ false → conflicted_as s input (m ∷ rest) n ≡ conflicted_as s input rest n
  unfolding other_than
  other-passed Absent m rest f = refl
  other-passed (Run run) m rest f = simp f

  all-flag : (ms : List Message) → conflicted input ms n ≡ flag_held (held_all input n None ms)
  unfolding held_all standing conflicted other_than
  all-flag [] = refl
  all-flag (m ∷ rest) =
      cases (eqb m.number.0 n)
      (λ t. simp (t, content-same 0 (run_at input m.at)) (sym (held-flag m.at false rest)))
      (λ f. simp f (other-passed (standing input rest n) m rest f ∙ all-flag rest))

module _ (input : List ℕ) (start : ℕ) (low : start < 2 ^ 32) where
  held-all : (n : ℕ) → n < 2 ^ 32 → (t : Table) (ms : List Message) → Rising 0 t.rows → Sane ms → far_line start ms ≡ 0 → (tabled input start t ms).many ≡ None
      → held_in (rank_of start n) (tabled input start t ms).rows ≡ held_all input n (held_in (rank_of start n) t.rows) ms
  unfolding tabled Sane held_all
  held-all n within t [] h sane no-far none = refl
  held-all n within t (m ∷ rest) h sane no-far none =
      let near = near-all start m rest no-far in
      held-all n within (entered input start t m) rest (entered-rising input start t m h) sane.1 near.1 none
      ∙ ap (λ held. held_all input n held rest)
      (held-after input start t m h sane.0.1 near.0 (many-none input start (entered input start t m) rest none) low sane.0.0 n within)

  -- what a table has of a rank is what the messages say of its number
  pub tabled-says : (ms : List Message) → Sane ms → far_line start ms ≡ 0 → (tabled input start no_numbers ms).many ≡ None → (rank : ℕ) → rank < 2 ^ 32
      → (standing input ms (number_of start rank) ≡ standing_held input (held_in rank (tabled input start no_numbers ms).rows))
      × (conflicted input ms (number_of start rank) ≡ flag_held (held_in rank (tabled input start no_numbers ms).rows))
  unfolding held_in
  tabled-says ms sane no-far none rank within =
      let n = number_of start rank in
      let held : held_all input n None ms ≡ held_in rank (tabled input start no_numbers ms).rows =
      sym (held-all n (number_lt start rank) no_numbers ms rising_none sane no-far none)
      ∙ ap (λ q. held_in q (tabled input start no_numbers ms).rows) (rank-of-number start rank low within) in
      (all-stands input n ms ∙ ap (standing_held input) held, all-flag input n ms ∙ ap flag_held held)

-- ---- the tables of two recordings

differences-say : (first second : List ℕ) (n : ℕ) (a b : Option (ℕ × Bool))
    → (standing first (body_of first).messages n ≡ standing_held first a) × (conflicted first (body_of first).messages n ≡ flag_held a)
    → (standing second (body_of second).messages n ≡ standing_held second b) × (conflicted second (body_of second).messages n ≡ flag_held b)
    → differences_on first second n ≡ held_differences first second a b
unfolding differences_on held_differences
differences-say first second n a b x y = cc

pub tables-say : (first second : List ℕ) → start_of first ≡ start_of second
    → far_line (start_of first) (body_of first).messages ≡ 0 → far_line (start_of second) (body_of second).messages ≡ 0
    → (tabled first (start_of first) no_numbers (body_of first).messages).many ≡ None
    → (tabled second (start_of second) no_numbers (body_of second).messages).many ≡ None
    → Says first second (start_of first) (tabled first (start_of first) no_numbers (body_of first).messages).rows (tabled second (start_of second) no_numbers (body_of second).messages).rows
tables-say first second same IsNear-first near-second None-first none-second = record {
  on = λ rank within.
      differences-say first second (number_of (start_of first) rank)
      (held_in rank (tabled first (start_of first) no_numbers (body_of first).messages).rows)
      (held_in rank (tabled second (start_of second) no_numbers (body_of second).messages).rows)
      (tabled-says first (start_of first) (start_small first) (body_of first).messages (body-sane first) IsNear-first None-first rank within)
      (rw same (tabled-says second (start_of second) (start_small second) (body_of second).messages (body-sane second) near-second none-second rank within));
}
