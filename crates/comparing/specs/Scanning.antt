-- A recording read line by line into a table. Assumes nothing.
use Rattle.std.proofs.Math.Path.{◌≡◌, sym, ap}
use Rattle.std.specs.Prelude.{refl, Bool, true, false, cond, List, [], ◌∷◌, ℕ, ◌+◌, ◌-◌, ◌≤◌, ◌<◌, eqb, ltb, take, drop, Some, None, Option}
use Rattle.std.proofs.Common.{◌∙◌}
use native.Mathlib.Omega.{arith}
use Rattle.std.proofs.Math.ListN.{length, length-take, length-drop}
use Rattle.std.proofs.Math.Seq.{length-take-le, take-nil}
use borrow.Author.Tests.{eqb-true, ltb-true, ltb-false}
use borrow.Table.Steps.{cases}
use Rattle.recording.specs.Lines.{lines_from, lines_of, until_feed, until-within, line_first, line-none}
use Rattle.seq.specs.declared.Seq.{Seq}
use Rattle.comparing.specs.declared.messages.Message.{Message}
use Rattle.comparing.specs.declared.messages.Found.{Found}
use Rattle.comparing.specs.declared.messages.Found.TheVariants as found
use Rattle.comparing.specs.Messages.{Body, start_line, line_found, waiting_after, ends_at, bad_at, body_as, body_from, body_after, body_in, body_of, start_as, start_in, start_of}
use Rattle.comparing.specs.Judging.{line_in}
use Rattle.comparing.specs.Rows.{Rising}
use Rattle.comparing.specs.declared.scanning.Scanned.{Scanned}
use Rattle.comparing.specs.declared.table.Table as code
use Rattle.comparing.specs.Tabled.{entered-rising}
use Rattle.comparing.specs.Table.{Table, no_numbers, table_of, entered, tabled}

abbrev pub is_bad : Found → Bool
is_bad found.Bad = true
is_bad (found.Awaits m) = false
is_bad (found.Holds m) = false
is_bad found.Passes = false

-- only a whole message with a number is entered
abbrev pub entered_found : List ℕ → ℕ → Table → Found → Table
entered_found input start t found.Bad = t
entered_found input start t (found.Awaits m) = t
entered_found input start t (found.Holds m) = entered input start t m
entered_found input start t found.Passes = t

-- where the line after one that ends here begins
unfoldable pub next_line : List ℕ → ℕ → ℕ
next_line input end = cond (ltb end (length input)) (end + 1) end

-- what is left of a recording from a place on
abbrev pub body_left : List ℕ → Option Message → ℕ → ℕ → Body
body_left input w at line = body_from w at line (lines_of (drop at input))

-- what a scan of a recording finds: its start number, its first bad line, and the table of its messages
pub record Scans (input : List ℕ) (from : ℕ) (body : Body) (found : Scanned) (table : code.Table) : Type 0 where
  pub starts : found.start.0 ≡ from
  pub bads : found.bad ≡ line_in body.bad
  pub tables : table_of table ≡ tabled input from no_numbers body.messages

-- ---- laws

pub next-after : (input : List ℕ) (at end : ℕ) → at < length input → at ≤ end → at < next_line input end
unfolding next_line
next-after input at end h g =
    cases (ltb end (length input))
    (λ t. simp t (omega arith))
    (λ f. let past = ltb-false end (length input) f in simp f (omega arith))

-- after the last line the place is not looked at
body-next : (input : List ℕ) (w : Option Message) (end line : ℕ) → body_from w (end + 1) line (lines_of (drop (end + 1) input)) ≡ body_left input w (next_line input end) line
unfolding next_line body_from
body-next input w end line =
    cases (ltb end (length input))
    (λ t. simp t)
    (λ f.
    let past = ltb-false end (length input) f in
    let left : lines_of (drop end input) ≡ [] = line-none input end past in
    let none : lines_of (drop (end + 1) input) ≡ [] = line-none input (end + 1) (omega arith) in
    ap (body_from w (end + 1) line) none ∙ sym (simp f (ap (body_from w end line) left)))

rest-same : (f : Found) (line : ℕ) (rest other : Option Message → Body) → ((v : Option Message) → rest v ≡ other v) → body_as f line rest ≡ body_as f line other
rest-same found.Bad line rest other e = refl
rest-same (found.Awaits m) line rest other e = e (Some m)
rest-same (found.Holds m) line rest other e = ap (λ b. record { messages = m ∷ b.messages; bad = b.bad }) (e None)
rest-same found.Passes line rest other e = e None

-- a line that is found bad ends the body, any other goes on with it
bad-ends : (f : Found) (line : ℕ) (rest : Option Message → Body) → is_bad f ≡ true → body_as f line rest ≡ bad_at line
bad-ends found.Bad line rest e = refl
bad-ends (found.Awaits m) line rest e = let z : ◌≡◌ {A = ℕ} 0 1 = cc in absurd (omega arith)
bad-ends (found.Holds m) line rest e = let z : ◌≡◌ {A = ℕ} 0 1 = cc in absurd (omega arith)
bad-ends found.Passes line rest e = let z : ◌≡◌ {A = ℕ} 0 1 = cc in absurd (omega arith)

goes-on-bad : (f : Found) (line : ℕ) (rest : Option Message → Body) → is_bad f ≡ false → (body_as f line rest).bad ≡ (rest (waiting_after f)).bad
goes-on-bad found.Bad line rest e = let z : ◌≡◌ {A = ℕ} 0 1 = cc in absurd (omega arith)
goes-on-bad (found.Awaits m) line rest e = refl
goes-on-bad (found.Holds m) line rest e = refl
goes-on-bad found.Passes line rest e = refl

goes_on : (input : List ℕ) (start : ℕ) (t : Table) (f : Found) (line : ℕ) (rest : Option Message → Body) → is_bad f ≡ false
    → tabled input start t (body_as f line rest).messages ≡ tabled input start (entered_found input start t f) (rest (waiting_after f)).messages
unfolding tabled
goes_on input start t found.Bad line rest e = let z : ◌≡◌ {A = ℕ} 0 1 = cc in absurd (omega arith)
goes_on input start t (found.Awaits m) line rest e = refl
goes_on input start t (found.Holds m) line rest e = refl
goes_on input start t found.Passes line rest e = refl

pub found-rising : (input : List ℕ) (start : ℕ) (t : Table) (f : Found) → Rising 0 t.rows → Rising 0 (entered_found input start t f).rows
found-rising input start t found.Bad h = h
found-rising input start t (found.Awaits m) h = h
found-rising input start t (found.Holds m) h = entered-rising input start t m h
found-rising input start t found.Passes h = h

-- one line of a body: its text ends where the next line feed is
module _ (input : List ℕ) (start : ℕ) (t : Table) (w : Option Message) (at line end : ℕ) (ends : end ≡ at + length (until_feed (drop at input))) (h : at < length input) where
  left-first : body_left input w at line ≡ body_as (line_found w at line (take (end - at) (drop at input))) line (λ v. body_left input v (next_line input end) (line + 1))
  unfolding body_from
  left-first =
      let len : length (take (end - at) (drop at input)) ≡ end - at = length-take-le (end - at) (drop at input) (simp length-drop (omega (arith, until-within input at (omega arith)))) in
      let after : at + length (take (end - at) (drop at input)) + 1 ≡ end + 1 = omega arith in
      ap (body_from w at line) (line_first input at end ends h)
      ∙ ap (λ n. body_as (line_found w at line (take (end - at) (drop at input))) line (λ v. body_from v n (line + 1) (lines_of (drop (end + 1) input)))) after
      ∙ rest-same (line_found w at line (take (end - at) (drop at input))) line (λ v. body_from v (end + 1) (line + 1) (lines_of (drop (end + 1) input)))
      (λ v. body_left input v (next_line input end) (line + 1)) (λ v. body-next input v end (line + 1))

  pub left-bad : is_bad (line_found w at line (take (end - at) (drop at input))) ≡ true
      → (line ≡ (body_left input w at line).bad) × (t ≡ tabled input start t (body_left input w at line).messages)
  unfolding tabled
  left-bad bad =
      let e = left-first ∙ bad-ends (line_found w at line (take (end - at) (drop at input))) line (λ v. body_left input v (next_line input end) (line + 1)) bad in
      (sym (ap (λ b. b.bad) e), sym (ap (λ b. tabled input start t b.messages) e))

  pub left-next : is_bad (line_found w at line (take (end - at) (drop at input))) ≡ false
      → ((body_left input w at line).bad ≡ (body_left input (waiting_after (line_found w at line (take (end - at) (drop at input)))) (next_line input end) (line + 1)).bad)
      × (tabled input start t (body_left input w at line).messages ≡ tabled input start (entered_found input start t (line_found w at line (take (end - at) (drop at input)))) (body_left input (waiting_after (line_found w at line (take (end - at) (drop at input)))) (next_line input end) (line + 1)).messages)
  left-next good =
      let f = line_found w at line (take (end - at) (drop at input)) in (
        ap (λ b. b.bad) left-first ∙ goes-on-bad f line (λ v. body_left input v (next_line input end) (line + 1)) good,
        ap (λ b. tabled input start t b.messages) left-first ∙ goes_on input start t f line (λ v. body_left input v (next_line input end) (line + 1)) good,
      )

pub left-none : (input : List ℕ) (start : ℕ) (t : Table) (w : Option Message) (at line : ℕ) → length input ≤ at
    → (ends_at w ≡ (body_left input w at line).bad) × (t ≡ tabled input start t (body_left input w at line).messages)
unfolding body_from tabled
left-none input start t w at line h =
    let none : lines_of (drop at input) ≡ [] = line-none input at h in
    (sym (ap (λ l. (body_from w at line l).bad) none), sym (ap (λ l. tabled input start t (body_from w at line l).messages) none))

-- the first line
first-is : (input : List ℕ) (end : ℕ) → end ≡ length (until_feed input) → 0 < length input → lines_of input ≡ take end input ∷ lines_of (drop (end + 1) input)
first-is input end ends h =
    let same : end - 0 ≡ end = omega arith in
    line_first input 0 end (omega arith) h ∙ ap (λ n. take n input ∷ lines_of (drop (end + 1) input)) same

none_is : (input : List ℕ) → length input ≤ 0 → input ≡ []
none_is [] h = refl
none_is (b ∷ rest) h = absurd (omega arith)

module _ (input : List ℕ) (end : ℕ) (ends : end ≡ length (until_feed input)) where
  pub first-bad : start_line (take end input) ≡ None → (body_of input ≡ bad_at 1) × (start_of input ≡ 0)
  unfolding body_of start_of lines_from
  first-bad e =
      cases (ltb 0 (length input))
      (λ t.
      let lines = first-is input end ends (ltb-true 0 (length input) t) in
      (ap body_in lines ∙ ap (λ s. body_after s (take end input) (lines_of (drop (end + 1) input))) e, ap start_in lines ∙ ap start_as e))
      (λ f.
      let none = none_is input (ltb-false 0 (length input) f) in
      (ap (λ l. body_in (lines_of l)) none, ap (λ l. start_in (lines_of l)) none))

  pub first_good : (start : Seq) → start_line (take end input) ≡ Some start
      → (body_of input ≡ body_left input None (next_line input end) 2) × (start_of input ≡ start.0)
  unfolding body_of start_of start_line
  first_good start e =
      cases (ltb 0 (length input))
      (λ t.
      let h = ltb-true 0 (length input) t in
      let lines = first-is input end ends h in
      let len : length (take end input) ≡ end = length-take-le end input (omega (arith, until-within input 0 (omega arith))) in (
        ap body_in lines
            ∙ ap (λ s. body_after s (take end input) (lines_of (drop (end + 1) input))) e
            ∙ ap (λ n. body_from None (n + 1) 2 (lines_of (drop (end + 1) input))) len
            ∙ body-next input None end 2,
        ap start_in lines ∙ ap start_as e,
      ))
      (λ f.
      let none = none_is input (ltb-false 0 (length input) f) in
      let bad : start_line (take end input) ≡ None = ap (λ l. start_line (take end l)) none ∙ ap start_line (take-nil end) in
      let z : ◌≡◌ {A = ℕ} 0 1 = cc in
      absurd (omega arith))

  -- a start number is eight digits long
  pub first-long : (start : Seq) → start_line (take end input) ≡ Some start → 2 ≤ next_line input end
  unfolding start_line next_line
  first-long start e =
      cases (eqb (length (take end input)) 8)
      (λ t.
      let eight = eqb-true (length (take end input)) 8 t in
      cases (ltb end (length input))
      (λ b. simp b (omega (arith, length-take end input)))
      (λ b. simp b (omega (arith, length-take end input))))
      (λ f. let z : ◌≡◌ {A = ℕ} 0 1 = cc (simp f at e) in absurd (omega arith))
