-- What two scanned recordings lead to. Assumes nothing.
use Rattle.std.specs.Prelude.{◌≡◌, refl, List, [], ◌++◌, ℕ, ◌+◌, ◌^◌, ◌≤◌, drop, None, Ok, Result}
use Rattle.refusal.specs.declared.Refusal.{Refusal}
use Rattle.comparing.specs.declared.comparison.Side.{Side}
use Rattle.std.proofs.Math.Path.{sym, ap}
use Rattle.std.proofs.Common.{◌∙◌, arith}
use Rattle.std.proofs.Math.ListN.{length}
use Rattle.std.proofs.lemmas.List.Edits.{sets-eq}
use Rattle.comparing.specs.declared.scanning.Scanned.{Scanned}
use Rattle.comparing.specs.declared.table.Table as code
use Rattle.comparing.specs.Messages.{body_of, start_of}
use Rattle.comparing.specs.Rows.{Rising}
use Rattle.comparing.specs.Table.{no_numbers, tabled}
use Rattle.comparing.specs.Differences.{Listed, list_below, list_of}
use Rattle.comparing.specs.Judging.{far_line, many_line, starts_part, starts_in, line_in, lines_in_order, verdict_of, passed-says, order_same, starts-in, starts-same}
use Rattle.comparing.specs.Compared.{words_of, how_many, compared_as, compared_of, list_in, compared_list}
use Rattle.comparing.specs.Says.{Says}
use Rattle.comparing.specs.Sanity.{body-sane, start_small}
use Rattle.comparing.specs.Tabled.{tabled-rising, tabled-far-line, tabled-many, tabled-count, tables-say}
use Rattle.comparing.specs.Scanning.{Scans}
use Rattle.comparing.specs.Listing.{Pushed, words-length}

-- a recording that was scanned whole
abbrev pub Scanning : List ℕ → Scanned → code.Table → Type 0
Scanning input found table = Scans input (start_of input) (body_of input) found table

-- the refusals by what was scanned
abbrev pub judged_of : Scanned → code.Table → Scanned → code.Table → Result Unit (Refusal × Side × ℕ)
judged_of a x b y = lines_in_order a.bad b.bad (starts_in a.start.0 b.start.0) x.far y.far x.many y.many

-- ---- laws

module _ (input : List ℕ) (found : Scanned) (table : code.Table) (scans : Scanning input found table) where
  far-found : table.far ≡ line_in (far_line (start_of input) (body_of input).messages)
  far-found = ap (λ t. t.far) scans.tables ∙ tabled-far-line input (start_of input) (body_of input).messages (body-sane input)

  rows-found : table.rows.items ≡ (tabled input (start_of input) no_numbers (body_of input).messages).rows
  rows-found = ap (λ t. t.rows) scans.tables

  rising-found : Rising 0 table.rows.items
  rising-found = rw rows-found (tabled-rising input (start_of input) (body_of input).messages)

  -- where no message is far, the table's count is that of the numbers
  module _ (near : far_line (start_of input) (body_of input).messages ≡ 0) where
    many-found : table.many ≡ line_in (many_line [] (body_of input).messages)
    many-found = ap (λ t. t.many) scans.tables ∙ tabled-many input (start_of input) (start_small input) (body_of input).messages (body-sane input) near

    none_found : many_line [] (body_of input).messages ≡ 0 → (tabled input (start_of input) no_numbers (body_of input).messages).many ≡ None
    none_found e = tabled-many input (start_of input) (start_small input) (body_of input).messages (body-sane input) near ∙ ap line_in e

    count-found : many_line [] (body_of input).messages ≡ 0 → length table.rows.items ≡ how_many input
    unfolding how_many
    count-found none =
        ap length rows-found
        ∙ tabled-count input (start_of input) (start_small input) (body_of input).messages (body-sane input) near (none_found none)

-- what is known of two recordings that passed
pub record Passed (first second : List ℕ) (a : Scanned) (x : code.Table) (b : Scanned) (y : code.Table) : Type 0 where
  pub says : Says first second a.start.0 x.rows.items y.rows.items
  pub rising-first : Rising 0 x.rows.items
  pub rising-second : Rising 0 y.rows.items
  pub count-first : length x.rows.items ≡ how_many first
  pub count-second : length y.rows.items ≡ how_many second

module _ (first second : List ℕ) (a : Scanned) (x : code.Table) (b : Scanned) (y : code.Table) (scans-a : Scanning first a x) (scans-b : Scanning second b y) where
  pub judged-same : judged_of a x b y ≡ verdict_of first second
  unfolding verdict_of
  judged-same =
      rw (scans-a.starts, scans-a.bads, scans-b.starts, scans-b.bads, far-found first a x scans-a, far-found second b y scans-b, starts-in (start_of first) (start_of second))
      (order_same (body_of first).bad (body_of second).bad (starts_part (start_of first) (start_of second)) _ _ _ _ _ _ (many-found first a x scans-a) (many-found second b y scans-b))

  passed-both : verdict_of first second ≡ Ok tt
      → (starts_part (start_of first) (start_of second) ≡ 0)
      × (far_line (start_of first) (body_of first).messages ≡ 0) × (far_line (start_of second) (body_of second).messages ≡ 0)
      × (many_line [] (body_of first).messages ≡ 0) × (many_line [] (body_of second).messages ≡ 0)
  unfolding verdict_of
  passed-both pass =
      passed-says (body_of first).bad (body_of second).bad (starts_part (start_of first) (start_of second))
      (far_line (start_of first) (body_of first).messages) (far_line (start_of second) (body_of second).messages)
      (many_line [] (body_of first).messages) (many_line [] (body_of second).messages) pass

  pub passed : judged_of a x b y ≡ Ok tt → Passed first second a x b y
  passed pass =
      let said = passed-both (sym judged-same ∙ pass) in
      let same : start_of first ≡ start_of second = starts-same (start_of first) (start_of second) said.0 in
      record {
        says = rw (scans-a.starts, rows-found first a x scans-a, rows-found second b y scans-b) (tables-say first second same said.1 said.2 (none_found first a x scans-a said.1 said.3) (none_found second b y scans-b said.2 said.4));
        rising-first = rising-found first a x scans-a;
        rising-second = rising-found second b y scans-b;
        count-first = count-found first a x scans-a said.1 said.3;
        count-second = count-found second b y scans-b said.2 said.4;
      }

-- every number is listed; the bound stays shut, since no proof goes through 2^32 steps
list-is : (first second : List ℕ) → list_below first second (start_of first) (2 ^ 32) ≡ list_of first second
unfolding list_of
list-is first second = refl

-- a list that was pushed stands at the start of the lent memory
stands : (listed : List Listed) (old new : List ℕ) (n : ℕ) → n ≤ length old → Pushed (words_of listed) old 0 n new
    → (n ≡ length listed) × (new ≡ words_of listed ++ drop (length listed) old)
stands listed old new n few pushed =
    let many : 0 + length (words_of listed) ≡ length listed = omega (arith, words-length listed) in
    let fits : 0 + length (words_of listed) ≤ length old = omega (arith, pushed.count) in
    (pushed.count ∙ many, pushed.list ∙ sets-eq (words_of listed) old 0 fits ∙ ap (λ k. words_of listed ++ drop k old) many)

pub list-stands : (first second old new : List ℕ) (start n : ℕ) → start ≡ start_of first → n ≤ length old
    → Pushed (words_of (list_below first second start (2 ^ 32))) old 0 n new
    → (n ≡ length (list_of first second)) × (new ≡ words_of (list_of first second) ++ drop (length (list_of first second)) old)
list-stands first second old new start n e few pushed =
    let same : list_below first second start (2 ^ 32) ≡ list_of first second = ap (λ s. list_below first second s (2 ^ 32)) e ∙ list-is first second in
    let said = stands (list_below first second start (2 ^ 32)) old new n few pushed in
    (said.0 ∙ ap length same, said.1 ∙ ap (λ l. words_of l ++ drop (length l) old) same)

-- the answer and the list by the verdict
pub compared-by : (first second list : List ℕ) (j : Result Unit (Refusal × Side × ℕ)) → verdict_of first second ≡ j
    → (compared_as j first second ≡ compared_of first second) × (list_in j first second list ≡ compared_list first second list)
unfolding compared_of compared_list
compared-by first second list j e = (sym (ap (λ v. compared_as v first second) e), sym (ap (λ v. list_in v first second list) e))
