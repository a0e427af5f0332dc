-- Document 01, "Slow links. Given a lent run of link records (eight, in slot order; another length gives 4, the only refusal
-- here), those live and confirmed with round trip above `max_ping` are listed, lowest slot first, unless every confirmed link is
-- slow. Slow here means blocked, or without `max_ping`, or above it." Assumes nothing.
use Rattle.std.specs.Prelude.{◌≡◌, ℕ, suc, ◌+◌, ◌-◌, ◌<◌, ◌≤◌, Bool, true, cond, ◌&&◌, List, [], ◌∷◌, ◌++◌, length, get_or, take, drop, set, replicate, ◌==◌, slice_index_or, slice_set, Ok, Err, Result}
use Rattle.refusal.specs.declared.Refusal.{Refusal}
use Rattle.std.proofs.Common.{sym, ap, ap₂, ◌∙◌, append_assoc, append-nil, add-one, arith, length-append, length-take, drop_of_length-le, take-suc, take_all, drop-cons}
use Rattle.std.proofs.Math.Seq.{set-append_seam, take-append_seam}
use Rattle.link.specs.declared.row.LinkRow.{LinkRow}
use Rattle.link.specs.Slow.{confirmed_link, above_max_ping, slow_row}
use Rattle.link.specs.Row.{no_row}
use Rattle.engine.specs.declared.slowness.SlowLinks.{SlowLinks}
use borrow.Table.Steps.{cases}
use Rattle.refusal.specs.Refusals.{refuse}
use Rattle.refusal.specs.Answers.{Told, success, refused, told_by}
use Rattle.refusal.specs.Verdicts.{Verdict, gate}
use Rattle.engine.specs.Sizes.{SLOTS}

-- "live and confirmed with round trip above `max_ping`"
abbrev pub over_link : LinkRow → Bool
over_link row = confirmed_link row && above_max_ping row

-- "every confirmed link is slow"
abbrev pub slow_if_confirmed : LinkRow → Bool
slow_if_confirmed row = cond (confirmed_link row) (slow_row row) true

unfoldable pub all_slow : List LinkRow → Bool
all_slow [] = true
all_slow (row ∷ rows) = slow_if_confirmed row && all_slow rows

-- the slots "listed, lowest slot first", where the first row has this slot
unfoldable pub over_slots : ℕ → List LinkRow → List ℕ
over_slots slot [] = []
over_slots slot (row ∷ rows) = cond (over_link row) (slot ∷ over_slots (suc slot) rows) (over_slots (suc slot) rows)

-- "are listed, .. unless every confirmed link is slow"
unfoldable pub slow_slots : List LinkRow → List ℕ
unfolding all_slow over_slots
slow_slots rows = cond (all_slow rows) [] (over_slots 0 rows)

abbrev found : List ℕ → ℕ → SlowLinks
found slots count = record { slots = slots; count = count }

-- slots as an answer has them: in eight places, with 0 past them
abbrev pub listed_in : List ℕ → SlowLinks
listed_in slots = found (slots ++ replicate (SLOTS - length slots) 0) (length slots)

unfoldable pub slow_of : List LinkRow → SlowLinks
unfolding slow_slots
slow_of rows = listed_in (slow_slots rows)

-- one slot more, where its link is over
unfoldable pub note_in : SlowLinks → ℕ → LinkRow → SlowLinks
note_in old slot row = cond (over_link row) (found (slice_set old.slots old.count slot) (old.count + 1)) old

-- "another length gives 4, the only refusal here"
abbrev pub slow_verdict : List LinkRow → Verdict
slow_verdict rows = gate (length rows == SLOTS) 4 (Ok tt)

-- the slots listed
abbrev pub slow_told : Result SlowLinks Refusal → Told
slow_told (Ok found) = success (take found.count found.slots)
slow_told (Err e) = refused e

unfoldable pub slow_links_of : List LinkRow → Result SlowLinks Refusal
unfolding slow_of
slow_links_of rows = cond (length rows == SLOTS) (Ok (slow_of rows)) (Err (refuse 4 tt))

-- ---- laws

pub slow-told : (rows : List LinkRow) → slow_told (slow_links_of rows) ≡ told_by (slow_verdict rows) (slow_slots rows)
unfolding slow_links_of slow_of
slow-told rows =
    cases (length rows == SLOTS)
    (λ t. simp t (ap success (take-append_seam (slow_slots rows) (replicate (SLOTS - length (slow_slots rows)) 0))))
    (λ t. simp t)

-- the rows from i on are row i and those after it
pub all-slow-step : (rows : List LinkRow) (i : ℕ) → i < length rows
    → all_slow (drop i rows) ≡ (slow_if_confirmed (slice_index_or rows i no_row) && all_slow (drop (i + 1) rows))
unfolding all_slow
all-slow-step rows i h = rw (add-one, drop-cons rows i no_row)

pub all-slow-end : (rows : List LinkRow) (i : ℕ) → length rows ≤ i → all_slow (drop i rows) ≡ true
unfolding all_slow
all-slow-end rows i h = rw (drop_of_length-le rows h)

over-length : (slot : ℕ) (rows : List LinkRow) → length (over_slots slot rows) ≤ length rows
unfolding over_slots
over-length slot [] = omega arith
over-length slot (row ∷ rows) =
    let rest = over-length (suc slot) rows in
    cases (over_link row) (λ t. simp t (omega arith)) (λ f. simp f (omega arith))

-- one row more, behind the others
over-snoc : (slot : ℕ) (rows : List LinkRow) (row : LinkRow)
    → over_slots slot (rows ++ (row ∷ [])) ≡ over_slots slot rows ++ cond (over_link row) ((slot + length rows) ∷ []) []
unfolding over_slots
over-snoc slot [] row = ap (λ n. cond (over_link row) (n ∷ []) []) (let e : slot ≡ slot + 0 = omega arith in e)
over-snoc slot (r ∷ rows) row =
    let e : suc slot + length rows ≡ slot + suc (length rows) = omega arith in
    let rest = over-snoc (suc slot) rows row ∙ ap (λ n. over_slots (suc slot) rows ++ cond (over_link row) (n ∷ []) []) e in
    cases (over_link r) (λ t. simp t (ap (λ (l : List ℕ). slot ∷ l) rest)) (λ f. simp f rest)

-- a slot noted behind others
note-over : (slots : List ℕ) (slot : ℕ) (row : LinkRow) → length slots < SLOTS → note_in (listed_in slots) slot row ≡ listed_in (slots ++ cond (over_link row) (slot ∷ []) [])
unfolding note_in
note-over slots slot row h =
    let more : length (slots ++ (slot ∷ [])) ≡ length slots + 1 = length-append slots (slot ∷ []) in
    let left = SLOTS - (length slots + 1) in
    let one_less : SLOTS - length slots ≡ suc left = omega arith in
    cases (over_link row)
    (λ t.
    simp t
    (ap₂ (λ (s : List ℕ) (n : ℕ). found s n)
    (ap (λ k. set (slots ++ replicate k 0) (length slots) slot) one_less
    ∙ set-append_seam slots 0 (replicate left 0) slot
    ∙ sym (append_assoc slots (slot ∷ []) (replicate left 0))
    ∙ ap (λ k. (slots ++ (slot ∷ [])) ++ replicate (SLOTS - k) 0) (sym more))
    (sym more)))
    (λ f. simp f (ap listed_in (sym (append-nil slots))))

module _ (rows : List LinkRow) (i : ℕ) where
  -- there is room for one slot more
  pub note-room : i < SLOTS → length (over_slots 0 (take i rows)) < SLOTS
  note-room h = omega (arith, over-length 0 (take i rows), length-take i rows)

  -- one row more is looked at
  pub note_step : i < SLOTS → i < length rows → note_in (listed_in (over_slots 0 (take i rows))) i (slice_index_or rows i no_row) ≡ listed_in (over_slots 0 (take (i + 1) rows))
  note_step h g =
      let row = get_or rows i no_row in
      let here : i ≡ 0 + length (take i rows) = omega (arith, length-take i rows) in
      note-over (over_slots 0 (take i rows)) i row (note-room h)
      ∙ ap listed_in
      (ap (λ n. over_slots 0 (take i rows) ++ cond (over_link row) (n ∷ []) []) here
      ∙ sym (over-snoc 0 (take i rows) row)
      ∙ ap (over_slots 0) (sym (take-suc rows i no_row g) ∙ ap (λ n. take n rows) (sym (add-one i))))

  pub note-end : length rows ≤ i → over_slots 0 (take i rows) ≡ over_slots 0 rows
  note-end h = ap (over_slots 0) (take_all i rows h)

-- from row i on there is that row, and what comes after it
row-then : (rows : List LinkRow) (i : ℕ) {rest : List LinkRow} → i < length rows → drop (suc i) rows ≡ rest → drop i rows ≡ slice_index_or rows i no_row ∷ rest
row-then rows i h e = drop-cons rows i no_row h ∙ ap (λ (l : List LinkRow). slice_index_or rows i no_row ∷ l) e

-- eight rows are these
pub eight : (rows : List LinkRow) → length rows ≡ SLOTS
    → rows ≡ slice_index_or rows 0 no_row ∷ slice_index_or rows 1 no_row ∷ slice_index_or rows 2 no_row ∷ slice_index_or rows 3 no_row ∷ slice_index_or rows 4 no_row ∷ slice_index_or rows 5 no_row ∷ slice_index_or rows 6 no_row ∷ slice_index_or rows 7 no_row ∷ []
eight rows h =
    row-then rows 0 (omega arith)
    (row-then rows 1 (omega arith)
    (row-then rows 2 (omega arith)
    (row-then rows 3 (omega arith)
    (row-then rows 4 (omega arith)
    (row-then rows 5 (omega arith)
    (row-then rows 6 (omega arith)
    (row-then rows 7 (omega arith) (drop_of_length-le rows {i = SLOTS} (omega arith)))))))))

-- the numbers of a list that pass a test
unfoldable pub chosen : (ℕ → Bool) → List ℕ → List ℕ
chosen test [] = []
chosen test (n ∷ ns) = cond (test n) (n ∷ chosen test ns) (chosen test ns)

-- the answer's slots are those of 0 to 7 whose links are over, or none where every confirmed link is slow
pub slow-listed : (rows : List LinkRow) → length rows ≡ SLOTS
    → take (slow_of rows).count (slow_of rows).slots
    ≡ cond (all_slow rows) [] (chosen (λ slot. over_link (slice_index_or rows slot no_row)) (0 ∷ 1 ∷ 2 ∷ 3 ∷ 4 ∷ 5 ∷ 6 ∷ 7 ∷ []))
unfolding slow_of slow_slots over_slots chosen
slow-listed rows h = take-append_seam (slow_slots rows) (replicate (SLOTS - length (slow_slots rows)) 0) ∙ ap (cond (all_slow rows) []) (ap (over_slots 0) (eight rows h))
