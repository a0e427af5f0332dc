-- The table of a recording, message by message. Assumes nothing.
use Rattle.std.specs.Prelude.{◌≡◌, Bool, true, false, cond, List, [], ◌∷◌, ℕ, ◌≤◌, ◌<◌, ltb, length, drop, Some, None, Option, ℤ}
use Rattle.std.proofs.Common.{◌∙◌, ap, lt-ltb, le-ltb}
use Rattle.seq.specs.Distance.{distance_of}
use Rattle.comparing.specs.Sizes.{NUMBERS}
use Rattle.comparing.specs.declared.messages.Message.{Message}
use Rattle.comparing.specs.declared.table.Row.{Row}
use Rattle.comparing.specs.declared.table.Table as code
use Rattle.comparing.specs.Runs.{content_from, content_of, is_equal, run_at}
use Rattle.comparing.specs.Ranks.{rank_by}
use Rattle.comparing.specs.Rows.{row, position_in, insert_at, held_first, marked_at}

-- a line to be told, if none was told before
abbrev pub earliest : Option ℕ → ℕ → Option ℕ
earliest None line = Some line
earliest (Some told) line = Some told

-- the rows, and the lines of the first far message and of the first number past 1,024
pub record Table : Type 0 where
  pub rows : List Row
  pub far : Option ℕ
  pub many : Option ℕ

abbrev pub table_of : code.Table → Table
table_of t = record { rows = t.rows.items; far = t.far; many = t.many }

abbrev pub no_numbers : Table
no_numbers = record { rows = []; far = None; many = None }

-- "a repeat with other content is listed as a conflict of that recording, and the first stands"
unfoldable pub repeated : List ℕ → ℕ → ℕ → ℕ → List Row → List Row
unfolding content_from run_at marked_at
repeated input first at i rows = cond (is_equal (content_of (run_at input first) (run_at input at))) rows (marked_at i rows)

-- "At most 1,024 numbers a side"
unfoldable pub added : ℕ → ℕ → Message → Table → Table
unfolding insert_at
added i rank m t =
    cond (ltb (length t.rows) NUMBERS)
    (record { rows = insert_at i (row rank m.at false) t.rows; far = t.far; many = t.many })
    (record { rows = t.rows; far = t.far; many = earliest t.many m.line })

abbrev pub entered_as : Option (ℕ × Bool) → List ℕ → ℕ → ℕ → Message → Table → Table
entered_as None input i rank m t = added i rank m t
entered_as (Some (first, flag)) input i rank m t = record { rows = repeated input first m.at i t.rows; far = t.far; many = t.many }

abbrev pub with_far : ℕ → Table → Table
with_far line t = record { rows = t.rows; far = earliest t.far line; many = t.many }

-- a message of a rank, at the row where the rank stands
abbrev pub entered_at : List ℕ → ℕ → Message → Table → Table
entered_at input rank m t = entered_as (held_first rank (drop (position_in rank t.rows) t.rows)) input (position_in rank t.rows) rank m t

-- [6], "22 for a number far from the start number"; [5], "so that no caller orders such numbers": a far message is told and is not entered
abbrev pub entered_by : Option ℤ → List ℕ → Table → Message → Table
entered_by None input t m = with_far m.line t
entered_by (Some d) input t m = entered_at input (rank_by d) m t

unfoldable pub entered : List ℕ → ℕ → Table → Message → Table
unfolding repeated added held_first position_in distance_of
entered input start t m = entered_by (distance_of m.number.0 start) input t m

unfoldable pub tabled : List ℕ → ℕ → Table → List Message → Table
unfolding entered
tabled input start t [] = t
tabled input start t (m ∷ rest) = tabled input start (entered input start t m) rest

-- ---- laws of one message

module _ (input : List ℕ) (first at i : ℕ) (rows : List Row) where
  pub repeated-equal : is_equal (content_of (run_at input first) (run_at input at)) ≡ true → rows ≡ repeated input first at i rows
  unfolding repeated
  repeated-equal t = simp t

  pub repeated-other : is_equal (content_of (run_at input first) (run_at input at)) ≡ false → marked_at i rows ≡ repeated input first at i rows
  unfolding repeated
  repeated-other f = simp f

module _ (i rank : ℕ) (m : Message) (t : Table) where
  pub added-room : length t.rows < 1024 → added i rank m t ≡ record { rows = insert_at i (row rank m.at false) t.rows; far = t.far; many = t.many }
  unfolding added
  added-room h = simp (lt-ltb (length t.rows) 1024 h)

  pub added_full : 1024 ≤ length t.rows → added i rank m t ≡ record { rows = t.rows; far = t.far; many = earliest t.many m.line }
  unfolding added
  added_full h = simp (le-ltb (length t.rows) 1024 h)

-- a message by the row that was found for its rank, and by what is held there
pub entered-held : (input : List ℕ) (rank i : ℕ) (m : Message) (t : Table) (held : Option (ℕ × Bool)) → i ≡ position_in rank t.rows → held ≡ held_first rank (drop i t.rows)
    → entered_as held input i rank m t ≡ entered_at input rank m t
entered-held input rank i m t held placed e =
    ap (λ h. entered_as h input i rank m t) e ∙ ap (λ j. entered_as (held_first rank (drop j t.rows)) input j rank m t) placed
