-- What the rows of a table say of a recording's messages. Assumes nothing.
use Rattle.std.specs.Prelude.{◌≡◌, Bool, false, List, [], ◌∷◌, ◌++◌, ℕ, ◌^◌, ◌<◌, Some, None, Option}
use Rattle.comparing.specs.declared.messages.Message.{Message}
use Rattle.comparing.specs.declared.listing.Difference.{Difference}
use Rattle.comparing.specs.declared.table.Row.{Row}
use Rattle.comparing.specs.declared.listing.Difference.TheVariants.{ConflictFirst, ConflictSecond}
use Rattle.comparing.specs.Runs.{run_at}
use Rattle.comparing.specs.Ranks.{number_of}
use Rattle.comparing.specs.Rows.{held_in}
use Rattle.comparing.specs.Differences.{Standing, Absent, Run, conflict_as, part_as, differences_on}

-- numbers of 32 bits, and lines that are counted from 1
unfoldable pub Sane : List Message → Type 0
Sane [] = Unit
Sane (m ∷ rest) = ((m.number.0 < 2 ^ 32) × (0 < m.line)) × Sane rest

abbrev pub standing_held : List ℕ → Option (ℕ × Bool) → Standing
standing_held input None = Absent
standing_held input (Some (place, flag)) = Run (run_at input place)

abbrev pub flag_held : Option (ℕ × Bool) → Bool
flag_held None = false
flag_held (Some (place, flag)) = flag

-- the differences on a number by what two tables have of it
unfoldable pub held_differences : List ℕ → List ℕ → Option (ℕ × Bool) → Option (ℕ × Bool) → List Difference
unfolding run_at
held_differences first second a b =
    conflict_as (flag_held a) ConflictFirst
    ++ (conflict_as (flag_held b) ConflictSecond
    ++ part_as (standing_held first a) (standing_held second b))

-- two tables say the differences on every number
pub record Says (first second : List ℕ) (start : ℕ) (a b : List Row) : Type 0 where
  pub on : (rank : ℕ) → rank < 2 ^ 32 → differences_on first second (number_of start rank) ≡ held_differences first second (held_in rank a) (held_in rank b)
