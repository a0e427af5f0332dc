-- Document 02 [6]: "lists the messages by number. For each number: only in the first, only in the second, or in both with the first
-- differing byte's place and both byte values; where one is a beginning of the other, the shorter length. Repeats with equal content count
-- once; a repeat with other content is listed as a conflict of that recording, and the first stands." Assumes nothing.
use Rattle.std.specs.Prelude.{Bool, true, false, cond, not, ◌&&◌, ◌||◌, List, [], ◌∷◌, ◌++◌, ℕ, zero, suc, ◌^◌, eqb}
use Rattle.comparing.specs.declared.messages.Message.{Message}
use Rattle.comparing.specs.declared.runs.Content.{Content}
use Rattle.comparing.specs.declared.runs.Content.TheVariants as contents
use Rattle.comparing.specs.declared.listing.Difference.{Difference}
use Rattle.comparing.specs.declared.listing.Difference.TheVariants.{First, Second, Differ, Begins, ConflictFirst, ConflictSecond}
use Rattle.comparing.specs.Messages.{body_of, start_of}
use Rattle.comparing.specs.Runs.{content_from, content_of, is_equal, run_at}
use Rattle.comparing.specs.Ranks.{number_of}

-- what a recording has of a number: nothing, or the run of its first message
pub data Standing : Type 0 where
  Absent : Standing
  Run : List ℕ → Standing

-- "the first stands"
unfoldable pub standing : List ℕ → List Message → ℕ → Standing
unfolding run_at
standing input [] n = Absent
standing input (m ∷ rest) n = cond (eqb m.number.0 n) (Run (run_at input m.at)) (standing input rest n)

-- a message of a number has other content than a run
unfoldable pub other_than : List ℕ → List ℕ → List Message → ℕ → Bool
unfolding run_at content_from
other_than run input [] n = false
other_than run input (m ∷ rest) n = (eqb m.number.0 n && not (is_equal (content_of run (run_at input m.at)))) || other_than run input rest n

-- "a repeat with other content is listed as a conflict of that recording"
abbrev pub conflicted_as : Standing → List ℕ → List Message → ℕ → Bool
conflicted_as Absent input ms n = false
conflicted_as (Run run) input ms n = other_than run input ms n

unfoldable pub conflicted : List ℕ → List Message → ℕ → Bool
unfolding standing other_than
conflicted input ms n = conflicted_as (standing input ms n) input ms n

abbrev pub conflict_as : Bool → Difference → List Difference
conflict_as true d = d ∷ []
conflict_as false d = []

-- "in both with the first differing byte's place and both byte values; where one is a beginning of the other, the shorter length"
abbrev pub content_as : Content → List Difference
content_as contents.Equal = []
content_as (contents.Differ place x y) = Differ place x y ∷ []
content_as (contents.Begins n) = Begins n ∷ []

-- "only in the first, only in the second, or in both"
abbrev pub part_as : Standing → Standing → List Difference
part_as Absent Absent = []
part_as (Run x) Absent = First ∷ []
part_as Absent (Run y) = Second ∷ []
part_as (Run x) (Run y) = content_as (content_of x y)

-- all differences on a number, the conflicts before the rest
unfoldable pub differences_on : List ℕ → List ℕ → ℕ → List Difference
unfolding standing conflicted content_from body_of
differences_on first second n =
    conflict_as (conflicted first (body_of first).messages n) ConflictFirst
    ++ (conflict_as (conflicted second (body_of second).messages n) ConflictSecond
    ++ part_as (standing first (body_of first).messages n) (standing second (body_of second).messages n))

-- a difference of a list
pub record Listed : Type 0 where
  pub number : ℕ
  pub what : Difference

abbrev pub listed_for : ℕ → List Difference → List Listed
listed_for n [] = []
listed_for n (d ∷ rest) = record { number = n; what = d } ∷ listed_for n rest

-- the differences on the numbers whose rank is below a bound, rank by rank
unfoldable pub list_below : List ℕ → List ℕ → ℕ → ℕ → List Listed
unfolding differences_on number_of
list_below first second start zero = []
list_below first second start (suc rank) = list_below first second start rank ++ listed_for (number_of start rank) (differences_on first second (number_of start rank))

-- "Listing each difference exactly once, in number order": on every number, in rising order of the signed distance from the start number
unfoldable pub list_of : List ℕ → List ℕ → List Listed
unfolding list_below start_of
list_of first second = list_below first second (start_of first) (2 ^ 32)
