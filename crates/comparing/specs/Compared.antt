-- Document 02 [6]: what a comparison answers, and what it leaves of the lent list. Assumes nothing.
use Rattle.std.specs.Prelude.{List, [], ◌∷◌, ◌++◌, ℕ, length, drop, Ok, Err, Result}
use Rattle.refusal.specs.declared.Refusal.{Refusal}
use Rattle.refusal.specs.Refusals.{number_of}
use Rattle.refusal.specs.Answers.{Told, success}
use Rattle.comparing.specs.declared.comparison.Side.{Side}
use Rattle.comparing.specs.declared.comparison.Side.TheVariants as sides
use Rattle.comparing.specs.Messages.{body_of}
use Rattle.comparing.specs.Differences.{Listed, list_of}
use Rattle.comparing.specs.Judging.{numbers_with, verdict_of}
use Rattle.comparing.specs.Words.{word_of}

-- the list in its numbers of 64 bits
unfoldable pub words_of : List Listed → List ℕ
unfolding word_of
words_of [] = []
words_of (d ∷ rest) = word_of d.number d.what ∷ words_of rest

-- how many numbers a recording has
unfoldable pub how_many : List ℕ → ℕ
unfolding numbers_with body_of
how_many input = length (numbers_with [] (body_of input).messages)

-- how many differences there are, and how many numbers each side has; or the refusal, with its recording and its line
abbrev pub compared_as : Result Unit (Refusal × Side × ℕ) → List ℕ → List ℕ → Result (ℕ × ℕ × ℕ) (Refusal × Side × ℕ)
compared_as (Ok tt) first second = Ok ((length (list_of first second)), (how_many first), (how_many second))
compared_as (Err (e, side, line)) first second = Err (e, side, line)

unfoldable pub compared_of : List ℕ → List ℕ → Result (ℕ × ℕ × ℕ) (Refusal × Side × ℕ)
unfolding verdict_of how_many list_of
compared_of first second = compared_as (verdict_of first second) first second

-- the list stands at the start of the lent memory, and what lies behind it is as it was; a refusal leaves all of it
abbrev pub list_in : Result Unit (Refusal × Side × ℕ) → List ℕ → List ℕ → List ℕ → List ℕ
list_in (Ok tt) first second list = words_of (list_of first second) ++ drop (length (list_of first second)) list
list_in (Err (e, side, line)) first second list = list

unfoldable pub compared_list : List ℕ → List ℕ → List ℕ → List ℕ
unfolding verdict_of words_of list_of
compared_list first second list = list_in (verdict_of first second) first second list

-- the paper's number and values of each case: of a refusal, 1 or 2 for the recording, and its line
abbrev pub side_number : Side → ℕ
side_number sides.First = 1
side_number sides.Second = 2

abbrev pub compared_told : Result (ℕ × ℕ × ℕ) (Refusal × Side × ℕ) → Told
compared_told (Ok (n, first, second)) = success (n ∷ first ∷ second ∷ [])
compared_told (Err (e, side, line)) = record { number = number_of e; values = side_number side ∷ line ∷ [] }

-- and what a caller is told of a comparison
abbrev pub comparison_told : List ℕ → List ℕ → Told
comparison_told first second = compared_told (compared_of first second)
