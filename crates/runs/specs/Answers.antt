-- What a call of a run tells and leaves, and its answer's words. Assumes nothing.
use Rattle.std.specs.Prelude.{List, [], ◌∷◌, ℕ, get_or}
use Rattle.refusal.specs.Answers.{Told}
use Rattle.laws.specs.Calls.{Holding, told, next}
use Rattle.runs.specs.Asked.{Asked, It, NoCall}
use Rattle.runs.specs.declared.answers.Answer.{Answer}

abbrev pub answer : (number first second third : ℕ) → Answer
answer n a b c = record { number = n; first = a; second = b; third = c }

-- the number, then the values, 0 where there is none
abbrev pub answer_of : Told → Answer
answer_of t = answer t.number (get_or t.values 0 0) (get_or t.values 1 0) (get_or t.values 2 0)

abbrev pub answer_words : Told → List ℕ
answer_words t = t.number ∷ get_or t.values 0 0 ∷ get_or t.values 1 0 ∷ get_or t.values 2 0 ∷ []

-- words that are no call
abbrev pub no_told : Told
no_told = record { number = 20; values = [] }

abbrev pub told_of : Asked → Holding → Told
told_of (It call) h = told call h
told_of NoCall h = no_told

abbrev pub next_of : Asked → Holding → Holding
next_of (It call) h = next call h
next_of NoCall h = h
