-- The promise of a call over lent words, stores and records. Assumes nothing.
use Rattle.std.specs.Prelude.{◌≡◌, List, ℕ}
use Rattle.std.proofs.Common.{ap, ◌∙◌}
use Rattle.refusal.specs.Answers.{Told}
use Rattle.words.specs.Meaning.{state_of}
use Rattle.engine.specs.declared.state.State.{State}
use Rattle.laws.specs.Calls.{Call, Holding, told, next}
use Rattle.runs.specs.declared.answers.Answer.{Answer}
use Rattle.runs.specs.Asked.{Asked, It, NoCall}
use Rattle.runs.specs.Answers.{answer_of, no_told, told_of, next_of}

-- what words, two stores and records say
abbrev pub holding : State → (sent received records : List ℕ) → Holding
holding x s v c = record { state = x; sent = s; received = v; records = c }

abbrev pub holding_of : (words sent received records : List ℕ) → Holding
holding_of w s v c = record { state = state_of w; sent = s; received = v; records = c }

pub record Did (asked : Asked) (w s v c w2 s2 v2 c2 : List ℕ) (r : Answer) : Type 0 where
  pub answered : r ≡ answer_of (told_of asked (holding_of w s v c))
  pub held : holding_of w2 s2 v2 c2 ≡ next_of asked (holding_of w s v c)

-- of a call that is given the words alone: whatever the stores and records are
abbrev pub OnWords : Asked → (w w2 : List ℕ) → Answer → Type 0
OnWords asked w w2 r = (s v c : List ℕ) → Did asked w s v c w2 s v c r

-- .. the words and the sent store
abbrev pub OnSent : Asked → (w s w2 s2 : List ℕ) → Answer → Type 0
OnSent asked w s w2 s2 r = (v c : List ℕ) → Did asked w s v c w2 s2 v c r

-- .. all but the sent store
abbrev pub OnReceived : Asked → (w v c w2 v2 c2 : List ℕ) → Answer → Type 0
OnReceived asked w v c w2 v2 c2 r = (s : List ℕ) → Did asked w s v c w2 s v2 c2 r

-- ---- laws

pub none-did : (asked : Asked) (w : List ℕ) (r : Answer) → asked ≡ NoCall → r ≡ answer_of no_told → OnWords asked w w r
none-did asked w r is e = λ s v c. record { answered = simp is e; held = simp is }

pub did : (call : Call) (asked : Asked) (w s v c w2 s2 v2 c2 : List ℕ) (r : Answer) (t : Told) → asked ≡ It call → r ≡ answer_of t → t ≡ told call (holding_of w s v c)
    → holding_of w2 s2 v2 c2 ≡ next call (holding_of w s v c) → Did asked w s v c w2 s2 v2 c2 r
did call asked w s v c w2 s2 v2 c2 r t is e tells leaves = record { answered = simp is (e ∙ ap answer_of tells); held = simp is leaves }

pub words-did : (call : Call) (asked : Asked) (w w2 : List ℕ) (r : Answer) (t : Told) (x : State) → asked ≡ It call → r ≡ answer_of t → state_of w2 ≡ x
    → ((s v c : List ℕ) → t ≡ told call (holding_of w s v c)) → ((s v c : List ℕ) → holding x s v c ≡ next call (holding_of w s v c)) → OnWords asked w w2 r
words-did call asked w w2 r t x is e l tells leaves = λ s v c. did call asked w s v c w2 s v c r t is e (tells s v c) (ap (λ y. holding y s v c) l ∙ leaves s v c)
